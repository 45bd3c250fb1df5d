use Rattle.span_core.proofs.known_paths.KnownPaths.keep.Goals as goal

pub returns-then-is_err : goal.returns-then-is_err
returns-then-is_err c = λ forest issued read before. c.make_places.ensures forest before

pub loop-way-init : goal.loop-way-init
loop-way-init c = λ forest issued read before. c.make_places.ensures forest before

pub loop-way-preserved : goal.loop-way-preserved
loop-way-preserved c = λ forest issued read before. c.keep_at.ensures forest issued read (c.loop-way.invariant forest issued read before)

pub returns-then-keep_at : goal.returns-then-keep_at
returns-then-keep_at c = λ forest issued read before. c.keep_at.ensures forest issued read (c.loop-way.invariant forest issued read before)

pub loop-way-2-preserved : goal.loop-way-2-preserved
loop-way-2-preserved c = λ forest issued read before. c.displace_at.ensures forest issued read (c.loop-way-2.invariant forest issued read before)

pub returns-then-displace_at : goal.returns-then-displace_at
returns-then-displace_at c = λ forest issued read before. c.displace_at.ensures forest issued read (c.loop-way-2.invariant forest issued read before)
