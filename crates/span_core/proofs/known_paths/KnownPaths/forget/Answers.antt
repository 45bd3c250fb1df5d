use Rattle.span_core.proofs.known_paths.KnownPaths.forget.Goals as goal

pub loop-way-preserved : goal.loop-way-preserved
loop-way-preserved c = λ forest before. c.forget_at.ensures forest (c.loop-way.invariant forest before)

pub loop-id-preserved : goal.loop-id-preserved
loop-id-preserved c = λ forest before. c.loop-way.invariant forest (c.loop-id.invariant forest before)

pub returns : goal.returns
returns c = λ forest before. c.loop-id.invariant forest before
