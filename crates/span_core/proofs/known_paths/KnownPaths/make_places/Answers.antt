use Rattle.span_core.proofs.Remembering.{remembers_same, remembers_place}
use Rattle.span_core.proofs.known_paths.KnownPaths.make_places.Goals as goal

pub returns-in_err-push : goal.returns-in_err-push
returns-in_err-push c = λ forest before.
    remembers_same forest _ _ c.in_err-push.ensures.items
    (c.loop.invariant forest (remembers_same forest _ _ c.in_ok-reserve_exact.ensures.items before))

pub loop-preserved : goal.loop-preserved
loop-preserved c = λ forest before.
    remembers_place forest _ _ c.in_ok-push.ensures.items (c.loop.invariant forest before)

pub returns : goal.returns
returns c = λ forest before.
    c.loop.invariant forest (remembers_same forest _ _ c.in_ok-reserve_exact.ensures.items before)
