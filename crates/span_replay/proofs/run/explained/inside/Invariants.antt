use Rattle.std.proofs.Common.{◌≡◌, map, take}
use Rattle.std.specs.Prelude.{filter, nat_lt}
use Rattle.span_replay.specs.Explained.{inside_of}
use Rattle.span_replay.specs.inside.Running.{core_in}
use Rattle.span_replay.proofs.run.explained.inside.Given as goal

abbrev pub invariant-loop-worker : goal.invariant-loop-worker
invariant-loop-worker g l =
    l.inside.items ≡ map (inside_of (core_in l.fn.script).world l.fn.details.id)
    (filter (λ worker. nat_lt worker (core_in l.fn.script).limits.workers) (take l.worker-index l.worker-items))
