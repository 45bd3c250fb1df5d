use Rattle.std.proofs.Common.{◌≡◌, ◌++◌, map}
use Rattle.std.specs.Vec.Iter.{into_iter_items}
use Rattle.span_core.specs.Details.{plain_details}
use Rattle.span_replay.specs.Explained.{open_spans_in, open_span_of}
use Rattle.span_replay.specs.inside.Reaching.{reached_at}
use Rattle.span_script.specs.Operation.{Stage}
use Rattle.span_why.specs.Why.{plain_open_span}
use Rattle.span_replay.proofs.run.explained.open_spans.Given as goal

-- what is told, with what is still to be told, is all
abbrev pub invariant-loop-one : goal.invariant-loop-one
invariant-loop-one g l = (stage : Stage) →
    map plain_open_span l.spans.items ++ map (open_span_of (reached_at l.reaching stage)) (map plain_details (into_iter_items l.one-iterator)) ≡ open_spans_in (reached_at l.reaching stage)
