use Rattle.std.proofs.Common.{◌+◌}
use Rattle.span_core.proofs.Summaries.{AdmitNonePassed}
use Rattle.span_core.proofs.summary.none_admit.Given as goal

-- the set so far has only layers that admit none of the entries so far
abbrev pub invariant-loop-id : goal.invariant-loop-id
invariant-loop-id l = AdmitNonePassed l.forest.spans l.stack.ids l.from (l.from + 64) l.none.0 l.id-iterator
