use Rattle.std.proofs.Common.{take, drop}
use Rattle.span_forest.proofs.Counts.{Closes}
use Rattle.span_forest.proofs.closing.let_go.Given as goal

abbrev pub invariant-loop-gone : goal.invariant-loop-gone
invariant-loop-gone l = Closes l.initial.slots l.slots (take l.gone-index l.above) (drop l.gone-index l.above)
