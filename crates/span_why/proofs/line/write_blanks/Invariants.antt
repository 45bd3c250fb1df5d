use Rattle.std.proofs.Common.{◌≡◌, ◌++◌}
use Rattle.span_why.specs.Why.{blanks}
use Rattle.span_why.proofs.line.write_blanks.Given as goal

abbrev pub invariant-loop-left : goal.invariant-loop-left
invariant-loop-left l = l.text.items ++ blanks l.left ≡ l.initial.text.items ++ blanks l.levels

abbrev pub decreases-loop-left : goal.decreases-loop-left
decreases-loop-left l = l.left
