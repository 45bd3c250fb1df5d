use Rattle.std.proofs.Common.{◌≡◌, vec_len, vec_capacity}
use Rattle.span_outlet.proofs.note_lines.recycle.Given as goal

abbrev pub invariant-loop-line : goal.invariant-loop-line
invariant-loop-line l = vec_capacity l.lines ≡ vec_capacity l.fn.lines

abbrev pub decreases-loop-line : goal.decreases-loop-line
decreases-loop-line l = vec_len l.lines
