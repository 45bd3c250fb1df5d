use Rattle.std.proofs.Common.{◌-◌, ◌≤◌, length}
use Rattle.span_layers.specs.inside.Clean.{IsCleanIn}
use Rattle.span_layers.proofs.clean.has_no_escapes.Given as goal

abbrev pub invariant-loop-start : goal.invariant-loop-start
invariant-loop-start l = record {
  in_range : l.start ≤ length l.text;
  clean : IsCleanIn l.text 0 l.start;
}

abbrev pub decreases-loop-start : goal.decreases-loop-start
decreases-loop-start l = length l.text - l.start
