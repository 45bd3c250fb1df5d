use Rattle.std.proofs.Common.{◌≡◌, ◌≤◌, ◌++◌, length, map, drop, reverse}
use Rattle.span_why.proofs.tree.push_last_first.Given as goal

-- the trees that were left are below those that come next
abbrev pub invariant-loop-left : goal.invariant-loop-left
invariant-loop-left l = record {
  next : reverse l.pending.items ≡ map (λ span. record { depth = l.depth; span = span }) (drop l.left l.spans) ++ reverse l.initial.pending.items;
  in_range : l.left ≤ length l.spans;
}

abbrev pub decreases-loop-left : goal.decreases-loop-left
decreases-loop-left l = l.left
