use Rattle.std.proofs.Common.{◌≡◌, ◌≤◌, ◌++◌, length, take, reverse}
use Rattle.span_replay.proofs.run.script.topmost_first.Given as goal

-- the ids so far, and those that are still below, are all
abbrev pub invariant-loop-below : goal.invariant-loop-below
invariant-loop-below l = record {
  ids : l.ids.items ++ reverse (take l.below l.stack.ids) ≡ reverse l.stack.ids;
  in_range : l.below ≤ length l.stack.ids;
}

abbrev pub decreases-loop-below : goal.decreases-loop-below
decreases-loop-below l = l.below
