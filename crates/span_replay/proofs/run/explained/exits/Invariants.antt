use Rattle.std.proofs.Common.{◌≡◌, ◌≤◌, take, count_by}
use Rattle.std.specs.Prelude.{◌==◌}
use Rattle.span_replay.proofs.run.explained.exits.Given as goal

abbrev pub invariant-loop-place : goal.invariant-loop-place
invariant-loop-place l = record {
  so_far : l.exits ≡ count_by (λ entry. entry == l.id) (take l.place l.stack.ids);
  few : l.exits ≤ l.place;
}
