use Rattle.std.proofs.Common.{◌≡◌, ◌≤◌, length, map, take}
use Rattle.std.specs.Prelude.{vec_capacity}
use Rattle.span_slots.specs.inside.Cells.{row_of}
use Rattle.span_slots.specs.inside.Rows.{entries_from}
use Rattle.span_slots.proofs.Slots.ids.Given as goal

-- the ids of the cells so far, in a list with room for all
abbrev pub invariant-loop-slot : goal.invariant-loop-slot
invariant-loop-slot g l = record {
  so_far : l.ids.items ≡ map (λ e. e.0) (entries_from 0 (take l.slot (map row_of l.cell-items)));
  room : length (entries_from 0 (map row_of l.cell-items)) ≤ vec_capacity l.ids;
}
