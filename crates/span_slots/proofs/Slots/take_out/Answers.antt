use Rattle.std.proofs.Common.{◌≡◌, ◌≤◌, ◌<◌, None, Some, refl, sym, ◌∙◌, map, arith}
use Rattle.std.proofs.lemmas.List.{map-set}
use Rattle.span_slots.specs.inside.Cells.{row_of}
use Rattle.span_slots.proofs.Rows.{free_rows_less, length-entries_set_none}
use Rattle.span_slots.proofs.CellLemmas.{taken_free, taken_retired, not_there}
use Rattle.span_slots.proofs.Places.{found}
use Rattle.span_slots.proofs.Sound.{IsSound-taken_free, IsSound-taken_retired}
use Rattle.span_slots.proofs.Slots.take_out.Goals as goal

pub index_mut-cell-requires : goal.index_mut-cell-requires
index_mut-cell-requires g c =
    let i = c.self.inside in
    let f = found i.slots i.last_generation i.len _ _ c.args.id c.slot-slot.result i.cells.items i.freed.items c.self.invariant c.get-layout.ensures.layout c.slot-slot.ensures.value (rw (← c.self.view_is) at c.requires) in
    omega (arith, f.within, i.cells.ok.0)

pub unreachable-requires : goal.unreachable-requires
unreachable-requires g c =
    let i = c.self.inside in
    let there = rw (← c.self.view_is) at c.requires in
    let f = found i.slots i.last_generation i.len _ _ c.args.id c.slot-slot.result i.cells.items i.freed.items c.self.invariant c.get-layout.ensures.layout c.slot-slot.ensures.value there in
    not_there _ there (f.value c.index_mut-cell.result.now c.index_mut-cell.ensures.value ∙ (sym c.take.ensures.value ∙ c.in_default.is))

pub overflow_sub-self : goal.overflow_sub-self
overflow_sub-self g c =
    let i = c.self.inside in
    let v = c.self.invariant in
    let f = found i.slots i.last_generation i.len _ _ c.args.id c.slot-slot.result i.cells.items i.freed.items v c.get-layout.ensures.layout c.slot-slot.ensures.value (rw (← c.self.view_is) at c.requires) in
    let cell = c.index_mut-cell.result.now in
    let row = f.row cell c.in-Some.value c.index_mut-cell.ensures.value (sym c.take.ensures.value ∙ c.in-Some.is) in
    let less = length-entries_set_none (map row_of i.cells.items) 0 c.slot-slot.result cell.given cell.given c.in-Some.value (0, None) f.row_within row in
    omega (arith, v.len_is)

pub push_reserved-requires : goal.push_reserved-requires
push_reserved-requires g c =
    let i = c.self.inside in
    let v = c.self.invariant in
    let f = found i.slots i.last_generation i.len _ _ c.args.id c.slot-slot.result i.cells.items i.freed.items v c.get-layout.ensures.layout c.slot-slot.ensures.value (rw (← c.self.view_is) at c.requires) in
    let row = f.row c.index_mut-cell.result.now c.in-Some.value c.index_mut-cell.ensures.value (sym c.take.ensures.value ∙ c.in-Some.is) in
    let less = free_rows_less i.last_generation (map row_of i.cells.items) c.slot-slot.result (0, None) f.row_within (rw row refl) in
    omega (arith, v.freed_count, v.freed_room, v.used, i.freed.ok.0)

pub invariant_of-self : goal.invariant_of-self
invariant_of-self g c =
    let i = c.self.inside in
    let v = c.self.invariant in
    let f = found i.slots i.last_generation i.len _ _ c.args.id c.slot-slot.result i.cells.items i.freed.items v c.get-layout.ensures.layout c.slot-slot.ensures.value (rw (← c.self.view_is) at c.requires) in
    let cell = c.index_mut-cell.result.now in
    let row = f.row cell c.in-Some.value c.index_mut-cell.ensures.value (sym c.take.ensures.value ∙ c.in-Some.is) in
    let le : cell.given ≤ i.last_generation = omega (arith, c.if-given-from.true, c.from.ensures) in
    rw (map-set, c.take.ensures.after) (IsSound-taken_free i.slots i.last_generation i.len _ _ _ c.slot-slot.result cell.given (map row_of i.cells.items) i.freed.items c.push_reserved.new.self.items c.in-Some.value (0, None) v f.row_within row le c.push_reserved.ensures.capacity c.push_reserved.ensures.items)

pub invariant_of-self-else-given-from : goal.invariant_of-self-else-given-from
invariant_of-self-else-given-from g c =
    let i = c.self.inside in
    let v = c.self.invariant in
    let f = found i.slots i.last_generation i.len _ _ c.args.id c.slot-slot.result i.cells.items i.freed.items v c.get-layout.ensures.layout c.slot-slot.ensures.value (rw (← c.self.view_is) at c.requires) in
    let cell = c.index_mut-cell.result.now in
    let row = f.row cell c.in-Some.value c.index_mut-cell.ensures.value (sym c.take.ensures.value ∙ c.in-Some.is) in
    let lt : i.last_generation < cell.given = omega (arith, c.if-given-from.false, c.from.ensures) in
    rw (map-set, c.take.ensures.after) (IsSound-taken_retired i.slots i.last_generation i.len _ _ c.slot-slot.result cell.given (map row_of i.cells.items) i.freed.items c.in-Some.value (0, None) v f.row_within row lt)

pub returns-then-given-from : goal.returns-then-given-from
returns-then-given-from g c =
    let i = c.self.inside in
    let there = rw (← c.self.view_is) at c.requires in
    let f = found i.slots i.last_generation i.len _ _ c.args.id c.slot-slot.result i.cells.items i.freed.items c.self.invariant c.get-layout.ensures.layout c.slot-slot.ensures.value there in
    let cell = c.index_mut-cell.result.now in
    let at = c.index_mut-cell.ensures.value in
    let some : cell.value ≡ Some c.in-Some.value = sym c.take.ensures.value ∙ c.in-Some.is in
    let le : cell.given ≤ i.last_generation = omega (arith, c.if-given-from.true, c.from.ensures) in
    record {
      value = rw (← c.self.view_is) (f.value cell at ∙ some);
      table = rw (← c.self.view_is) (taken_free i.slots i.last_generation c.args.id c.slot-slot.result i.cells.items i.freed.items c.push_reserved.new.self.items cell (record { given = cell.given; value = c.take.new.self }) c.in-Some.value (f.cell_of cell _ at some) refl c.take.ensures.after there le c.push_reserved.ensures.items);
    }

pub returns-else-given-from : goal.returns-else-given-from
returns-else-given-from g c =
    let i = c.self.inside in
    let there = rw (← c.self.view_is) at c.requires in
    let f = found i.slots i.last_generation i.len _ _ c.args.id c.slot-slot.result i.cells.items i.freed.items c.self.invariant c.get-layout.ensures.layout c.slot-slot.ensures.value there in
    let cell = c.index_mut-cell.result.now in
    let at = c.index_mut-cell.ensures.value in
    let some : cell.value ≡ Some c.in-Some.value = sym c.take.ensures.value ∙ c.in-Some.is in
    let lt : i.last_generation < cell.given = omega (arith, c.if-given-from.false, c.from.ensures) in
    record {
      value = rw (← c.self.view_is) (f.value cell at ∙ some);
      table = rw (← c.self.view_is) (taken_retired i.slots i.last_generation c.args.id c.slot-slot.result i.cells.items i.freed.items cell (record { given = cell.given; value = c.take.new.self }) c.in-Some.value (f.cell_of cell _ at some) refl c.take.ensures.after there lt);
    }
