use Rattle.std.proofs.Common.{◌≡◌, ◌+◌, None, Some, [], ◌∷◌, ◌++◌, map, refl, ap, ◌∙◌, arith}
use Rattle.std.specs.Option.{option_to_list}
use Rattle.std.proofs.lemmas.List.{length-map, map-set}
use Rattle.span_slots.specs.inside.Cells.{row_of}
use Rattle.span_slots.proofs.Rows.{length-entries-le}
use Rattle.span_slots.proofs.CellLemmas.{reused, next_id_reused, next_slot_reused, vacant_reused}
use Rattle.span_slots.proofs.Places.{reusable}
use Rattle.span_slots.proofs.Sound.{IsSound-reused}
use Rattle.span_slots.proofs.Slots.reuse.Goals as goal

pub index_mut-cell-requires : goal.index_mut-cell-requires
index_mut-cell-requires g c =
    let i = c.self.inside in
    let v = c.self.invariant in
    let popped : i.freed.items ≡ c.pop.new.self.items ++ c.in-Some.slot ∷ [] = c.pop.ensures.items ∙ ap (λ x. c.pop.new.self.items ++ option_to_list x) c.in-Some.is in
    let f = reusable i.slots i.last_generation i.len _ _ c.in-Some.slot i.cells.items i.freed.items c.pop.new.self.items v popped in
    omega (arith, f.within, i.cells.ok.0)

pub overflow_add-cell : goal.overflow_add-cell
overflow_add-cell g c =
    let i = c.self.inside in
    let v = c.self.invariant in
    let popped : i.freed.items ≡ c.pop.new.self.items ++ c.in-Some.slot ∷ [] = c.pop.ensures.items ∙ ap (λ x. c.pop.new.self.items ++ option_to_list x) c.in-Some.is in
    let f = reusable i.slots i.last_generation i.len _ _ c.in-Some.slot i.cells.items i.freed.items c.pop.new.self.items v popped in
    let cell = c.index_mut-cell.result.now in
    let at = c.index_mut-cell.ensures.value in
    omega (arith, f.low cell at, v.last_high)

pub overflow_add-self : goal.overflow_add-self
overflow_add-self g c =
    let i = c.self.inside in
    let v = c.self.invariant in
    omega (arith, length-map i.cells.items row_of, length-entries-le (map row_of i.cells.items) 0, v.len_is, v.used, v.slots_high)

pub overflow_cast-given : goal.overflow_cast-given
overflow_cast-given g c =
    let i = c.self.inside in
    let v = c.self.invariant in
    let popped : i.freed.items ≡ c.pop.new.self.items ++ c.in-Some.slot ∷ [] = c.pop.ensures.items ∙ ap (λ x. c.pop.new.self.items ++ option_to_list x) c.in-Some.is in
    let f = reusable i.slots i.last_generation i.len _ _ c.in-Some.slot i.cells.items i.freed.items c.pop.new.self.items v popped in
    let cell = c.index_mut-cell.result.now in
    let at = c.index_mut-cell.ensures.value in
    omega (arith, f.low cell at, v.last_high)

pub pack-requires : goal.pack-requires
pack-requires g c =
    let i = c.self.inside in
    let v = c.self.invariant in
    let popped : i.freed.items ≡ c.pop.new.self.items ++ c.in-Some.slot ∷ [] = c.pop.ensures.items ∙ ap (λ x. c.pop.new.self.items ++ option_to_list x) c.in-Some.is in
    let f = reusable i.slots i.last_generation i.len _ _ c.in-Some.slot i.cells.items i.freed.items c.pop.new.self.items v popped in
    omega (arith, f.within, length-map i.cells.items row_of, v.used, v.slots_high)

pub invariant_of-self : goal.invariant_of-self
invariant_of-self g c =
    let i = c.self.inside in
    let v = c.self.invariant in
    let popped : i.freed.items ≡ c.pop.new.self.items ++ c.in-Some.slot ∷ [] = c.pop.ensures.items ∙ ap (λ x. c.pop.new.self.items ++ option_to_list x) c.in-Some.is in
    let f = reusable i.slots i.last_generation i.len _ _ c.in-Some.slot i.cells.items i.freed.items c.pop.new.self.items v popped in
    let cell = c.index_mut-cell.result.now in
    let at = c.index_mut-cell.ensures.value in
    rw map-set (IsSound-reused i.slots i.last_generation i.len _ _ _ c.in-Some.slot cell.given (map row_of i.cells.items) i.freed.items c.pop.new.self.items c.args.value (0, None) v f.row_within (f.row cell at) (f.low cell at) c.pop.ensures.capacity popped)

pub returns-clause-slot : goal.returns-clause-slot
returns-clause-slot g c =
    let i = c.self.inside in
    let v = c.self.invariant in
    let popped : i.freed.items ≡ c.pop.new.self.items ++ c.in-Some.slot ∷ [] = c.pop.ensures.items ∙ ap (λ x. c.pop.new.self.items ++ option_to_list x) c.in-Some.is in
    let f = reusable i.slots i.last_generation i.len _ _ c.in-Some.slot i.cells.items i.freed.items c.pop.new.self.items v popped in
    let cell = c.index_mut-cell.result.now in
    let at = c.index_mut-cell.ensures.value in
    rw (← c.self.view_is, c.pack.ensures.id) (next_slot_reused i.slots i.last_generation c.in-Some.slot cell.given i.cells.items i.freed.items c.pop.new.self.items (omega (arith, f.within, length-map i.cells.items row_of, v.used, v.slots_high)) popped)

pub returns-clause-id : goal.returns-clause-id
returns-clause-id g c =
    let i = c.self.inside in
    let v = c.self.invariant in
    let popped : i.freed.items ≡ c.pop.new.self.items ++ c.in-Some.slot ∷ [] = c.pop.ensures.items ∙ ap (λ x. c.pop.new.self.items ++ option_to_list x) c.in-Some.is in
    let f = reusable i.slots i.last_generation i.len _ _ c.in-Some.slot i.cells.items i.freed.items c.pop.new.self.items v popped in
    let cell = c.index_mut-cell.result.now in
    let at = c.index_mut-cell.ensures.value in
    rw (← c.self.view_is, c.pack.ensures.id) (next_id_reused i.slots i.last_generation c.in-Some.slot i.cells.items i.freed.items c.pop.new.self.items cell f.within at popped)

pub returns-clause-table : goal.returns-clause-table
returns-clause-table g c =
    let i = c.self.inside in
    let v = c.self.invariant in
    let popped : i.freed.items ≡ c.pop.new.self.items ++ c.in-Some.slot ∷ [] = c.pop.ensures.items ∙ ap (λ x. c.pop.new.self.items ++ option_to_list x) c.in-Some.is in
    let f = reusable i.slots i.last_generation i.len _ _ c.in-Some.slot i.cells.items i.freed.items c.pop.new.self.items v popped in
    let cell = c.index_mut-cell.result.now in
    let at = c.index_mut-cell.ensures.value in
    let new = reused i.slots i.last_generation c.in-Some.slot i.cells.items i.freed.items c.pop.new.self.items cell (record { given = cell.given + 1; value = Some c.args.value }) c.args.value f.small f.within at (f.none cell at) refl refl popped in
    rw (← c.self.view_is, c.pack.ensures.id) new

pub returns-clause-vacant : goal.returns-clause-vacant
returns-clause-vacant g c =
    let i = c.self.inside in
    let v = c.self.invariant in
    let popped : i.freed.items ≡ c.pop.new.self.items ++ c.in-Some.slot ∷ [] = c.pop.ensures.items ∙ ap (λ x. c.pop.new.self.items ++ option_to_list x) c.in-Some.is in
    let f = reusable i.slots i.last_generation i.len _ _ c.in-Some.slot i.cells.items i.freed.items c.pop.new.self.items v popped in
    let cell = c.index_mut-cell.result.now in
    let at = c.index_mut-cell.ensures.value in
    rw (← c.self.view_is, c.pack.ensures.id) (vacant_reused i.last_generation c.in-Some.slot i.cells.items cell v.good f.small f.within at (f.none cell at) (omega (arith, f.low cell at, v.last_high)))
