use Rattle.std.proofs.Common.{◌≡◌, ◌<◌, Some, length, map, refl, arith}
use Rattle.std.proofs.lemmas.List.{length-map, map-append}
use Rattle.span_slots.specs.inside.Cells.{row_of}
use Rattle.span_slots.proofs.Rows.{length-entries-le}
use Rattle.span_slots.proofs.CellLemmas.{freshened, next_slot_fresh, next_id_fresh, vacant_fresh}
use Rattle.span_slots.proofs.Sound.{IsSound-fresh}
use Rattle.span_slots.proofs.Slots.fresh.Goals as goal

pub overflow_add-self : goal.overflow_add-self
overflow_add-self g c =
    let i = c.self.inside in
    let v = c.self.invariant in
    let lm = length-map i.cells.items row_of in
    (let a = length-entries-le (map row_of i.cells.items) 0 in omega (arith, v.len_is, v.used, v.slots_high))

pub invariant_of-self : goal.invariant_of-self
invariant_of-self g c =
    let i = c.self.inside in
    let v = c.self.invariant in
    let lm = length-map i.cells.items row_of in
    let req = rw (← c.self.view_is) at c.requires.room in
    let room : length i.cells.items < i.slots = (let k = length-map i.cells.items (λ x. x.given) in omega arith) in
    let slot : c.len-slot.result ≡ length i.cells.items = omega (arith, c.len-slot.ensures, i.cells.ok.0) in
    rw (c.push_reserved.ensures.items, map-append) (IsSound-fresh i.slots i.last_generation i.len _ _ _ (map row_of i.cells.items) i.freed.items c.args.value v (simp length-map room) c.push_reserved.ensures.capacity)

pub returns-clause-table : goal.returns-clause-table
returns-clause-table g c =
    let i = c.self.inside in
    let v = c.self.invariant in
    let lm = length-map i.cells.items row_of in
    let req = rw (← c.self.view_is) at c.requires.room in
    let room : length i.cells.items < i.slots = (let k = length-map i.cells.items (λ x. x.given) in omega arith) in
    let slot : c.len-slot.result ≡ length i.cells.items = omega (arith, c.len-slot.ensures, i.cells.ok.0) in
    let none = rw (← c.self.view_is) at c.requires.none_freed in
    let t = freshened i.slots i.last_generation c.len-slot.result i.cells.items i.freed.items (record { given = 1; value = Some c.args.value }) c.args.value (omega (arith, v.slots_high)) slot refl refl none in
    rw (← c.self.view_is, c.push_reserved.ensures.items, c.pack.ensures.id) t

pub returns-clause-vacant : goal.returns-clause-vacant
returns-clause-vacant g c =
    let i = c.self.inside in
    let v = c.self.invariant in
    let lm = length-map i.cells.items row_of in
    let req = rw (← c.self.view_is) at c.requires.room in
    let room : length i.cells.items < i.slots = (let k = length-map i.cells.items (λ x. x.given) in omega arith) in
    let slot : c.len-slot.result ≡ length i.cells.items = omega (arith, c.len-slot.ensures, i.cells.ok.0) in
    rw (← c.self.view_is, c.pack.ensures.id) (vacant_fresh i.last_generation c.len-slot.result i.cells.items v.good (omega (arith, v.slots_high)) slot)

pub returns-clause-slot : goal.returns-clause-slot
returns-clause-slot g c =
    let i = c.self.inside in
    let v = c.self.invariant in
    let req = rw (← c.self.view_is) at c.requires.room in
    let room : length i.cells.items < i.slots = (let k = length-map i.cells.items (λ x. x.given) in omega arith) in
    let slot : c.len-slot.result ≡ length i.cells.items = omega (arith, c.len-slot.ensures, i.cells.ok.0) in
    let none = rw (← c.self.view_is) at c.requires.none_freed in
    rw (← c.self.view_is, c.pack.ensures.id) (next_slot_fresh i.slots i.last_generation c.len-slot.result i.cells.items i.freed.items (omega (arith, v.slots_high)) slot (omega arith) none)

pub push_reserved-requires : goal.push_reserved-requires
push_reserved-requires g c =
    let i = c.self.inside in
    let v = c.self.invariant in
    let req = rw (← c.self.view_is) at c.requires.room in
    let room : length i.cells.items < i.slots = (let k = length-map i.cells.items (λ x. x.given) in omega arith) in
    omega (arith, room, v.cells_room, i.cells.ok.0)

pub returns-clause-id : goal.returns-clause-id
returns-clause-id g c =
    let i = c.self.inside in
    let v = c.self.invariant in
    let req = rw (← c.self.view_is) at c.requires.room in
    let room : length i.cells.items < i.slots = (let k = length-map i.cells.items (λ x. x.given) in omega arith) in
    let slot : c.len-slot.result ≡ length i.cells.items = omega (arith, c.len-slot.ensures, i.cells.ok.0) in
    let none = rw (← c.self.view_is) at c.requires.none_freed in
    rw (← c.self.view_is, c.pack.ensures.id) (next_id_fresh i.slots i.last_generation c.len-slot.result i.cells.items i.freed.items slot (omega arith) none)

pub overflow_cast-slot : goal.overflow_cast-slot
overflow_cast-slot g c =
    let i = c.self.inside in
    let v = c.self.invariant in
    let lm = length-map i.cells.items row_of in
    omega (arith, c.len-slot.ensures, i.cells.ok.0, lm, v.used, v.slots_high)

pub pack-requires : goal.pack-requires
pack-requires g c =
    let i = c.self.inside in
    let v = c.self.invariant in
    let req = rw (← c.self.view_is) at c.requires.room in
    let room : length i.cells.items < i.slots = (let k = length-map i.cells.items (λ x. x.given) in omega arith) in
    omega (arith, c.len-slot.ensures, i.cells.ok.0, room, v.slots_high)
