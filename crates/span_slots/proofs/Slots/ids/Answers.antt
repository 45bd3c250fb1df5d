use Rattle.std.proofs.Common.{◌≡◌, length, map, is_some, true, false, refl, sym, ap, subst, arith}
use Rattle.std.proofs.lemmas.List.{length-map, take_all}
use Rattle.span_slots.specs.inside.Cells.{row_of}
use Rattle.span_slots.specs.inside.Rows.{AreGoodRows}
use Rattle.span_slots.proofs.IdLists.{good_cell, ids-more_none, ids-more_some, length-ids_of}
use Rattle.span_slots.proofs.Slots.ids.Goals as goal
use Rattle.span_slots.proofs.Slots.ids.Goals.{then-occupied, else-occupied}

pub loop-slot-init : goal.loop-slot-init
loop-slot-init g c =
    let v = c.self.invariant in
    let cells = c.deref-cell-items.ensures.value in
    record {
      so_far = c.in_ok-ids.ensures.items;
      room = rw cells (omega (arith, v.len_is, c.in_ok-ids.ensures.capacity));
    }

pub overflow_cast-slot : goal.overflow_cast-slot
overflow_cast-slot g c =
    let i = c.self.inside in
    let v = c.self.invariant in
    let cells = ap length c.deref-cell-items.ensures.value in
    omega (arith, c.loop-slot-test.true, cells, length-map i.cells.items row_of, v.used, v.slots_high)

pub pack-requires : goal.pack-requires
pack-requires g c =
    let i = c.self.inside in
    let v = c.self.invariant in
    let cells = ap length c.deref-cell-items.ensures.value in
    omega (arith, c.loop-slot-test.true, cells, length-map i.cells.items row_of, v.used, v.slots_high)

pub overflow_sub-cell : goal.overflow_sub-cell
overflow_sub-cell g c =
    let i = c.self.inside in
    let good = subst (λ x. AreGoodRows i.last_generation (map row_of x)) (sym c.deref-cell-items.ensures.value) c.self.invariant.good in
    let cell = good_cell i.last_generation c.deref-cell-items.result.now c.loop-slot.slot c.cell-item.result good c.loop-slot-test.true c.cell-item.is in
    omega (arith, cell.0)

pub overflow_cast-cell : goal.overflow_cast-cell
overflow_cast-cell g c =
    let i = c.self.inside in
    let good = subst (λ x. AreGoodRows i.last_generation (map row_of x)) (sym c.deref-cell-items.ensures.value) c.self.invariant.good in
    let cell = good_cell i.last_generation c.deref-cell-items.result.now c.loop-slot.slot c.cell-item.result good c.loop-slot-test.true c.cell-item.is in
    omega (arith, cell.1, c.self.invariant.last_high)

pub push_reserved-requires : goal.push_reserved-requires
push_reserved-requires g c =
    let some : is_some c.cell-item.result.value ≡ true = cc in
    let less = length-ids_of c.deref-cell-items.result.now c.loop-slot.slot c.cell-item.result c.loop-slot-test.true c.cell-item.is some in
    let len = ap length c.loop-slot.invariant.so_far in
    omega (arith, c.loop-slot.invariant.room, c.loop-slot.ids.ok.0)

pub loop-slot-preserved : goal.loop-slot-preserved
loop-slot-preserved g c =
    elim c.if-occupied.branch [
      | then-occupied w ↦ (
          let some : is_some c.cell-item.result.value ≡ true = cc in
          let more = ids-more_some c.deref-cell-items.result.now c.loop-slot.slot c.cell-item.result c.loop-slot-test.true c.cell-item.is some in
          record {
            so_far = rw (w.ids-is, w.push_reserved.ensures.items, c.loop-slot.invariant.so_far, w.pack.ensures.id, more) refl;
            room = rw (w.ids-is, w.push_reserved.ensures.capacity) c.loop-slot.invariant.room;
          })
      | else-occupied w ↦ (
          let none : is_some c.cell-item.result.value ≡ false = cc in
          let more = ids-more_none c.deref-cell-items.result.now c.loop-slot.slot c.cell-item.result c.loop-slot-test.true c.cell-item.is none in
          record {
            so_far = rw (w.ids-is, more) c.loop-slot.invariant.so_far;
            room = rw w.ids-is c.loop-slot.invariant.room;
          })
    ]

pub returns-clause-ids : goal.returns-clause-ids
returns-clause-ids g c =
    let i = c.self.inside in
    let cells = c.deref-cell-items.ensures.value in
    let len = length-map c.deref-cell-items.result.now row_of in
    let all = take_all c.loop-slot.slot (map row_of c.deref-cell-items.result.now) (omega arith) in
    rw (← c.self.view_is, c.loop-slot.invariant.so_far, all, cells) refl
