use Rattle.std.proofs.Common.{Some, sym, ap, ◌∙◌, arith}
use Rattle.std.proofs.lemmas.List.{length-map}
use Rattle.span_slots.specs.inside.Cells.{row_of}
use Rattle.span_slots.proofs.IdLists.{good_cell}
use Rattle.span_slots.proofs.Walks.{from_empty, from_full, from_end}
use Rattle.span_slots.proofs.Slots.id_from.Goals as goal

pub overflow_sub-cell : goal.overflow_sub-cell
overflow_sub-cell g c =
    let i = c.self.inside in
    let cell = good_cell i.last_generation i.cells.items c.loop-place.place c.index-cell.result.now c.self.invariant.good (omega (arith, c.loop-place-test.true)) c.index-cell.ensures in
    omega (arith, cell.0)

pub overflow_cast-cell : goal.overflow_cast-cell
overflow_cast-cell g c =
    let i = c.self.inside in
    let cell = good_cell i.last_generation i.cells.items c.loop-place.place c.index-cell.result.now c.self.invariant.good (omega (arith, c.loop-place-test.true)) c.index-cell.ensures in
    omega (arith, cell.1, c.self.invariant.last_high)

pub returns-then-occupied : goal.returns-then-occupied
returns-then-occupied g c =
    let i = c.self.inside in
    let v = c.self.invariant in
    let full = from_full i.cells.items c.loop-place.place c.index-cell.result.now (omega (arith, v.used, v.slots_high, length-map i.cells.items row_of)) (omega (arith, c.loop-place-test.true)) c.index-cell.ensures (sym c.is_some-occupied.ensures ∙ c.if-occupied.true) in
    rw c.loop-place.invariant (rw (← c.self.view_is) (ap (λ x. Some x) c.pack.ensures.id ∙ sym full))

pub loop-place-preserved : goal.loop-place-preserved
loop-place-preserved g c =
    let i = c.self.inside in
    let v = c.self.invariant in
    let empty = from_empty i.cells.items c.loop-place.place c.index-cell.result.now (omega (arith, v.used, v.slots_high, length-map i.cells.items row_of)) (omega (arith, c.loop-place-test.true)) c.index-cell.ensures (sym c.is_some-occupied.ensures ∙ c.if-occupied.false) in
    c.loop-place.invariant ∙ rw (← c.self.view_is) empty

pub returns : goal.returns
returns g c =
    let i = c.self.inside in
    let v = c.self.invariant in
    let end = from_end i.cells.items c.loop-place.place (omega (arith, v.used, v.slots_high, length-map i.cells.items row_of)) (omega (arith, c.loop-place-test.false)) in
    sym (c.loop-place.invariant ∙ rw (← c.self.view_is) end)
