use Rattle.std.proofs.Common.{◌≡◌, ◌≢◌, ◌+◌, ◌<◌, ◌≤◌, length, refl, sym, arith}
use Rattle.std.proofs.lemmas.Bool.{eq-eqb, ne_eqb}
use Rattle.std.proofs.lemmas.List.{length-map}
use Rattle.span_id.specs.Id.{slot_of, generation_of}
use Rattle.span_slots.specs.inside.Cells.{row_of}
use Rattle.span_slots.proofs.CellLemmas.{found_in_cells, value_past_cells}
use Rattle.span_slots.proofs.Slots.get.Goals as goal

pub returns-then-place-len : goal.returns-then-place-len
returns-then-place-len g c =
    let i = c.self.inside in
    let v = c.self.invariant in
    let n : length i.cells.items ≤ 16777216 = omega (arith, length-map i.cells.items row_of, v.used, v.slots_high) in
    let past : length i.cells.items ≤ slot_of c.args.id = omega (arith, i.cells.ok.0, c.slot-place.ensures.value) in
    rw (← c.self.view_is) (sym (value_past_cells i.last_generation i.cells.items c.args.id c.get-layout.ensures.layout v.good n past))

pub returns-then-cell-given : goal.returns-then-cell-given
returns-then-cell-given g c =
    let i = c.self.inside in
    let v = c.self.invariant in
    let n : length i.cells.items ≤ 16777216 = omega (arith, length-map i.cells.items row_of, v.used, v.slots_high) in
    let within : c.slot-place.result < length i.cells.items = omega (arith, i.cells.ok.0) in
    let k = found_in_cells i.last_generation i.cells.items c.args.id c.slot-place.result c.index-cell.result.now c.get-layout.ensures.layout v.good n (sym c.slot-place.ensures.value) within c.index-cell.ensures in
    let ne : c.index-cell.result.now.given ≢ generation_of c.args.id + 1 = omega (arith, c.if-cell-given.true, c.from-given.ensures, c.generation.ensures.value) in
    let t = ne_eqb c.index-cell.result.now.given (generation_of c.args.id + 1) ne in
    rw (← c.self.view_is, k, t) refl

pub returns : goal.returns
returns g c =
    let i = c.self.inside in
    let v = c.self.invariant in
    let n : length i.cells.items ≤ 16777216 = omega (arith, length-map i.cells.items row_of, v.used, v.slots_high) in
    let within : c.slot-place.result < length i.cells.items = omega (arith, i.cells.ok.0) in
    let k = found_in_cells i.last_generation i.cells.items c.args.id c.slot-place.result c.index-cell.result.now c.get-layout.ensures.layout v.good n (sym c.slot-place.ensures.value) within c.index-cell.ensures in
    let e : c.index-cell.result.now.given ≡ generation_of c.args.id + 1 = omega (arith, c.if-cell-given.false, c.from-given.ensures, c.generation.ensures.value) in
    let t = eq-eqb c.index-cell.result.now.given (generation_of c.args.id + 1) e in
    rw (← c.self.view_is, k, t) c.as_ref.ensures.value
