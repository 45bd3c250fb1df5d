use Rattle.std.proofs.Common.{◌≡◌, ℕ, ◌<◌, List, [], map, sym, ap, subst, arith}
use Rattle.std.specs.Prelude.{slice_index}
use Rattle.span_id.specs.Limits.{AreInRange}
use Rattle.span_slots.specs.inside.Cells.{row_of}
use Rattle.span_slots.proofs.Sound.{IsSound-empty}
use Rattle.span_slots.proofs.Slots.new.Goals as goal

pub invariant_of-result : goal.invariant_of-result
invariant_of-result g c =
    let limits = c.limits-limits.result.now in
    let range = subst AreInRange (sym c.limits-limits.ensures.value) c.limits-limits.ensures.in_range in
    let cells = c.in_ok-cells.ensures in
    let freed = c.in_ok-freed.ensures in
    IsSound-empty limits.slots limits.last_generation _ _ _ _ range.slots_high range.last_generation cells.capacity freed.capacity (ap (map row_of) cells.items) freed.items

none_given : (given : List ℕ) (slot generation : ℕ) → given ≡ [] → generation < slice_index given slot → ⊥
none_given given slot generation none issued = omega (arith, rw none at issued)

pub returns-clause-none_issued : goal.returns-clause-none_issued
returns-clause-none_issued g c = λ id issued. none_given _ _ _ (ap (map (λ cell. cell.given)) c.in_ok-cells.ensures.items) issued
