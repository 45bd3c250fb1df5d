-- No id is left exactly where each slot is used up.
use Rattle.std.proofs.Common.{◌≡◌, ℕ, ◌<◌, true, ◌||◌, List, None, sym, ap, subst, ◌∙◌, inl, inr, arith}
use Rattle.std.specs.Prelude.{◌↔◌, nat_lt, slice_index}
use Rattle.std.proofs.lemmas.Bool.{cases_lt, lt-ltb, le-ltb, false≢true}
use Rattle.span_id.specs.declared.limits.Limits.{Limits}
use Rattle.span_id.specs.Limits.{AreInRange}
use Rattle.span_id.specs.Id.{id_of, slot_of, generation_of, IsId}
use Rattle.span_id.specs.Ids.{has}
use Rattle.span_slots.specs.Table.{IsFull, is_retired}
use Rattle.span_layers.specs.Filter.{Filter}
use Rattle.span_forest.specs.Forest.{ForestView, table_of, next_span_id}
use Rattle.span_forest.proofs.Walks.{same_test}
use Rattle.span_outlet.specs.Batch.{PlainBatch}
use Rattle.span_core.specs.History.{issued}
use Rattle.span_core.specs.NextId.{next_id_after, has_open_span, is_used_up}
use Rattle.span_core.specs.inside.Sound.{IsSound}

below : (a b : ℕ) → nat_lt a b ≡ true → a < b
below a b t = elim (cases_lt a b) [ inl low ↦ low | inr high ↦ absurd (false≢true (sym (le-ltb a b high) ∙ t)) ]

module _ (limits : Limits) (rules : List Filter) (forest : ForestView) (stacks : List (List ℕ)) (calls : ℕ) (sent : List PlainBatch) (sound : IsSound limits forest stacks rules calls sent) (range : AreInRange limits) where
  last_is : forest.last_generation ≡ limits.last_generation
  last_is = ap (λ (f : ForestView). f.last_generation) sound.forest_is

  slots_are : forest.slots ≡ limits.slots
  slots_are = ap (λ (f : ForestView). f.slots) sound.forest_is

  in_layout : (slot : ℕ) → slot < limits.slots → IsId (id_of slot limits.last_generation)
  in_layout slot low = omega (arith, low, range.slots_high, range.last_generation)

  retired_is : (slot : ℕ) → slot < limits.slots → is_retired (table_of forest) slot ≡ has (issued sent) (id_of slot limits.last_generation)
  retired_is slot low =
      let id = id_of slot limits.last_generation in
      ap (λ last. nat_lt (generation_of (id_of slot last)) (slice_index forest.given (slot_of (id_of slot last)))) last_is
      ∙ same_test (nat_lt (generation_of id) (slice_index forest.given (slot_of id))) (has (issued sent) id)
      (λ t. sound.given id (in_layout slot low) (below _ _ t))
      (λ t. lt-ltb _ _ (sound.counted id t))

  used_up_is : (slot : ℕ) → slot < limits.slots → (has_open_span forest.spans slot || is_retired (table_of forest) slot) ≡ is_used_up limits.last_generation forest.spans sent slot
  used_up_is slot low = ap (λ b. has_open_span forest.spans slot || b) (retired_is slot low)

  pub full_exactly : (next_span_id forest ≡ None) ↔ IsFull (table_of forest)
      → (next_id_after limits.slots limits.last_generation sent ≡ None) ↔ ((slot : ℕ) → slot < limits.slots → is_used_up limits.last_generation forest.spans sent slot ≡ true)
  full_exactly full =
      let same : next_span_id forest ≡ next_id_after limits.slots limits.last_generation sent = ap next_span_id sound.forest_is in (
        λ nothing slot low. sym (used_up_is slot low) ∙ full.0 (same ∙ nothing) slot (subst (λ (n : ℕ). slot < n) (sym slots_are) low),
        λ used. sym same ∙ full.1 (λ slot low. (let low' : slot < limits.slots = subst (λ (n : ℕ). slot < n) slots_are low in used_up_is slot low' ∙ used slot low')),
      )
