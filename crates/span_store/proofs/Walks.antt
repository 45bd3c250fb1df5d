-- A walk over the entries and one over the spans that they stand for.
use Rattle.std.proofs.Common.{◌≡◌, ℕ, leb, List, [], ◌∷◌, map, refl, ap, inl, inr}
use Rattle.std.proofs.lemmas.Bool.{cases_Bool}
use Rattle.span_id.specs.Id.{slot_of}
use Rattle.span_slots.specs.Table.{id_from, ids_from}
use Rattle.span_store.specs.declared.entry.Entry.{Entry}
use Rattle.span_store.specs.inside.Invariant.{spans_of}

pub id_from-spans : (es : List (ℕ × Entry)) (slot : ℕ) → id_from (spans_of es) slot ≡ id_from es slot
id_from-spans [] slot = refl
id_from-spans (e ∷ es) slot =
    let r = id_from-spans es slot in
    elim (cases_Bool (leb slot (slot_of e.0))) [ inl t ↦ rw t refl | inr t ↦ rw t r ]

pub ids_from-spans : (es : List (ℕ × Entry)) (slot : ℕ) → ids_from (spans_of es) slot ≡ ids_from es slot
ids_from-spans [] slot = refl
ids_from-spans (e ∷ es) slot =
    let r = ids_from-spans es slot in
    elim (cases_Bool (leb slot (slot_of e.0))) [ inl t ↦ rw t (ap (λ x. e.0 ∷ x) r) | inr t ↦ rw t r ]

pub ids-spans : (es : List (ℕ × Entry)) → map (λ e. e.0) (spans_of es) ≡ map (λ e. e.0) es
ids-spans [] = refl
ids-spans (e ∷ es) = ap (λ x. e.0 ∷ x) (ids-spans es)
