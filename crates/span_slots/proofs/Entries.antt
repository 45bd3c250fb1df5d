-- What a map finds after an entry was put in, taken out or written.
use Rattle.std.proofs.Common.{◌≡◌, ◌≢◌, ℕ, false, eqb, ltb, List, [], ◌∷◌, map, Some, None, IsSome, refl, sym, ap, ◌∙◌, inl, inr}
use Rattle.std.proofs.lemmas.Bool.{eq-eqb, ne_eqb, cases_Bool}
use Rattle.std.proofs.lemmas.Bool.Decides.{eqb_tells}
use Rattle.span_id.specs.Id.{slot_of}
use Rattle.span_slots.specs.Table.{find, with_entry, without_entry, with_value}

module _ {T : Type 0} where
  pub find-with_same : (es : List (ℕ × T)) (id : ℕ) (v : T) → find es id ≡ None → find (with_entry es id v) id ≡ Some v
  find-with_same [] id v none = rw (eq-eqb id id refl) refl
  find-with_same (e ∷ es) id v none =
      elim (cases_Bool (eqb e.0 id)) [
        | inl t ↦ (let there : Some e.1 ≡ None = rw t at none in cc)
        | inr t ↦ (let rest : find es id ≡ None = rw t at none in
            elim (cases_Bool (ltb (slot_of id) (slot_of e.0))) [
              | inl u ↦ rw (u, eq-eqb id id refl) refl
              | inr u ↦ rw (u, t) (find-with_same es id v rest)
            ])
      ]

  pub find-with_other : (es : List (ℕ × T)) (id j : ℕ) (v : T) → j ≢ id → find (with_entry es id v) j ≡ find es j
  find-with_other [] id j v ne = rw (ne_eqb id j (λ q. ne (sym q))) refl
  find-with_other (e ∷ es) id j v ne =
      elim (cases_Bool (ltb (slot_of id) (slot_of e.0))) [
        | inl u ↦ rw (u, ne_eqb id j (λ q. ne (sym q))) refl
        | inr u ↦ rw (u, find-with_other es id j v ne) refl
      ]

  pub find-without_same : (es : List (ℕ × T)) (id : ℕ) → find (without_entry es id) id ≡ None
  find-without_same [] id = refl
  find-without_same (e ∷ es) id =
      elim (cases_Bool (eqb e.0 id)) [
        | inl t ↦ rw t (find-without_same es id)
        | inr t ↦ rw (t, t) (find-without_same es id)
      ]

  pub find-without_other : (es : List (ℕ × T)) (id j : ℕ) → j ≢ id → find (without_entry es id) j ≡ find es j
  find-without_other [] id j ne = refl
  find-without_other (e ∷ es) id j ne =
      elim (eqb_tells e.0 id) [
        | inl t ↦ (let differ : eqb e.0 j ≡ false = ne_eqb e.0 j (λ q. ne (sym q ∙ t.1)) in rw (t.0, differ) (find-without_other es id j ne))
        | inr t ↦ rw (t.0, find-without_other es id j ne) refl
      ]

  pub find-with_value_same : (es : List (ℕ × T)) (id : ℕ) (v : T) → IsSome (find es id) → find (with_value es id v) id ≡ Some v
  find-with_value_same [] id v there = cc
  find-with_value_same (e ∷ es) id v there =
      elim (cases_Bool (eqb e.0 id)) [
        | inl t ↦ rw t refl
        | inr t ↦ rw t (find-with_value_same es id v (rw t at there))
      ]

  pub find-with_value_other : (es : List (ℕ × T)) (id j : ℕ) (v : T) → j ≢ id → find (with_value es id v) j ≡ find es j
  find-with_value_other [] id j v ne = refl
  find-with_value_other (e ∷ es) id j v ne =
      elim (eqb_tells e.0 id) [
        | inl t ↦ (let differ : eqb e.0 j ≡ false = ne_eqb e.0 j (λ q. ne (sym q ∙ t.1)) in rw differ (find-with_value_other es id j v ne))
        | inr t ↦ rw (t.0, find-with_value_other es id j v ne) refl
      ]

  -- a write gives no id a value
  pub find-with_value_none : (es : List (ℕ × T)) (j id : ℕ) (v : T) → find es id ≡ None → find (with_value es j v) id ≡ None
  find-with_value_none [] j id v none = refl
  find-with_value_none (e ∷ es) j id v none =
      elim (cases_Bool (eqb e.0 id)) [
        | inl t ↦ (let there : Some e.1 ≡ None = rw t at none in cc)
        | inr t ↦ rw t (find-with_value_none es j id v (rw t at none))
      ]

  -- and so does no removal
  pub find-without_none : (es : List (ℕ × T)) (j id : ℕ) → find es id ≡ None → find (without_entry es j) id ≡ None
  find-without_none es j id none =
      elim (eqb_tells id j) [
        | inl t ↦ ap (λ x. find (without_entry es x) id) (sym t.1) ∙ find-without_same es id
        | inr t ↦ find-without_other es j id t.1 ∙ none
      ]

  -- a write keeps the ids
  pub ids-with_value : (es : List (ℕ × T)) (j : ℕ) (v : T) → map (λ e. e.0) (with_value es j v) ≡ map (λ e. e.0) es
  ids-with_value [] j v = refl
  ids-with_value (e ∷ es) j v = ap (λ x. e.0 ∷ x) (ids-with_value es j v)
