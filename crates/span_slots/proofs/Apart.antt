-- Maps whose ids stand once.
use Rattle.std.proofs.Common.{◌≡◌, ℕ, ◌+◌, ltb, List, [], ◌∷◌, length, None, Some, IsSome, refl, ap, ◌∙◌, inl, inr, arith}
use Rattle.std.proofs.lemmas.Bool.{cases_Bool}
use Rattle.std.proofs.lemmas.Bool.Decides.{eqb_tells}
use Rattle.span_id.specs.Id.{slot_of}
use Rattle.span_slots.specs.Table.{find, with_entry, without_entry, with_value, AreApart}
use Rattle.span_slots.proofs.Entries.{find-with_other, find-without_none, find-with_value_none}

module _ {T : Type 0} where
  -- where an id has no value, nothing is taken out, and nothing written
  pub without_absent : (es : List (ℕ × T)) (id : ℕ) → find es id ≡ None → without_entry es id ≡ es
  without_absent [] id h = refl
  without_absent (e ∷ es) id h =
      elim (eqb_tells e.0 id) [
        | inl t ↦ (let there : Some e.1 ≡ None = rw t.0 at h in cc)
        | inr t ↦ (let r = without_absent es id (rw t.0 at h) in rw t.0 (ap (λ x. e ∷ x) r))
      ]

  pub with_value_absent : (es : List (ℕ × T)) (id : ℕ) (v : T) → find es id ≡ None → with_value es id v ≡ es
  with_value_absent [] id v h = refl
  with_value_absent (e ∷ es) id v h =
      elim (eqb_tells e.0 id) [
        | inl t ↦ (let there : Some e.1 ≡ None = rw t.0 at h in cc)
        | inr t ↦ (let r = with_value_absent es id v (rw t.0 at h) in rw t.0 (ap (λ x. e ∷ x) r))
      ]

  pub AreApart-with_entry : (es : List (ℕ × T)) (id : ℕ) (v : T) → find es id ≡ None → AreApart es → AreApart (with_entry es id v)
  AreApart-with_entry [] id v h a = (refl, tt)
  AreApart-with_entry (e ∷ es) id v h a =
      elim (eqb_tells e.0 id) [
        | inl t ↦ (let there : Some e.1 ≡ None = rw t.0 at h in cc)
        | inr t ↦ (let rest : find es id ≡ None = rw t.0 at h in
            elim (cases_Bool (ltb (slot_of id) (slot_of e.0))) [
              | inl u ↦ rw u (h, a)
              | inr u ↦ rw u (find-with_other es id e.0 v t.1 ∙ a.0, AreApart-with_entry es id v rest a.1)
            ])
      ]

  pub AreApart-without_entry : (es : List (ℕ × T)) (id : ℕ) → AreApart es → AreApart (without_entry es id)
  AreApart-without_entry [] id a = tt
  AreApart-without_entry (e ∷ es) id a =
      elim (eqb_tells e.0 id) [
        | inl t ↦ rw t.0 (AreApart-without_entry es id a.1)
        | inr t ↦ rw t.0 (find-without_none es id e.0 a.0, AreApart-without_entry es id a.1)
      ]

  pub AreApart-with_value : (es : List (ℕ × T)) (id : ℕ) (v : T) → AreApart es → AreApart (with_value es id v)
  AreApart-with_value [] id v a = tt
  AreApart-with_value (e ∷ es) id v a = (find-with_value_none es id e.0 v a.0, AreApart-with_value es id v a.1)

  pub length-with_entry : (es : List (ℕ × T)) (id : ℕ) (v : T) → length (with_entry es id v) ≡ length es + 1
  length-with_entry [] id v = omega arith
  length-with_entry (e ∷ es) id v =
      let r = length-with_entry es id v in
      elim (cases_Bool (ltb (slot_of id) (slot_of e.0))) [ inl t ↦ rw t (omega arith) | inr t ↦ rw t (omega arith) ]

  pub length-without_entry : (es : List (ℕ × T)) (id : ℕ) → AreApart es → IsSome (find es id) → length (without_entry es id) + 1 ≡ length es
  length-without_entry [] id a there = cc
  length-without_entry (e ∷ es) id a there =
      elim (eqb_tells e.0 id) [
        | inl t ↦ (let k : find es id ≡ None = rw t.1 at a.0 in rw (t.0, without_absent es id k) (omega arith))
        | inr t ↦ (let r = length-without_entry es id a.1 (rw t.0 at there) in rw t.0 (omega arith))
      ]
