-- How many children a span has, and how many handles all have, as the map changes.
use Rattle.std.proofs.Common.{◌≡◌, ℕ, ◌+◌, ◌<◌, true, eqb, ltb, cond, [], ◌∷◌, Option, Some, None, refl, sym, ap, ◌∙◌, inl, inr, arith}
use Rattle.std.specs.Option.{option_eq}
use Rattle.std.proofs.lemmas.Bool.{cases_Bool, eqb-true, eq-eqb, ne_eqb}
use Rattle.std.proofs.lemmas.Bool.Decides.{eqb_tells}
use Rattle.span_id.specs.Id.{slot_of}
use Rattle.span_slots.specs.Table.{find, with_entry, without_entry, with_value, AreApart}
use Rattle.span_store.specs.StoredSpan.{StoredSpan}
use Rattle.span_store.specs.StoredSpans.{StoredSpans, children_there, all_handles, parent_if_there, parent_there}
use Rattle.span_slots.proofs.Apart.{without_absent, with_value_absent}
use Rattle.span_store.proofs.Maps.{two_ids, there_is}

pub children_there-with_entry : (spans : StoredSpans) (id j : ℕ) (span : StoredSpan) → children_there (with_entry spans id span) j ≡ children_there spans j + cond (option_eq eqb span.parent (Some j)) 1 0
children_there-with_entry [] id j span = omega arith
children_there-with_entry (e ∷ es) id j span =
    let r = children_there-with_entry es id j span in
    elim (cases_Bool (ltb (slot_of id) (slot_of e.0))) [ inl t ↦ rw t (omega arith) | inr t ↦ rw t (omega arith) ]

pub children_there-without_entry : (spans : StoredSpans) (id j : ℕ) (span : StoredSpan) → AreApart spans → find spans id ≡ Some span → children_there (without_entry spans id) j + cond (option_eq eqb span.parent (Some j)) 1 0 ≡ children_there spans j
children_there-without_entry [] id j span a h = cc
children_there-without_entry (e ∷ es) id j span a h =
    elim (eqb_tells e.0 id) [
      | inl t ↦ (let k : find es id ≡ None = rw t.1 at a.0 in
          let k2 = rw t.0 at h in
          let same : e.1 ≡ span = cc in
          rw (t.0, without_absent es id k, ← same) (omega arith))
      | inr t ↦ (let r = children_there-without_entry es id j span a.1 (rw t.0 at h) in rw t.0 (omega arith))
    ]

pub children_there-with_value : (spans : StoredSpans) (id j : ℕ) (span new : StoredSpan) → AreApart spans → find spans id ≡ Some span → new.parent ≡ span.parent → children_there (with_value spans id new) j ≡ children_there spans j
children_there-with_value [] id j span new a h p = refl
children_there-with_value (e ∷ es) id j span new a h p =
    elim (eqb_tells e.0 id) [
      | inl t ↦ (let k : find es id ≡ None = rw t.1 at a.0 in
          let k2 = rw t.0 at h in
          let same : e.1 ≡ span = cc in
          let p2 : new.parent ≡ e.1.parent = p ∙ ap (λ (n : StoredSpan). n.parent) (sym same) in
          rw (t.0, with_value_absent es id new k, p2) refl)
      | inr t ↦ (let r = children_there-with_value es id j span new a.1 (rw t.0 at h) p in rw (t.0, r) refl)
    ]

pub total-with_entry : (spans : StoredSpans) (id : ℕ) (span : StoredSpan) → all_handles (with_entry spans id span) ≡ all_handles spans + span.handles
total-with_entry [] id span = omega arith
total-with_entry (e ∷ es) id span =
    let r = total-with_entry es id span in
    elim (cases_Bool (ltb (slot_of id) (slot_of e.0))) [ inl t ↦ rw t (omega arith) | inr t ↦ rw t (omega arith) ]

pub total-without_entry : (spans : StoredSpans) (id : ℕ) (span : StoredSpan) → AreApart spans → find spans id ≡ Some span → all_handles (without_entry spans id) + span.handles ≡ all_handles spans
total-without_entry [] id span a h = cc
total-without_entry (e ∷ es) id span a h =
    elim (eqb_tells e.0 id) [
      | inl t ↦ (let k : find es id ≡ None = rw t.1 at a.0 in
          let k2 = rw t.0 at h in
          let same : e.1 ≡ span = cc in
          rw (t.0, without_absent es id k, ← same) (omega arith))
      | inr t ↦ (let r = total-without_entry es id span a.1 (rw t.0 at h) in rw t.0 (omega arith))
    ]

pub total-with_value : (spans : StoredSpans) (id : ℕ) (span new : StoredSpan) → AreApart spans → find spans id ≡ Some span → all_handles (with_value spans id new) + span.handles ≡ all_handles spans + new.handles
total-with_value [] id span new a h = cc
total-with_value (e ∷ es) id span new a h =
    elim (eqb_tells e.0 id) [
      | inl t ↦ (let k : find es id ≡ None = rw t.1 at a.0 in
          let k2 = rw t.0 at h in
          let same : e.1 ≡ span = cc in
          rw (t.0, with_value_absent es id new k, ← same) (omega arith))
      | inr t ↦ (let r = total-with_value es id span new a.1 (rw t.0 at h) in rw t.0 (omega arith))
    ]

pub eq_some_true : (o : Option ℕ) (id : ℕ) → option_eq eqb o (Some id) ≡ true → o ≡ Some id
eq_some_true None id h = cc
eq_some_true (Some p) id h = ap (λ x. Some x) (eqb-true p id h)

pub eq_some_same : (o : Option ℕ) (id : ℕ) → o ≡ Some id → option_eq eqb o (Some id) ≡ true
eq_some_same None id h = cc
eq_some_same (Some p) id h = eq-eqb p id (let k : p ≡ id = cc in k)

parent_span_of : (o : Option StoredSpan) (p : ℕ) → parent_if_there o ≡ Some p → (span : StoredSpan) × (o ≡ Some span) × (span.parent ≡ Some p)
parent_span_of None p h = cc
parent_span_of (Some span) p h = (span, refl, h)

pub parent_span : (spans : StoredSpans) (c p : ℕ) → parent_there spans c ≡ Some p → (span : StoredSpan) × (find spans c ≡ Some span) × (span.parent ≡ Some p)
parent_span spans c p h = parent_span_of (find spans c) p h

pub child_exists : (spans : StoredSpans) (id : ℕ) → AreApart spans → 0 < children_there spans id → (c : ℕ) × (parent_there spans c ≡ Some id)
child_exists [] id a h = absurd (omega arith)
child_exists (e ∷ es) id a h =
    elim (cases_Bool (option_eq eqb e.1.parent (Some id))) [
      | inl t ↦ (e.0, rw (eq-eqb e.0 e.0 refl) (eq_some_true _ _ t))
      | inr t ↦ (let r = child_exists es id a.1 (let h2 = rw t at h in omega arith) in
          let n = parent_span es r.0 id r.1 in
          let ne = two_ids es r.0 e.0 (there_is (find es r.0) n.0 n.1) a.0 in
          (r.0, rw (ne_eqb e.0 r.0 (λ q. ne (sym q))) r.1))
    ]

pub no_child : (spans : StoredSpans) (id c : ℕ) → children_there spans id ≡ 0 → parent_there spans c ≡ Some id → ⊥
no_child [] id c z h = cc
no_child (e ∷ es) id c z h =
    elim (eqb_tells e.0 c) [
      | inl t ↦ (let p : option_eq eqb e.1.parent (Some id) ≡ true = eq_some_same _ _ (rw t.0 at h) in let z2 = rw p at z in absurd (omega arith))
      | inr t ↦ no_child es id c (omega arith) (rw t.0 at h)
    ]

-- a child counts
pub some_child : (spans : StoredSpans) (id c : ℕ) → parent_there spans c ≡ Some id → 0 < children_there spans id
some_child [] id c h = cc
some_child (e ∷ es) id c h =
    elim (eqb_tells e.0 c) [
      | inl t ↦ (let p : option_eq eqb e.1.parent (Some id) ≡ true = eq_some_same _ _ (rw t.0 at h) in rw p (omega arith))
      | inr t ↦ (let r = some_child es id c (rw t.0 at h) in omega arith)
    ]

-- 1 where this is the parent, else 0
abbrev pub weight : Option ℕ → ℕ → ℕ
weight o j = cond (option_eq eqb o (Some j)) 1 0

pub weight_root : (o : Option ℕ) (j : ℕ) → o ≡ None → weight o j ≡ 0
weight_root o j h = rw h refl

pub weight_same : (o : Option ℕ) (p j : ℕ) → o ≡ Some p → j ≡ p → weight o j ≡ 1
weight_same o p j h q = rw (eq_some_same o j (h ∙ ap (λ z. Some z) (sym q))) refl

pub weight_other : (o : Option ℕ) (p j : ℕ) → o ≡ Some p → (j ≡ p → ⊥) → weight o j ≡ 0
weight_other o p j h ne = rw (h, ne_eqb p j (λ z. ne (sym z))) refl
