-- Parents through the changes of the map, and a forest in which each span has a child.
use Rattle.std.proofs.Common.{◌≡◌, ◌≢◌, ℕ, zero, suc, ◌+◌, ◌<◌, ◌≤◌, eqb, cond, [], ◌∷◌, Option, Some, None, IsSome, refl, sym, ap, subst, ◌∙◌, inl, inr, arith}
use Rattle.std.proofs.lemmas.Bool.{eq-eqb, ne_eqb}
use Rattle.std.proofs.lemmas.Bool.Decides.{eqb_tells}
use Rattle.span_slots.specs.Table.{find, with_entry, without_entry, with_value, AreApart}
use Rattle.span_slots.proofs.Entries.{find-with_same, find-with_other, find-without_same, find-without_other, find-with_value_same, find-with_value_other}
use Rattle.span_store.specs.StoredSpan.{StoredSpan}
use Rattle.span_store.specs.StoredSpans.{StoredSpans, IsThere, parent_if_there, parent_there, children_there}
use Rattle.span_store.specs.inside.Invariant.{IsForest}
use Rattle.span_store.proofs.Maps.{two_ids, there_is}
use Rattle.span_store.proofs.Counts.{parent_span, child_exists, no_child}

pub child_there : (spans : StoredSpans) (c p : ℕ) → parent_there spans c ≡ Some p → IsThere spans c
child_there spans c p e = let n = parent_span spans c p e in there_is (find spans c) n.0 n.1

-- an id that isn't there has no children
pub no_children : (spans : StoredSpans) (id : ℕ) → AreApart spans → IsForest spans → find spans id ≡ None → children_there spans id ≡ 0
no_children spans id a f h = go (children_there spans id) refl
  where
    go : (n : ℕ) → children_there spans id ≡ n → children_there spans id ≡ 0
    go n e =
        elim (eqb_tells n 0) [
          | inl t ↦ e ∙ t.1
          | inr t ↦ absurd (
              let low : 0 < children_there spans id = omega (arith, e, t.1) in
              let c = child_exists spans id a low in
              two_ids spans id id (f.parents_there c.0 id c.1) h refl)
        ]

-- the rank that a new span gets
abbrev pub rank_below : (ℕ → ℕ) → Option ℕ → ℕ
rank_below rank None = 0
rank_below rank (Some p) = rank p + 1

pub parent_there-with_entry_same : (spans : StoredSpans) (id : ℕ) (span : StoredSpan) → find spans id ≡ None → parent_there (with_entry spans id span) id ≡ span.parent
parent_there-with_entry_same spans id span h = ap parent_if_there (find-with_same spans id span h)

pub parent_there-with_entry_other : (spans : StoredSpans) (id j : ℕ) (span : StoredSpan) → j ≢ id → parent_there (with_entry spans id span) j ≡ parent_there spans j
parent_there-with_entry_other spans id j span ne = ap parent_if_there (find-with_other spans id j span ne)

pub forest-with_entry : (spans : StoredSpans) (id : ℕ) (span : StoredSpan) → find spans id ≡ None → ((p : ℕ) → span.parent ≡ Some p → IsThere spans p) → IsForest spans → IsForest (with_entry spans id span)
forest-with_entry spans id span h above f = record {
  parents_there = λ c p e. (
      let there : IsThere spans p = at c p e in
      let ne : p ≢ id = two_ids spans p id there h in
      subst IsSome (sym (find-with_other spans id p span ne)) there);
  rank = new_rank;
  rises = λ c p e. (
      let ne : p ≢ id = two_ids spans p id (at c p e) h in
      let q : new_rank p ≡ f.rank p = rw (ne_eqb p id ne) refl in
      elim (eqb_tells c id) [
        | inl t ↦ (let up : span.parent ≡ Some p = sym (parent_there-with_entry_same spans id span h) ∙ (ap (parent_there (with_entry spans id span)) (sym t.1) ∙ e) in
            let r : new_rank c ≡ f.rank p + 1 = rw (t.0, up) refl in
            omega (arith, q, r))
        | inr t ↦ (let r : new_rank c ≡ f.rank c = rw t.0 refl in
            let low = f.rises c p (sym (parent_there-with_entry_other spans id c span t.1) ∙ e) in
            omega (arith, q, r, low))
      ]);
}
  where
    new_rank : ℕ → ℕ
    new_rank c = cond (eqb c id) (rank_below f.rank span.parent) (f.rank c)

    at : (c p : ℕ) → parent_there (with_entry spans id span) c ≡ Some p → IsThere spans p
    at c p e =
        elim (eqb_tells c id) [
          | inl t ↦ above p (sym (parent_there-with_entry_same spans id span h) ∙ (ap (parent_there (with_entry spans id span)) (sym t.1) ∙ e))
          | inr t ↦ f.parents_there c p (sym (parent_there-with_entry_other spans id c span t.1) ∙ e)
        ]

pub parent_there-without_entry : (spans : StoredSpans) (id c p : ℕ) → parent_there (without_entry spans id) c ≡ Some p → parent_there spans c ≡ Some p
parent_there-without_entry spans id c p e =
    elim (eqb_tells c id) [
      | inl t ↦ (let gone : parent_there (without_entry spans id) c ≡ None = rw t.1 (ap parent_if_there (find-without_same spans id)) in
          let bad : None ≡ Some p = sym gone ∙ e in cc)
      | inr t ↦ sym (ap parent_if_there (find-without_other spans id c t.1)) ∙ e
    ]

pub forest-without_entry : (spans : StoredSpans) (id : ℕ) → children_there spans id ≡ 0 → IsForest spans → IsForest (without_entry spans id)
forest-without_entry spans id z f = record {
  parents_there = λ c p e. (
      let before = parent_there-without_entry spans id c p e in
      let ne : p ≢ id = λ q. no_child spans id c z (before ∙ ap (λ x. Some x) q) in
      subst IsSome (sym (find-without_other spans id p ne)) (f.parents_there c p before));
  rank = f.rank;
  rises = λ c p e. f.rises c p (parent_there-without_entry spans id c p e);
}

pub parent_there-with_value : (spans : StoredSpans) (id c : ℕ) (span new : StoredSpan) → find spans id ≡ Some span → new.parent ≡ span.parent → parent_there (with_value spans id new) c ≡ parent_there spans c
parent_there-with_value spans id c span new h p =
    elim (eqb_tells c id) [
      | inl t ↦ rw t.1 (ap parent_if_there (find-with_value_same spans id new (there_is (find spans id) span h)) ∙ (p ∙ sym (ap parent_if_there h)))
      | inr t ↦ ap parent_if_there (find-with_value_other spans id c new t.1)
    ]

pub there-with_value : (spans : StoredSpans) (id c : ℕ) (span new : StoredSpan) → find spans id ≡ Some span → IsThere spans c → IsThere (with_value spans id new) c
there-with_value spans id c span new h there =
    elim (eqb_tells c id) [
      | inl t ↦ rw t.1 (there_is (find (with_value spans id new) id) new (find-with_value_same spans id new (there_is (find spans id) span h)))
      | inr t ↦ subst IsSome (sym (find-with_value_other spans id c new t.1)) there
    ]

pub forest-with_value : (spans : StoredSpans) (id : ℕ) (span new : StoredSpan) → find spans id ≡ Some span → new.parent ≡ span.parent → IsForest spans → IsForest (with_value spans id new)
forest-with_value spans id span new h p f = record {
  parents_there = λ c q e. there-with_value spans id q span new h (f.parents_there c q (sym (parent_there-with_value spans id c span new h p) ∙ e));
  rank = f.rank;
  rises = λ c q e. f.rises c q (sym (parent_there-with_value spans id c span new h p) ∙ e);
}

-- the greatest rank of all spans that are there
abbrev pub top_of : (ℕ → ℕ) → StoredSpans → ℕ
top_of rank [] = 0
top_of rank (e ∷ es) = rank e.0 + top_of rank es

below_top : (rank : ℕ → ℕ) (spans : StoredSpans) (id : ℕ) → IsThere spans id → rank id ≤ top_of rank spans
below_top rank [] id h = cc
below_top rank (e ∷ es) id h =
    elim (eqb_tells e.0 id) [
      | inl t ↦ (let q = ap rank t.1 in omega arith)
      | inr t ↦ (let r = below_top rank es id (rw t.0 at h) in omega arith)
    ]

-- where each span has a child, ranks rise without end
pub rises_without_end : (spans : StoredSpans) → AreApart spans → (f : IsForest spans) → ((id : ℕ) → IsThere spans id → 0 < children_there spans id) → (id : ℕ) → IsThere spans id → (n : ℕ) → (c : ℕ) × IsThere spans c × (n ≤ f.rank c)
rises_without_end spans a f each id there zero = (id, there, omega arith)
rises_without_end spans a f each id there (suc n) =
    let r = rises_without_end spans a f each id there n in
    let c = child_exists spans r.0 a (each r.0 r.1) in
    let low = f.rises c.0 r.0 c.1 in
    (c.0, child_there spans c.0 r.0 c.1, omega (arith, low, r.2))

-- so there is none
pub none_has_a_child_each : (spans : StoredSpans) → AreApart spans → IsForest spans → ((id : ℕ) → IsThere spans id → 0 < children_there spans id) → spans ≡ []
none_has_a_child_each [] a f each = refl
none_has_a_child_each (e ∷ es) a f each = absurd (
    let there : IsThere (e ∷ es) e.0 = rw (eq-eqb e.0 e.0 refl) refl in
    let high = rises_without_end (e ∷ es) a f each e.0 there (top_of f.rank (e ∷ es) + 1) in
    let low = below_top f.rank (e ∷ es) high.0 high.1 in
    omega (arith, high.2, low))
