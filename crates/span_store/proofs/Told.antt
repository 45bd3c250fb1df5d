-- What is told of all spans: each that is there once, and which are closing.
use Rattle.std.proofs.Common.{◌≡◌, ◌≢◌, ◌↔◌, ◌⊎◌, ℕ, zero, suc, List, [], ◌∷◌, map, Some, None, refl, sym, ap, subst, ◌∙◌, inl, inr, arith}
use Rattle.std.specs.Prelude.{All, AllPairs, Contains, IsTrue}
use Rattle.std.specs.List.Sorted.{IsStrictlyIncreasing}
use Rattle.std.proofs.lemmas.Bool.Decides.{eqb_tells}
use Rattle.std.proofs.lemmas.Bool.{eq-eqb, ne_eqb}
use Rattle.std.proofs.lemmas.List.Elements.{All-cons, All-nil, All-map, All-weaker}
use Rattle.std.proofs.lemmas.List.Kept.{AllPairs-cons}
use Rattle.span_id.specs.Id.{slot_of}
use Rattle.span_slots.specs.Table.{find, AreApart, all_ids}
use Rattle.span_store.specs.declared.entry.Entry.{Entry}
use Rattle.span_store.specs.declared.details.SpanDetails.{SpanDetails}
use Rattle.span_store.specs.StoredSpan.{StoredSpan}
use Rattle.span_store.specs.StoredSpans.{StoredSpans, IsThere, children_there, is_closing}
use Rattle.span_store.specs.Details.{details_there, all_details}
use Rattle.span_store.specs.inside.Invariant.{spans_of}
use Rattle.span_store.proofs.Maps.{not_none, some_same}
use Rattle.span_store.proofs.Steps.{closing_parts, closing_from}

ids_told : (all spans : StoredSpans) → map (λ told. told.id) (map (details_there all) spans) ≡ all_ids spans
ids_told all [] = refl
ids_told all (e ∷ es) = ap (λ v. e.0 ∷ v) (ids_told all es)

slots_told : (all : StoredSpans) (es : List (ℕ × Entry)) → map (λ told. slot_of told.id) (map (details_there all) (spans_of es)) ≡ map (λ e. slot_of e.0) es
slots_told all [] = refl
slots_told all (e ∷ es) = ap (λ v. slot_of e.0 ∷ v) (slots_told all es)

pub told_ascends : (es : List (ℕ × Entry)) → IsStrictlyIncreasing (map (λ e. slot_of e.0) es) → IsStrictlyIncreasing (map (λ told. slot_of told.id) (all_details (spans_of es)))
told_ascends es h = rw (slots_told (spans_of es) es) h

contains_first : (x : ℕ) (xs : List ℕ) → Contains (x ∷ xs) x
contains_first x xs = (zero, omega arith, refl)

contains_later : (x y : ℕ) (xs : List ℕ) → Contains xs x → Contains (y ∷ xs) x
contains_later x y xs c = (let low = c.1 in (suc c.0, omega (arith, low), c.2))

contains_cons : (x y : ℕ) (xs : List ℕ) → Contains (y ∷ xs) x → (y ≡ x) ⊎ Contains xs x
contains_cons x y xs (zero, low, is) = inl is
contains_cons x y xs (suc k, low, is) = inr (k, omega (arith, low), is)

listed_there : (spans : StoredSpans) (id : ℕ) → Contains (all_ids spans) id → IsThere spans id
listed_there [] id c = (let low = c.1 in absurd (omega (arith, low)))
listed_there (e ∷ es) id c =
    elim (eqb_tells e.0 id) [
      | inl t ↦ rw t.0 refl
      | inr t ↦ elim (contains_cons id e.0 (all_ids es) c) [
        | inl q ↦ absurd (t.1 q)
        | inr r ↦ rw t.0 (listed_there es id r)
      ]
    ]

there_listed : (spans : StoredSpans) (id : ℕ) → IsThere spans id → Contains (all_ids spans) id
there_listed [] id o = cc
there_listed (e ∷ es) id o =
    elim (eqb_tells e.0 id) [
      | inl t ↦ subst (λ x. Contains (all_ids (e ∷ es)) x) t.1 (contains_first e.0 (all_ids es))
      | inr t ↦ contains_later id e.0 (all_ids es) (there_listed es id (rw t.0 at o))
    ]

pub told_there : (spans : StoredSpans) (id : ℕ) → Contains (map (λ told. told.id) (all_details spans)) id ↔ IsThere spans id
told_there spans id = rw (ids_told spans spans) (listed_there spans id, there_listed spans id)

-- ---- no id is told twice

absent : (spans : StoredSpans) (id : ℕ) → find spans id ≡ None → All (λ e. id ≢ e.0) spans
absent [] id none = All-nil (λ (e : ℕ × StoredSpan). id ≢ e.0)
absent (e ∷ es) id none =
    elim (eqb_tells e.0 id) [
      | inl t ↦ (let there : Some e.1 ≡ None = rw t.0 at none in cc)
      | inr t ↦ All-cons (λ (x : ℕ × StoredSpan). id ≢ x.0) e es (λ q. t.1 (sym q)) (absent es id (rw t.0 at none))
    ]

apart_told : (all spans : StoredSpans) → AreApart spans → AllPairs (λ first later. first.id ≢ later.id) (map (details_there all) spans)
apart_told all [] a = λ i j d h k. absurd (omega (arith, h, k))
apart_told all (e ∷ es) a =
    AllPairs-cons (λ (first : SpanDetails) (later : SpanDetails). first.id ≢ later.id) (details_there all e) (map (details_there all) es) (All-map (λ (later : SpanDetails). e.0 ≢ later.id) (details_there all) es (absent es e.0 a.0)) (apart_told all es a.1)

pub told_apart : (spans : StoredSpans) → AreApart spans → AllPairs (λ first later. first.id ≢ later.id) (all_details spans)
told_apart spans a = apart_told spans spans a

-- ---- which are closing

entries_found : (spans : StoredSpans) → AreApart spans → All (λ e. find spans e.0 ≡ Some e.1) spans
entries_found [] a = All-nil (λ (e : ℕ × StoredSpan). find [] e.0 ≡ Some e.1)
entries_found (e ∷ es) a =
    let more : (x : ℕ × StoredSpan) → find es x.0 ≡ Some x.1 → find (e ∷ es) x.0 ≡ Some x.1 = λ x h. (
    let ne : e.0 ≢ x.0 = λ q. not_none (find es x.0) x.1 h (rw (← q) a.0) in
    rw (ne_eqb e.0 x.0 ne) h) in
    All-cons (λ (x : ℕ × StoredSpan). find (e ∷ es) x.0 ≡ Some x.1) e es (rw (eq-eqb e.0 e.0 refl) refl) (All-weaker (λ (x : ℕ × StoredSpan). find es x.0 ≡ Some x.1) (λ (x : ℕ × StoredSpan). find (e ∷ es) x.0 ≡ Some x.1) more es (entries_found es a.1))

closing_one : (spans : StoredSpans) (id : ℕ) (span : StoredSpan) → find spans id ≡ Some span → IsTrue (is_closing spans id) ↔ ((span.handles ≡ 0) × (children_there spans id ≡ 0))
closing_one spans id span h = (λ c. (let p = closing_parts spans id c in let same = some_same (find spans id) p.0 span p.1 h in (sym (ap (λ (n : StoredSpan). n.handles) same) ∙ p.2, p.3)), λ z. closing_from spans id span h z.0 z.1)

pub told_closing : (spans : StoredSpans) → AreApart spans → All (λ told. IsTrue told.closing ↔ ((told.handles ≡ 0) × (told.children ≡ 0))) (all_details spans)
told_closing spans a =
    All-map (λ (told : SpanDetails). IsTrue told.closing ↔ ((told.handles ≡ 0) × (told.children ≡ 0))) (details_there spans) spans (All-weaker (λ (e : ℕ × StoredSpan). find spans e.0 ≡ Some e.1) (λ (e : ℕ × StoredSpan). IsTrue (is_closing spans e.0) ↔ ((e.1.handles ≡ 0) × (children_there spans e.0 ≡ 0))) (λ e h. closing_one spans e.0 e.1 h) spans (entries_found spans a))
