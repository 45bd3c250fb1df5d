-- The spans one after the other, and what is told of those that were looked at.
use Rattle.std.proofs.Common.{◌≡◌, ◌≢◌, ℕ, Bool, eqb, zero, suc, ◌+◌, ◌++◌, ◌<◌, ◌≤◌, List, [], ◌∷◌, length, map, take, get_or, Some, refl, sym, ap, subst, ◌∙◌, arith}
use Rattle.std.specs.Prelude.{IsSome, IsSomeAnd}
use Rattle.std.proofs.lemmas.List.{take_more, take_all, get_or-map, length-map, map-append}
use Rattle.std.proofs.lemmas.Bool.{eq-eqb, ne_eqb}
use Rattle.span_slots.specs.Table.{find, AreApart, all_ids}
use Rattle.span_store.specs.declared.entry.Entry.{Entry}
use Rattle.span_store.specs.declared.details.SpanDetails.{SpanDetails}
use Rattle.span_store.specs.StoredSpan.{StoredSpan, plain_entry}
use Rattle.span_store.specs.StoredSpans.{StoredSpans, children_there, is_closing}
use Rattle.span_store.specs.Details.{details_there}
use Rattle.span_store.specs.inside.Invariant.{spans_of, AreCounted}
use Rattle.span_store.proofs.Maps.{there_is, two_ids}
use Rattle.span_store.proofs.Plain.{span_at}
use Rattle.span_store.proofs.Views.{is_closing-at}

-- the span that stands at a place is found under its id
found_at : (spans : StoredSpans) (i : ℕ) (d : ℕ × StoredSpan) → AreApart spans → i < length spans → find spans (get_or spans i d).0 ≡ Some (get_or spans i d).1
found_at [] i d a low = absurd (omega arith)
found_at (e ∷ es) zero d a low = rw (eq-eqb e.0 e.0 refl) refl
found_at (e ∷ es) (suc i) d a low =
    let r = found_at es i d a.1 (omega arith) in
    let ne : e.0 ≢ (get_or es i d).0 = λ q. two_ids es (get_or es i d).0 e.0 (there_is (find es (get_or es i d).0) (get_or es i d).1 r) a.0 (sym q) in
    rw (ne_eqb e.0 (get_or es i d).0 ne) r

id_at : (spans : StoredSpans) (i : ℕ) (d : ℕ × StoredSpan) → i < length spans → get_or (all_ids spans) i 0 ≡ (get_or spans i d).0
id_at spans i d low = get_or-map (λ (e : ℕ × StoredSpan). e.0) spans i d 0 low

same_default : (xs : List ℕ) (i d e : ℕ) → i < length xs → get_or xs i d ≡ get_or xs i e
same_default [] i d e low = absurd (omega arith)
same_default (x ∷ xs) zero d e low = refl
same_default (x ∷ xs) (suc i) d e low = same_default xs i d e (omega arith)

some_span : (spans : StoredSpans) (i : ℕ) → i < length spans → ℕ × StoredSpan
some_span [] i low = absurd (omega arith)
some_span (e ∷ es) i low = e

-- an id stands at a place of the list
pub record Place (spans : StoredSpans) (i at : ℕ) : Type 0 where
  pub low : i < length spans
  pub is : at ≡ get_or (all_ids spans) i 0

pub place_of : (spans : StoredSpans) (xs : List ℕ) (i at : ℕ) → xs ≡ all_ids spans → i < length xs → at ≡ get_or xs i at → Place spans i at
place_of spans xs i at same low is =
    let len : length (all_ids spans) ≡ length spans = length-map spans (λ (e : ℕ × StoredSpan). e.0) in
    let all = ap length same in
    record {
      low = omega (arith, len, all, low);
      is = is ∙ (same_default xs i at 0 low ∙ ap (λ v. get_or v i 0) same);
    }

-- the span at a place comes next
pub record Next (spans : StoredSpans) (i at : ℕ) : Type 0 where
  pub span : StoredSpan
  pub found : find spans at ≡ Some span
  pub first : take (i + 1) spans ≡ take i spans ++ (at, span) ∷ []

pub place_next : (spans : StoredSpans) (i at : ℕ) → AreApart spans → Place spans i at → Next spans i at
place_next spans i at a p =
    let e = get_or spans i (some_span spans i p.low) in
    let is : at ≡ e.0 = p.is ∙ id_at spans i (some_span spans i p.low) p.low in
    record {
      span = e.1;
      found = rw is (found_at spans i (some_span spans i p.low) a p.low);
      first = rw is (take_more spans i (some_span spans i p.low) p.low);
    }

pub place_there : (spans : StoredSpans) (i at : ℕ) → AreApart spans → Place spans i at → IsSome (find spans at)
place_there spans i at a p = let n = place_next spans i at a p in there_is (find spans at) n.span n.found

-- ---- what is told

as_told : (spans : StoredSpans) (id : ℕ) (entry : Entry) (closing : Bool) → entry.children ≡ children_there spans id → closing ≡ is_closing spans id → record { id = id; parent = entry.parent; word = entry.word; handles = entry.handles; children = entry.children; closing = closing } ≡ details_there spans (id, plain_entry entry)
as_told spans id entry closing c k = rw (c, k) refl

-- a span without handles is closing where it has no child, and one with handles isn't
pub held_none : (handles children : ℕ) → handles ≡ 0 → eqb children 0 ≡ eqb (handles + children) 0
held_none handles children h = ap (λ n. eqb n 0) (omega (arith, h))

pub held_some : (handles children : ℕ) → handles ≢ 0 → eqb handles 0 ≡ eqb (handles + children) 0
held_some handles children h = ne_eqb handles 0 h ∙ sym (ne_eqb (handles + children) 0 (λ q. h (omega (arith, q))))

-- what the code appends of an entry is what is told of its span
pub pushed : (es : List (ℕ × Entry)) (id : ℕ) (entry : Entry) (closing : Bool) (list new : List SpanDetails) → AreCounted es → find es id ≡ Some entry → closing ≡ eqb (entry.handles + entry.children) 0 → new ≡ list ++ record { id = id; parent = entry.parent; word = entry.word; handles = entry.handles; children = entry.children; closing = closing } ∷ [] → IsSomeAnd (find (spans_of es) id) (λ span. new ≡ list ++ details_there (spans_of es) (id, span) ∷ [])
pushed es id entry closing list new counted h is appended =
    let c : entry.children ≡ children_there (spans_of es) id = counted id entry h in
    let k : closing ≡ is_closing (spans_of es) id = is ∙ sym (is_closing-at es id entry counted h) in
    subst (λ o. IsSomeAnd o (λ span. new ≡ list ++ details_there (spans_of es) (id, span) ∷ [])) (sym (span_at es id entry h)) (appended ∙ ap (λ v. list ++ v ∷ []) (as_told (spans_of es) id entry closing c k))

pub details_more : (spans : StoredSpans) (list new : List SpanDetails) (i at : ℕ) → AreApart spans → Place spans i at → IsSomeAnd (find spans at) (λ span. new ≡ list ++ details_there spans (at, span) ∷ []) → list ≡ map (details_there spans) (take i spans) → new ≡ map (details_there spans) (take (i + 1) spans)
details_more spans list new i at apart place told so_far =
    let n = place_next spans i at apart place in
    let here : new ≡ list ++ details_there spans (at, n.span) ∷ [] = subst (λ o. IsSomeAnd o (λ span. new ≡ list ++ details_there spans (at, span) ∷ [])) n.found told in
    here
    ∙ (ap (λ v. v ++ details_there spans (at, n.span) ∷ []) so_far
    ∙ sym (ap (map (details_there spans)) n.first ∙ map-append (details_there spans) (take i spans) ((at, n.span) ∷ [])))

pub details_all : (spans : StoredSpans) (i : ℕ) (ids : List ℕ) → ids ≡ all_ids spans → length ids ≤ i → map (details_there spans) (take i spans) ≡ map (details_there spans) spans
details_all spans i ids same past =
    let len : length (all_ids spans) ≡ length spans = length-map spans (λ (e : ℕ × StoredSpan). e.0) in
    let all = ap length same in
    ap (map (details_there spans)) (take_all i spans (omega (arith, len, all, past)))
