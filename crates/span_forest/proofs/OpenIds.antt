-- The list of the open spans.
use Rattle.std.proofs.Common.{◌≡◌, ◌≢◌, ℕ, zero, suc, ◌+◌, ◌++◌, take, get_or, ◌<◌, List, [], ◌∷◌, length, map, Some, None, refl, ap, subst, ◌∙◌, inl, inr, arith}
use Rattle.std.specs.Prelude.{All, AllPairs, Contains}
use Rattle.std.proofs.lemmas.List.{take_more, get_or-map, length-map}
use Rattle.std.proofs.lemmas.Bool.Decides.{eqb_tells}
use Rattle.std.proofs.lemmas.Bool.{eq-eqb, ne_eqb}
use Rattle.std.proofs.lemmas.List.Elements.{All-contains_itself}
use Rattle.std.proofs.lemmas.List.Kept.{AllPairs-cons}
use Rattle.std.specs.List.Sorted.{IsStrictlyIncreasing}
use Rattle.span_id.specs.Id.{slot_of}
use Rattle.span_forest.specs.declared.span.Span.{Span}
use Rattle.span_forest.specs.Node.{Node}
use Rattle.span_slots.specs.Table.{find, AreApart, all_ids}
use Rattle.span_forest.specs.Spans.{Spans, IsOpen, nodes_of}
use Rattle.span_forest.proofs.Finds.{find_apart}
use Rattle.span_forest.proofs.Spared.{none_open}
use Rattle.span_forest.proofs.Contained.{contains_first, contains_later, contains_none, contains_cons}

pub listed_open : (spans : Spans) (id : ℕ) → Contains (all_ids spans) id → IsOpen spans id
listed_open [] id c = absurd (contains_none id c)
listed_open (e ∷ es) id c =
    elim (eqb_tells e.0 id) [
      | inl t ↦ rw t.0 refl
      | inr t ↦ elim (contains_cons id e.0 (all_ids es) c) [
        | inl q ↦ absurd (t.1 q)
        | inr r ↦ rw t.0 (listed_open es id r)
      ]
    ]

pub open_listed : (spans : Spans) (id : ℕ) → IsOpen spans id → Contains (all_ids spans) id
open_listed [] id o = cc
open_listed (e ∷ es) id o =
    elim (eqb_tells e.0 id) [
      | inl t ↦ subst (λ x. Contains (all_ids (e ∷ es)) x) t.1 (contains_first e.0 (all_ids es))
      | inr t ↦ contains_later id e.0 (all_ids es) (open_listed es id (rw t.0 at o))
    ]

slots_of_nodes : (es : List (ℕ × Span)) → map slot_of (all_ids (nodes_of es)) ≡ map (λ e. slot_of e.0) es
slots_of_nodes [] = refl
slots_of_nodes (e ∷ es) = ap (λ v. slot_of e.0 ∷ v) (slots_of_nodes es)

pub ids_ascend : (es : List (ℕ × Span)) → IsStrictlyIncreasing (map (λ e. slot_of e.0) es) → IsStrictlyIncreasing (map slot_of (all_ids (nodes_of es)))
ids_ascend es h = rw (slots_of_nodes es) h

not_listed : (spans : Spans) (id : ℕ) → find spans id ≡ None → Contains (all_ids spans) id → ⊥
not_listed spans id none c = none_open (find spans id) none (listed_open spans id c)

absent_apart : (spans : Spans) (id : ℕ) → find spans id ≡ None → All (λ later. id ≢ later) (all_ids spans)
absent_apart spans id none i d low same = not_listed spans id none (rw same (All-contains_itself (all_ids spans) i d low))

pub ids_once : (spans : Spans) → AreApart spans → AllPairs (λ first later. first ≢ later) (all_ids spans)
ids_once [] a = λ i j d h k. absurd (omega (arith, h, k))
ids_once (e ∷ es) a = AllPairs-cons (λ first later. first ≢ later) e.0 (all_ids es) (absent_apart es e.0 a.0) (ids_once es a.1)

-- the code's ids are the spans'
pub ids_of_nodes : (es : List (ℕ × Span)) → all_ids (nodes_of es) ≡ map (λ e. e.0) es
ids_of_nodes [] = refl
ids_of_nodes (e ∷ es) = ap (λ v. e.0 ∷ v) (ids_of_nodes es)

-- ---- the span at a place of the list

-- the span that stands at a place is found under its id
pub find_place : (spans : Spans) (i : ℕ) (d : ℕ × Node) → AreApart spans → i < length spans → find spans (get_or spans i d).0 ≡ Some (get_or spans i d).1
find_place [] i d a low = absurd (omega arith)
find_place (e ∷ es) zero d a low = rw (eq-eqb e.0 e.0 refl) refl
find_place (e ∷ es) (suc i) d a low =
    let r = find_place es i d a.1 (omega arith) in
    let ne = find_apart es e.0 (get_or es i d).0 (get_or es i d).1 a.0 r in
    rw (ne_eqb e.0 (get_or es i d).0 ne) r

pub id_place : (spans : Spans) (i : ℕ) (d : ℕ × Node) → i < length spans → get_or (all_ids spans) i 0 ≡ (get_or spans i d).0
id_place spans i d low = get_or-map (λ (e : ℕ × Node). e.0) spans i d 0 low

pub open_place : (spans : Spans) (i : ℕ) (d : ℕ × Node) → AreApart spans → i < length spans → IsOpen spans (get_or (all_ids spans) i 0)
open_place spans i d a low = rw (id_place spans i d low, find_place spans i d a low) refl

same_place : (xs : List ℕ) (i d e : ℕ) → i < length xs → get_or xs i d ≡ get_or xs i e
same_place [] i d e low = absurd (omega arith)
same_place (x ∷ xs) zero d e low = refl
same_place (x ∷ xs) (suc i) d e low = same_place xs i d e (omega arith)

pub some_span : (spans : Spans) (i : ℕ) → i < length spans → ℕ × Node
some_span [] i low = absurd (omega arith)
some_span (e ∷ es) i low = e

pub record Place (spans : Spans) (i at : ℕ) : Type 0 where
  pub low : i < length spans
  pub is : at ≡ get_or (all_ids spans) i 0

pub place_of : (spans : Spans) (xs : List ℕ) (i at : ℕ) → xs ≡ all_ids spans → i < length xs → at ≡ get_or xs i at → Place spans i at
place_of spans xs i at same low is =
    let len : length (all_ids spans) ≡ length spans = length-map spans (λ (e : ℕ × Node). e.0) in
    let all = ap length same in
    record {
      low = omega (arith, len, all, low);
      is = is ∙ (same_place xs i at 0 low ∙ ap (λ v. get_or v i 0) same);
    }

pub place_open : (spans : Spans) (i at : ℕ) → AreApart spans → Place spans i at → IsOpen spans at
place_open spans i at a p = rw p.is (open_place spans i (some_span spans i p.low) a p.low)

-- the span at a place comes next
pub record Next (spans : Spans) (i at : ℕ) : Type 0 where
  pub node : Node
  pub found : find spans at ≡ Some node
  pub first : take (i + 1) spans ≡ take i spans ++ (at, node) ∷ []

pub place_next : (spans : Spans) (i at : ℕ) → AreApart spans → Place spans i at → Next spans i at
place_next spans i at a p =
    let e = get_or spans i (some_span spans i p.low) in
    let is : at ≡ e.0 = p.is ∙ id_place spans i (some_span spans i p.low) p.low in
    record {
      node = e.1;
      found = rw is (find_place spans i (some_span spans i p.low) a p.low);
      first = rw is (take_more spans i (some_span spans i p.low) p.low);
    }
