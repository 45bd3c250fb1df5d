-- A new span.
use Rattle.std.proofs.Common.{◌≡◌, ◌≢◌, ℕ, ◌+◌, ◌≤◌, Bool, false, cond, eqb, ltb, List, [], ◌∷◌, Option, Some, None, IsSome, refl, sym, ap, subst, ◌∙◌, inl, inr, arith}
use Rattle.std.specs.Option.{option_map, option_copied, IfNone, IfSome}
use Rattle.std.specs.Borrow.{Bor}
use Rattle.std.proofs.lemmas.Bool.Decides.{eqb_tells}
use Rattle.std.proofs.lemmas.Bool.{ne_eqb, cases_Bool, cases_lt}
use Rattle.span_id.specs.Id.{slot_of}
use Rattle.span_slots.specs.Table.{find, with_value, with_entry, AreApart}
use Rattle.span_forest.specs.declared.span.Span.{Span}
use Rattle.span_forest.specs.Node.{Node, node_of}
use Rattle.span_forest.specs.Spans.{Spans, IsOpen, parent_in, parent_of, nodes_of}
use Rattle.span_forest.specs.Count.{is_parent, children, holders, holders_in, reference_count}
use Rattle.span_forest.specs.inside.Invariant.{AreCounted, IsSettled, IsConsistent, counts_more}
use Rattle.span_forest.proofs.Ranks.{IsRanked, ranked}
use Rattle.span_forest.proofs.Walks.{forest_from}
use Rattle.span_forest.proofs.Finds.{child_exists, is_parent_same}
use Rattle.span_forest.proofs.Nodes.{find-nodes}
pub use Rattle.span_slots.proofs.Entries.{find-with_same, find-with_other}
use Rattle.span_slots.proofs.Entries.{find-with_value_same, find-with_value_other}
use Rattle.span_slots.proofs.Apart.{AreApart-with_entry}
use Rattle.span_forest.proofs.Counts.{nodes_kept, node_found, some_same}

-- one where the parent is this id
abbrev as_one : Bool → ℕ
as_one b = cond b 1 0

pub nodes-with : (es : List (ℕ × Span)) (id : ℕ) (span : Span) → nodes_of (with_entry es id span) ≡ with_entry (nodes_of es) id (node_of span)
nodes-with [] id span = refl
nodes-with (e ∷ es) id span =
    let r = nodes-with es id span in
    elim (cases_Bool (ltb (slot_of id) (slot_of e.0))) [ inl t ↦ rw t refl | inr t ↦ rw (t, r) refl ]

pub children-with : (spans : Spans) (id j : ℕ) (node : Node) → children (with_entry spans id node) j ≡ children spans j + cond (is_parent node.parent j) 1 0
children-with [] id j node = omega arith
children-with (e ∷ es) id j node =
    let r = children-with es id j node in
    elim (cases_Bool (ltb (slot_of id) (slot_of e.0))) [ inl t ↦ rw t (omega arith) | inr t ↦ rw t (omega arith) ]

some_none : {A : Type 0} (x : A) → Some x ≡ None → ⊥
some_none x h = cc

some_none_id : (p : ℕ) → Some p ≡ None → ⊥
some_none_id p h = cc

not_open : (o : Option Node) → o ≡ None → IsSome o → ⊥
not_open None e h = cc
not_open (Some n) e h = cc

open_absent : (spans : Spans) (id j : ℕ) → find spans id ≡ None → IsOpen spans j → j ≢ id
open_absent spans id j h o e = not_open (find spans j) (ap (find spans) e ∙ h) o

-- no open span has an absent parent
pub no_children : (spans : Spans) (id : ℕ) → IsRanked spans → find spans id ≡ None → children spans id ≡ 0
no_children spans id w h =
    elim (cases_lt 0 (children spans id)) [
      | inl t ↦ (let c = child_exists spans id w.apart t in absurd (open_absent spans id id h (w.parents_open c.0 id c.1) refl))
      | inr t ↦ omega arith
    ]

rank_with : (ℕ → ℕ) → ℕ → ℕ → ℕ → ℕ
rank_with rank top id j = cond (eqb j id) top (rank j)

open_with : (spans : Spans) (id j : ℕ) (node : Node) → find spans id ≡ None → IsOpen spans j → IsOpen (with_entry spans id node) j
open_with spans id j node h o = subst IsSome (sym (find-with_other spans id j node (open_absent spans id j h o))) o

pub IsRanked-with : (spans : Spans) (id : ℕ) (node : Node) → IsRanked spans → find spans id ≡ None → ((p : ℕ) → node.parent ≡ Some p → IsOpen spans p) → IsRanked (with_entry spans id node)
unfolding rank_with
IsRanked-with spans id node w h par =
    let new : (p : ℕ) → parent_of (with_entry spans id node) id ≡ Some p → IsOpen spans p = λ p e. par p (sym (ap parent_in (find-with_same spans id node h)) ∙ e) in
    let old : (c p : ℕ) → c ≢ id → parent_of (with_entry spans id node) c ≡ Some p → parent_of spans c ≡ Some p = λ c p ne e. sym (ap parent_in (find-with_other spans id c node ne)) ∙ e in
    record {
      apart = AreApart-with_entry spans id node h w.apart;
      parents_open = λ c p e. elim (eqb_tells c id) [
        | inl t ↦ open_with spans id p node h (new p (rw t.1 at e))
        | inr t ↦ open_with spans id p node h (w.parents_open c p (old c p t.1 e))
      ];
      rank = rank_with w.rank w.top id;
      top = w.top + 1;
      falls = λ c p e. elim (eqb_tells c id) [
        | inl t ↦ (let o = new p (rw t.1 at e) in let b = w.bounded p o in rw (t.0, ne_eqb p id (open_absent spans id p h o)) b)
        | inr t ↦ (let k = old c p t.1 e in let f = w.falls c p k in rw (t.0, ne_eqb p id (open_absent spans id p h (w.parents_open c p k))) f)
      ];
      bounded = λ c o. elim (eqb_tells c id) [
        | inl t ↦ rw t.0 (omega arith)
        | inr t ↦ (let b = w.bounded c (subst IsSome (find-with_other spans id c node t.1) o) in rw t.0 (omega arith))
      ];
    }

-- an id that is open after the span came in, and isn't the span's, was open before
pub open_back : (spans : Spans) (id j : ℕ) (node : Node) → j ≢ id → IsOpen (with_entry spans id node) j → IsOpen spans j
open_back spans id j node ne o = subst IsSome (find-with_other spans id j node ne) o

pub found_none : (es : List (ℕ × Span)) (id : ℕ) (r : Option (Bor Span)) → option_copied r ≡ find es id → IfNone r (find (nodes_of es) id ≡ None)
found_none es id None h = find-nodes es id ∙ ap (option_map node_of) (sym h)
found_none es id (Some s) h = tt

pub found_some : (es : List (ℕ × Span)) (id : ℕ) (r : Option (Bor Span)) → option_copied r ≡ find es id → IfSome r (λ span. find (nodes_of es) id ≡ Some (node_of span.now))
found_some es id None h = tt
found_some es id (Some s) h = find-nodes es id ∙ ap (option_map node_of) (sym h)

-- an id is open exactly where the code's table has its span
pub not_found : (es : List (ℕ × Span)) (id : ℕ) → find es id ≡ None → find (nodes_of es) id ≡ None
not_found es id h = find-nodes es id ∙ ap (option_map node_of) h

pub found_open : (es : List (ℕ × Span)) (id : ℕ) (span : Span) → find es id ≡ Some span → IsOpen (nodes_of es) id
found_open es id span h = rw (node_found es id span h) refl

pub IsConsistent-empty : (max total handles : ℕ) → total ≡ 0 → handles ≡ 0 → 1 ≤ max → max ≤ 4294967295 → IsConsistent [] max total handles
IsConsistent-empty max total handles none no_handles low high = record {
  settled = record {
    forest = forest_from [] (record {
      apart = tt;
      parents_open = λ c p e. cc;
      rank = λ j. 0;
      top = 0;
      falls = λ c p e. absurd (some_none_id p (sym e));
      bounded = λ c o. absurd (not_open None refl o);
    });
    counted = λ j s f. absurd (some_none s (sym f));
    positive = λ j o. absurd (not_open None refl o);
  };
  bounded = λ j. omega arith;
  total_is = none;
  handles_is = no_handles;
  few = omega arith;
  max_low = low;
  max_high = high;
}

-- a new span is counted: its own handle, and one more child at its parent
module _ (es : List (ℕ × Span)) (id : ℕ) (span : Span) (w : IsSettled es) (absent : find es id ≡ None) (one : span.count ≡ holders (node_of span)) where
  absent_node : find (nodes_of es) id ≡ None
  absent_node = find-nodes es id ∙ ap (option_map node_of) absent

  pub written_new : (is_parent span.parent id ≡ false) → reference_count (with_entry (nodes_of es) id (node_of span)) id ≡ span.count
  written_new own =
      let a = ap holders_in (find-with_same (nodes_of es) id (node_of span) absent_node) in
      let b = rw own at (children-with (nodes_of es) id id (node_of span)) in
      let z = no_children (nodes_of es) id (ranked (nodes_of es) w.forest) absent_node in
      omega arith

  pub written_old : (j : ℕ) → j ≢ id → reference_count (with_entry (nodes_of es) id (node_of span)) j ≡ reference_count (nodes_of es) j + cond (is_parent span.parent j) 1 0
  written_old j ne =
      let a = ap holders_in (find-with_other (nodes_of es) id j (node_of span) ne) in
      let b = children-with (nodes_of es) id j (node_of span) in
      omega arith

  -- with no parent
  pub counted_new_root : span.parent ≡ None → AreCounted (with_entry es id span)
  counted_new_root e j s f =
      rw nodes-with (elim (eqb_tells j id) [
        | inl t ↦ (let k = some_same s span (find (with_entry es id span) j) f (rw t.1 (find-with_same es id span absent)) in
            let q : s.count ≡ span.count = ap (λ x. x.count) k in
            let n = written_new (rw e refl) in
            rw t.1 (omega arith))
        | inr t ↦ (let g = sym (find-with_other es id j span t.1) ∙ f in
            let b = w.counted j s g in
            let n = written_old j t.1 in
            let z : as_one (is_parent span.parent j) ≡ 0 = rw e refl in
            omega arith)
      ])

  -- with a parent, which counts it
  pub counted_new_child : (p : ℕ) (up : Span) → AreApart (nodes_of (with_entry es id span)) → span.parent ≡ Some p → find es p ≡ Some up → AreCounted (with_value (with_entry es id span) p (counts_more up))
  counted_new_child p up a e u j s f =
      let np : p ≢ id = λ q. some_none up (sym u ∙ (ap (find es) q ∙ absent)) in
      let at : find (with_entry es id span) p ≡ Some up = find-with_other es id p span np ∙ u in
      let nodes : nodes_of (with_value (with_entry es id span) p (counts_more up)) ≡ with_entry (nodes_of es) id (node_of span) = nodes_kept (with_entry es id span) p up (counts_more up) a at refl ∙ nodes-with es id span in
      rw nodes (elim (eqb_tells j p) [
        | inl t ↦ (let k = some_same s (counts_more up) (find (with_value (with_entry es id span) p (counts_more up)) j) f (rw t.1 (find-with_value_same (with_entry es id span) p (counts_more up) (subst IsSome (sym at) refl))) in
            let q : s.count ≡ up.count + 1 = ap (λ x. x.count) k in
            let b = w.counted p up u in
            let n = written_old p np in
            let z : as_one (is_parent span.parent p) ≡ 1 = ap as_one (is_parent_same span.parent p e) in
            rw t.1 (omega arith))
        | inr t ↦ (let g = sym (find-with_value_other (with_entry es id span) p j (counts_more up) t.1) ∙ f in
            elim (eqb_tells j id) [
              | inl r ↦ (let k = some_same s span (find (with_entry es id span) j) g (rw r.1 (find-with_same es id span absent)) in
                  let q : s.count ≡ span.count = ap (λ x. x.count) k in
                  let own : is_parent span.parent id ≡ false = rw e (ne_eqb p id np) in
                  let n = written_new own in
                  rw r.1 (omega arith))
              | inr r ↦ (let g2 = sym (find-with_other es id j span r.1) ∙ g in
                  let b = w.counted j s g2 in
                  let n = written_old j r.1 in
                  let none : is_parent span.parent j ≡ false = rw e (ne_eqb p j (λ q. t.1 (sym q))) in
                  let z : as_one (is_parent span.parent j) ≡ 0 = ap as_one none in
                  omega arith)
            ])
      ])
