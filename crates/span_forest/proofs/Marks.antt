-- The marks of the spans at an id or below it, and what the pass over all spans gathers by them.
use Rattle.std.proofs.Common.{◌≡◌, ◌≢◌, ℕ, ◌+◌, ◌<◌, ◌≤◌, ◌++◌, Bool, true, false, ltb, List, [], ◌∷◌, length, map, filter, take, drop, set, replicate, get_or, Option, Some, None, refl, sym, ap, subst, ◌∙◌, inl, inr, arith}
use Rattle.std.proofs.lemmas.Bool.Decides.{nat_tests, eqb_tells}
use Rattle.std.proofs.lemmas.Bool.{cases_Bool, cases_lt, lt-ltb, eq-eqb, ne_eqb, false≢true}
use Rattle.std.proofs.lemmas.List.{append-nil, map-append, length-map, take_more, take_all, get_or-set_same, get_or-set_other, get_or-replicate, get_or_past, length-set, length-replicate}
use Rattle.std.proofs.Math.ListN.{drop_of_length-le}
use Rattle.std.proofs.lemmas.List.Elements.{filter-append}
use Rattle.std.specs.Prelude.{slice_index, is_some, IsTrue}
use Rattle.std.specs.Option.{option_map}
use Rattle.span_id.specs.Id.{slot_of, generation_of}
use Rattle.span_id.specs.Ids.{has}
use Rattle.span_slots.specs.Table.{find, AreApart, all_ids}
use Rattle.span_forest.specs.declared.span.Span.{Span}
use Rattle.span_forest.specs.declared.holding.Held.{Held}
use Rattle.span_forest.specs.Node.{Node, node_of}
use Rattle.span_forest.specs.Spans.{Spans, IsOpen, parent_in, parent_of, nodes_of}
use Rattle.span_forest.specs.Count.{is_held}
use Rattle.span_forest.specs.Forest.{IsForest}
use Rattle.span_forest.specs.Holding.{held_of, held_spans, what_holds}
use Rattle.span_forest.specs.inside.Marks.{is_below, known_of, is_known, WillBeKnown, AreMarks, held_one}
use Rattle.span_forest.proofs.Finds.{child_open}
use Rattle.span_forest.proofs.OpenIds.{id_place, find_place, some_span, Place}
use Rattle.span_forest.proofs.KeptOpen.{holding, holds_below}
use Rattle.span_forest.proofs.Counts.{node_found, none_is}
use Rattle.span_forest.proofs.Nodes.{value_of_open, find-nodes}
use Rattle.span_forest.proofs.Paths.{walk_from, walk_step}

-- whether the rest of a walk has an id
abbrev pub below_from : Spans → ℕ → Option ℕ → Bool
below_from spans id o = has (walk_from spans o) id

below_self : (spans : Spans) (id : ℕ) → IsForest spans → IsOpen spans id → is_below spans id id ≡ true
below_self spans id w o = rw (walk_step spans id w o, eq-eqb id id refl) refl

below_up : (spans : Spans) (id x : ℕ) → IsForest spans → IsOpen spans x → x ≢ id → below_from spans id (Some x) ≡ below_from spans id (parent_of spans x)
below_up spans id x w o ne =
    elim (eqb_tells x id) [
      | inl t ↦ absurd (ne t.1)
      | inr t ↦ rw (walk_step spans x w o, t.0) refl
    ]

-- ---- the climb along a walk

-- the next span is open, and the rest of the walk has the id where the walk has it
pub record Climbs (spans : Spans) (id at : ℕ) (next : Option ℕ) : Type 0 where
  pub here : (i : ℕ) → next ≡ Some i → IsOpen spans i
  pub same : below_from spans id next ≡ is_below spans id at

pub record Climbed (spans : Spans) (id at : ℕ) (before next : Option ℕ) : Type 0 where
  pub climbs : Climbs spans id at next
  pub smaller : length (walk_from spans next) < length (walk_from spans before)

pub climbs_first : (spans : Spans) (id at : ℕ) → IsOpen spans at → Climbs spans id at (Some at)
climbs_first spans id at o = record { here = λ i e. (let same : at ≡ i = cc in rw (← same) o); same = refl }

pub climbs_at : (spans : Spans) (id at x : ℕ) (next : Option ℕ) → Climbs spans id at next → next ≡ Some x → Climbs spans id at (Some x)
climbs_at spans id at x next g e = subst (Climbs spans id at) e g

not_known : (marks : List (Option Bool)) (id x : ℕ) → known_of marks id x ≡ None → x ≢ id
not_known marks id x h e = let h2 = rw (eq-eqb x id e) at h in cc

pub climbs_turn : (es : List (ℕ × Span)) (id at x : ℕ) (span : Span) (marks : List (Option Bool)) (next : Option ℕ) → IsForest (nodes_of es) → Climbs (nodes_of es) id at next → next ≡ Some x → known_of marks id x ≡ None → find es x ≡ Some span → Climbed (nodes_of es) id at next span.parent
climbs_turn es id at x span marks next w g0 n k f =
    let spans = nodes_of es in
    let g = climbs_at spans id at x next g0 n in
    let parent : parent_of spans x ≡ span.parent = ap parent_in (node_found es x span f) in
    let step : walk_from spans (Some x) ≡ x ∷ walk_from spans span.parent = walk_step spans x w (g.here x refl) ∙ ap (λ o. x ∷ walk_from spans o) parent in
    record {
      climbs = record {
        here = λ i e. w.parents_open x i (parent ∙ e);
        same = ap (below_from spans id) (sym parent) ∙ (sym (below_up spans id x w (g.here x refl) (not_known marks id x k)) ∙ g.same);
      };
      smaller = (let a = ap length step in let b = ap (λ o. length (walk_from spans o)) n in omega arith);
    }

pub climbs_there : (es : List (ℕ × Span)) (id at x : ℕ) (next : Option ℕ) → Climbs (nodes_of es) id at next → next ≡ Some x → find es x ≡ None → ⊥
climbs_there es id at x next g e h =
    let s = value_of_open es x (g.here x e) in none_is (find es x) s.0 h s.1

-- what is known of the next span is so of the first
pub climbs_known : (spans : Spans) (id at x : ℕ) (marks : List (Option Bool)) (below : Bool) (next : Option ℕ) → AreMarks spans id None marks → Climbs spans id at next → next ≡ Some x → known_of marks id x ≡ Some below → below ≡ is_below spans id at
climbs_known spans id at x marks below next m g0 n k =
    let g = climbs_at spans id at x next g0 n in
    sym (m.right x below (g.here x refl) k) ∙ g.same

pub climbs_out : (spans : Spans) (id at : ℕ) (next : Option ℕ) → Climbs spans id at next → next ≡ None → false ≡ is_below spans id at
climbs_out spans id at next g0 n = let g = subst (Climbs spans id at) n g0 in g.same

-- ---- the marks

same_answer : (a b : Bool) → Some a ≡ Some b → a ≡ b
same_answer a b h = cc

some_none : (b : Bool) → Some b ≡ None → ⊥
some_none b h = cc

pub none_from : (o : Option Bool) → is_some o ≡ false → o ≡ None
none_from None h = refl
none_from (Some b) h = cc

abbrev pub unmarked : ℕ → List (Option Bool)
unmarked n = replicate n None

pub marks_none : (spans : Spans) (id n : ℕ) → IsForest spans → IsOpen spans id → ((x : ℕ) → IsOpen spans x → slot_of x < n) → AreMarks spans id None (unmarked n)
marks_none spans id n w o places = record {
  places = λ x ox. (let k = places x ox in let l : length (unmarked n) ≡ n = length-replicate n None in omega (arith, k, l));
  right = λ x below ox k.
      elim (eqb_tells x id) [
        | inl t ↦ (let k2 : Some true ≡ Some below = rw t.0 at k in
            let yes : true ≡ below = same_answer true below k2 in
            rw t.1 (below_self spans id w o ∙ yes))
        | inr t ↦ (let k2 : get_or (unmarked n) (slot_of x) None ≡ Some below = rw t.0 at k in
            let none : get_or (unmarked n) (slot_of x) None ≡ None = get_or-replicate n (slot_of x) None None (places x ox) in
            absurd (some_none below (sym k2 ∙ none)))
      ];
  up = λ x p e ne k.
      (let k2 : is_some (get_or (unmarked n) (slot_of x) None) ≡ true = rw (ne_eqb x id ne) at k in
      let none : get_or (unmarked n) (slot_of x) None ≡ None = get_or-replicate n (slot_of x) None None (places x (child_open spans x p e)) in
      absurd (false≢true (ap is_some (sym none) ∙ k2)));
}

known_set : (marks : List (Option Bool)) (id x : ℕ) (below : Bool) → slot_of x < length marks → is_known (set marks (slot_of x) (Some below)) id x ≡ true
known_set marks id x below low =
    let here : get_or (set marks (slot_of x) (Some below)) (slot_of x) None ≡ Some below = get_or-set_same marks (slot_of x) (Some below) None low in
    elim (eqb_tells x id) [ inl t ↦ rw t.0 refl | inr t ↦ rw (t.0, here) refl ]

-- what is written down takes nothing away
known_kept : (marks : List (Option Bool)) (id x y : ℕ) (below : Bool) → slot_of x < length marks → is_known marks id y ≡ true → is_known (set marks (slot_of x) (Some below)) id y ≡ true
known_kept marks id x y below low k =
    elim (eqb_tells y id) [
      | inl t ↦ rw t.0 refl
      | inr t ↦ elim (eqb_tells (slot_of y) (slot_of x)) [
        | inl s ↦ (let here : get_or (set marks (slot_of x) (Some below)) (slot_of x) None ≡ Some below = get_or-set_same marks (slot_of x) (Some below) None low in rw (t.0, s.1, here) refl)
        | inr s ↦ (let other : get_or (set marks (slot_of x) (Some below)) (slot_of y) None ≡ get_or marks (slot_of y) None = get_or-set_other marks (slot_of x) (slot_of y) (Some below) None s.1 in rw (t.0, other) (rw t.0 at k))
      ]
    ]

known_before : (marks : List (Option Bool)) (id x y : ℕ) (below : Bool) → slot_of y ≢ slot_of x → is_known (set marks (slot_of x) (Some below)) id y ≡ true → is_known marks id y ≡ true
known_before marks id x y below ne k =
    elim (eqb_tells y id) [
      | inl t ↦ rw t.0 refl
      | inr t ↦ (let other : get_or (set marks (slot_of x) (Some below)) (slot_of y) None ≡ get_or marks (slot_of y) None = get_or-set_other marks (slot_of x) (slot_of y) (Some below) None ne in rw t.0 (rw (t.0, other) at k))
    ]

same_next : (next : Option ℕ) (x p : ℕ) → next ≡ Some x → next ≡ Some p → x ≡ p
same_next next x p n e = (let q : Some x ≡ Some p = sym n ∙ e in cc)

-- the span that was next is known then
known_next : (marks : List (Option Bool)) (id x p : ℕ) (below : Bool) (next : Option ℕ) → slot_of x < length marks → next ≡ Some x → WillBeKnown marks id next p → is_known (set marks (slot_of x) (Some below)) id p ≡ true
known_next marks id x p below next low n (inl k) = known_kept marks id x p below low k
known_next marks id x p below next low n (inr e) = subst (λ y. is_known (set marks (slot_of x) (Some below)) id y ≡ true) (same_next next x p n e) (known_set marks id x below low)

-- where something is known of the next span, or there is none, all is known that was to be
pub known_there : (marks : List (Option Bool)) (id x p : ℕ) (next : Option ℕ) → next ≡ Some x → is_known marks id x ≡ true → WillBeKnown marks id next p → is_known marks id p ≡ true
known_there marks id x p next n k (inl t) = t
known_there marks id x p next n k (inr e) = subst (λ y. is_known marks id y ≡ true) (same_next next x p n e) k

pub known_out : (marks : List (Option Bool)) (id p : ℕ) (next : Option ℕ) → next ≡ None → WillBeKnown marks id next p → is_known marks id p ≡ true
known_out marks id p next n (inl t) = t
known_out marks id p next n (inr e) = (let q : None ≡ Some p = sym n ∙ e in cc)

pub marks_there : (spans : Spans) (id x : ℕ) (marks : List (Option Bool)) (next : Option ℕ) → AreMarks spans id next marks → next ≡ Some x → is_known marks id x ≡ true → AreMarks spans id None marks
marks_there spans id x marks next m n k = record { places = m.places; right = m.right; up = λ y p e ne t. inl (known_there marks id x p next n k (m.up y p e ne t)) }

pub marks_out : (spans : Spans) (id : ℕ) (marks : List (Option Bool)) (next : Option ℕ) → AreMarks spans id next marks → next ≡ None → AreMarks spans id None marks
marks_out spans id marks next m n = subst (λ o. AreMarks spans id o marks) n m

-- what is known of a span is the answer
pub known_right : (spans : Spans) (id at : ℕ) (below : Bool) (marks : List (Option Bool)) → AreMarks spans id None marks → IsOpen spans at → below ≡ is_below spans id at → is_known marks id at ≡ true → known_of marks id at ≡ Some below
known_right spans id at below marks m o b k = by_mark (known_of marks id at) refl k where
  by_mark : (known : Option Bool) → known_of marks id at ≡ known → is_some known ≡ true → known_of marks id at ≡ Some below
  by_mark None q t = cc
  by_mark (Some found) q t = q ∙ ap (λ b. Some b) (sym (b ∙ m.right at found o q))

-- what holds of the marks once one more is written down
pub record Marked (spans : Spans) (id at : ℕ) (first marks : List (Option Bool)) (next : Option ℕ) : Type 0 where
  pub are : AreMarks spans id next marks
  pub begun : WillBeKnown marks id next at
  pub kept : (x : ℕ) → IsTrue (is_known first id x) → IsTrue (is_known marks id x)

right_set : (spans : Spans) (id x : ℕ) (below : Bool) (marks : List (Option Bool)) (next : Option ℕ) → AreMarks spans id next marks → ((a b : ℕ) → IsOpen spans a → IsOpen spans b → slot_of a ≡ slot_of b → a ≡ b) → IsOpen spans x → below ≡ is_below spans id x → (y : ℕ) (found : Bool) → IsOpen spans y → known_of (set marks (slot_of x) (Some below)) id y ≡ Some found → is_below spans id y ≡ found
right_set spans id x below marks next m apart ox b y found oy k =
    elim (eqb_tells y id) [
      | inl t ↦ m.right y found oy (rw t.0 (rw t.0 at k))
      | inr t ↦ (let k2 : get_or (set marks (slot_of x) (Some below)) (slot_of y) None ≡ Some found = rw t.0 at k in
          elim (eqb_tells (slot_of y) (slot_of x)) [
            | inl s ↦ (let same : y ≡ x = apart y x oy ox s.1 in
                let here : get_or (set marks (slot_of x) (Some below)) (slot_of x) None ≡ Some below = get_or-set_same marks (slot_of x) (Some below) None (m.places x ox) in
                let k3 : get_or (set marks (slot_of x) (Some below)) (slot_of x) None ≡ Some found = rw s.1 at k2 in
                let q : below ≡ found = same_answer below found (sym here ∙ k3) in
                rw same (sym b ∙ q))
            | inr s ↦ (let other : get_or (set marks (slot_of x) (Some below)) (slot_of y) None ≡ get_or marks (slot_of y) None = get_or-set_other marks (slot_of x) (slot_of y) (Some below) None s.1 in
                m.right y found oy (rw t.0 (sym other ∙ k2)))
          ])
    ]

up_set : (spans : Spans) (id x : ℕ) (below : Bool) (marks : List (Option Bool)) (next : Option ℕ) → AreMarks spans id next marks → ((a b : ℕ) → IsOpen spans a → IsOpen spans b → slot_of a ≡ slot_of b → a ≡ b) → IsOpen spans x → next ≡ Some x → (y p : ℕ) → parent_of spans y ≡ Some p → y ≢ id → is_known (set marks (slot_of x) (Some below)) id y ≡ true → WillBeKnown (set marks (slot_of x) (Some below)) id (parent_of spans x) p
up_set spans id x below marks next m apart ox n y p e ne k =
    elim (eqb_tells (slot_of y) (slot_of x)) [
      | inl s ↦ (let same : y ≡ x = apart y x (child_open spans y p e) ox s.1 in inr (ap (parent_of spans) (sym same) ∙ e))
      | inr s ↦ inl (known_next marks id x p below next (m.places x ox) n (m.up y p e ne (known_before marks id x y below s.1 k)))
    ]

pub marks_first : (spans : Spans) (id at : ℕ) (marks : List (Option Bool)) → AreMarks spans id None marks → Marked spans id at marks marks (Some at)
marks_first spans id at marks m = record {
  are = record { places = m.places; right = m.right; up = λ y p e ne t. inl (known_out marks id p None refl (m.up y p e ne t)) };
  begun = inr refl;
  kept = λ x t. t;
}

pub marks_turn : (spans : Spans) (id at x : ℕ) (below : Bool) (first marks : List (Option Bool)) (next : Option ℕ) → Marked spans id at first marks next → ((a b : ℕ) → IsOpen spans a → IsOpen spans b → slot_of a ≡ slot_of b → a ≡ b) → Climbs spans id at next → next ≡ Some x → below ≡ is_below spans id at → Marked spans id at first (set marks (slot_of x) (Some below)) (parent_of spans x)
marks_turn spans id at x below first marks next r apart g0 n b =
    let g = climbs_at spans id at x next g0 n in
    let ox = g.here x refl in
    let m = r.are in
    let low = m.places x ox in
    record {
      are = record {
        places = λ y oy. (let k = m.places y oy in let l = length-set marks (slot_of x) (Some below) in omega (arith, k, l));
        right = right_set spans id x below marks next m apart ox (b ∙ sym g.same);
        up = up_set spans id x below marks next m apart ox n;
      };
      begun = inl (known_next marks id x at below next low n r.begun);
      kept = λ y t. known_kept marks id x y below low (r.kept y t);
    }

-- an id that was issued has a slot that was used
pub issued_used : (given : List ℕ) (x : ℕ) → generation_of x < slice_index given (slot_of x) → slot_of x < length given
issued_used given x h =
    elim (cases_lt (slot_of x) (length given)) [
      | inl k ↦ k
      | inr k ↦ (let none : slice_index given (slot_of x) ≡ 0 = get_or_past given (slot_of x) 0 k in absurd (omega (arith, none, h)))
    ]

-- ---- what the pass gathers

-- what the first spans give
abbrev pub gathered_in : Spans → ℕ → ℕ → List Held
gathered_in spans id i = map held_of (filter (λ e. holding spans id e.0 e.1) (take i spans))

pub gathered_more : (spans : Spans) (id i : ℕ) (d : ℕ × Node) → i < length spans → gathered_in spans id (i + 1) ≡ gathered_in spans id i ++ map held_of (filter (λ e. holding spans id e.0 e.1) (get_or spans i d ∷ []))
gathered_more spans id i d low =
    ap (λ v. map held_of (filter (λ e. holding spans id e.0 e.1) v)) (take_more spans i d low)
    ∙ (ap (map held_of) (filter-append (λ e. holding spans id e.0 e.1) (take i spans) (get_or spans i d ∷ []))
    ∙ map-append held_of (filter (λ e. holding spans id e.0 e.1) (take i spans)) (filter (λ e. holding spans id e.0 e.1) (get_or spans i d ∷ [])))

one_held : (spans : Spans) (id : ℕ) (e : ℕ × Node) → is_below spans id e.0 ≡ true → map held_of (filter (λ e. holding spans id e.0 e.1) (e ∷ [])) ≡ held_one e.0 (Some e.1)
one_held spans id e h =
    elim (cases_Bool (is_held e.1)) [ inl t ↦ rw (t, h) refl | inr t ↦ rw t refl ]

one_skipped : (spans : Spans) (id : ℕ) (e : ℕ × Node) → is_below spans id e.0 ≡ false → map held_of (filter (λ e. holding spans id e.0 e.1) (e ∷ [])) ≡ []
one_skipped spans id e h =
    elim (cases_Bool (is_held e.1)) [ inl t ↦ rw (t, h) refl | inr t ↦ rw t refl ]

pub gathered_held : (spans : Spans) (id i : ℕ) (d : ℕ × Node) → AreApart spans → i < length spans → is_below spans id (get_or (all_ids spans) i 0) ≡ true → gathered_in spans id (i + 1) ≡ gathered_in spans id i ++ held_one (get_or (all_ids spans) i 0) (find spans (get_or (all_ids spans) i 0))
gathered_held spans id i d a low h =
    let same = id_place spans i d low in
    let b : is_below spans id (get_or spans i d).0 ≡ true = ap (is_below spans id) (sym same) ∙ h in
    rw (same, find_place spans i d a low) (gathered_more spans id i d low ∙ ap (λ v. gathered_in spans id i ++ v) (one_held spans id (get_or spans i d) b))

pub gathered_skipped : (spans : Spans) (id i : ℕ) (d : ℕ × Node) → i < length spans → is_below spans id (get_or (all_ids spans) i 0) ≡ false → gathered_in spans id (i + 1) ≡ gathered_in spans id i
gathered_skipped spans id i d low h =
    let same = id_place spans i d low in
    let b : is_below spans id (get_or spans i d).0 ≡ false = ap (is_below spans id) (sym same) ∙ h in
    gathered_more spans id i d low ∙ (ap (λ v. gathered_in spans id i ++ v) (one_skipped spans id (get_or spans i d) b) ∙ append-nil (gathered_in spans id i))

pub gathered_all : (spans : Spans) (id i : ℕ) (xs : List ℕ) → xs ≡ all_ids spans → length xs ≤ i → gathered_in spans id i ≡ what_holds spans id
gathered_all spans id i xs same past =
    let len : length (all_ids spans) ≡ length spans = length-map spans (λ (e : ℕ × Node). e.0) in
    let all = ap length same in
    ap (λ v. map held_of (filter (λ e. holding spans id e.0 e.1) v)) (take_all i spans (omega (arith, len, all, past))) ∙ sym (holds_below spans id)

-- ---- one span's holders

pub held_pushed : (es : List (ℕ × Span)) (at : ℕ) (span : Span) → find es at ≡ Some span → 0 < span.handles + span.entries → held_one at (find (nodes_of es) at) ≡ held_of (at, node_of span) ∷ []
held_pushed es at span f h = rw (node_found es at span f, lt-ltb 0 (span.handles + span.entries) h) refl

pub held_none : (es : List (ℕ × Span)) (at : ℕ) (span : Span) → find es at ≡ Some span → span.handles ≤ 0 → span.entries ≤ 0 → held_one at (find (nodes_of es) at) ≡ []
held_none es at span f h k =
    let z : ltb 0 (span.handles + span.entries) ≡ false = grind (arith, nat_tests) in
    rw (node_found es at span f, z) refl

pub held_absent : (es : List (ℕ × Span)) (at : ℕ) → find es at ≡ None → held_one at (find (nodes_of es) at) ≡ []
held_absent es at f = ap (held_one at) (find-nodes es at ∙ ap (option_map node_of) f)

-- a list that is replaced as a whole
pub refilled : (n : ℕ) (xs ws : List (Option Bool)) → n ≡ length xs → length ws ≡ length xs → take n (ws ++ drop (length ws) xs) ≡ ws
refilled n xs ws h k =
    let rest : drop (length ws) xs ≡ [] = drop_of_length-le xs (omega (arith, k)) in
    ap (λ v. take n (ws ++ v)) rest ∙ (ap (take n) (append-nil ws) ∙ take_all n ws (omega (arith, h, k)))

-- ---- one turn of the pass

pub turn_held : (spans : Spans) (id i at : ℕ) → AreApart spans → Place spans i at → is_below spans id at ≡ true → gathered_in spans id (i + 1) ≡ gathered_in spans id i ++ held_one at (find spans at)
turn_held spans id i at a p h =
    subst (λ x. gathered_in spans id (i + 1) ≡ gathered_in spans id i ++ held_one x (find spans x)) (sym p.is)
    (gathered_held spans id i (some_span spans i p.low) a p.low (ap (is_below spans id) (sym p.is) ∙ h))

pub turn_skipped : (spans : Spans) (id i at : ℕ) → Place spans i at → is_below spans id at ≡ false → gathered_in spans id (i + 1) ≡ gathered_in spans id i
turn_skipped spans id i at p h =
    gathered_skipped spans id i (some_span spans i p.low) p.low (ap (is_below spans id) (sym p.is) ∙ h)

-- ---- one turn of the pass over all

abbrev pub held_first : Spans → ℕ → List Held
held_first spans i = map held_of (filter (λ e. is_held e.1) (take i spans))

one_alone : (e : ℕ × Node) → map held_of (filter (λ (e : ℕ × Node). is_held e.1) (e ∷ [])) ≡ held_one e.0 (Some e.1)
one_alone e = elim (cases_Bool (is_held e.1)) [ inl t ↦ rw t refl | inr t ↦ rw t refl ]

held_next : (spans : Spans) (i : ℕ) (d : ℕ × Node) → AreApart spans → i < length spans → held_first spans (i + 1) ≡ held_first spans i ++ held_one (get_or (all_ids spans) i 0) (find spans (get_or (all_ids spans) i 0))
held_next spans i d a low =
    let f : ℕ × Node → Bool = λ e. is_held e.1 in
    rw (id_place spans i d low, find_place spans i d a low)
    (ap (λ v. map held_of (filter f v)) (take_more spans i d low)
    ∙ (ap (map held_of) (filter-append f (take i spans) (get_or spans i d ∷ []))
    ∙ (map-append held_of (filter f (take i spans)) (filter f (get_or spans i d ∷ []))
    ∙ ap (λ v. held_first spans i ++ v) (one_alone (get_or spans i d)))))

pub turn_all : (spans : Spans) (i at : ℕ) → AreApart spans → Place spans i at → held_first spans (i + 1) ≡ held_first spans i ++ held_one at (find spans at)
turn_all spans i at a p =
    subst (λ x. held_first spans (i + 1) ≡ held_first spans i ++ held_one x (find spans x)) (sym p.is) (held_next spans i (some_span spans i p.low) a p.low)

pub all_first : (spans : Spans) (i : ℕ) → length spans ≤ i → held_first spans i ≡ held_spans spans
all_first spans i h = ap (λ v. map held_of (filter (λ (e : ℕ × Node). is_held e.1) v)) (take_all i spans h)
