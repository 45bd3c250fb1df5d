-- A span closes with the last that keeps it.
use Rattle.std.proofs.Common.{◌≡◌, ℕ, zero, suc, ◌+◌, ◌*◌, ◌++◌, replicate, get_or, ◌<◌, ◌≤◌, Bool, true, ◌&&◌, cond, List, [], ◌∷◌, map, filter, Option, Some, None, IsSome, refl, sym, ap, subst, ◌∙◌, inl, inr, arith}
use Rattle.std.specs.Prelude.{All, Contains, ◌==◌}
use Rattle.std.proofs.lemmas.Bool.Decides.{eqb_tells}
use Rattle.std.proofs.lemmas.Bool.{cases_Bool, cases_lt}
use Rattle.std.proofs.lemmas.List.Elements.{All-contains, All-contains_itself}
use Rattle.span_forest.specs.declared.span.Holder.{Holder}
use Rattle.span_forest.specs.declared.span.Holder.TheVariants.{Handle, Entry}
use Rattle.span_forest.specs.declared.holding.Held.{Held}
use Rattle.span_forest.specs.Node.{Node}
use Rattle.span_slots.specs.Table.{find, AreApart}
use Rattle.span_forest.specs.Spans.{Spans, IsOpen}
use Rattle.span_forest.specs.Forest.{IsForest}
use Rattle.span_forest.specs.Holders.{held_in}
use Rattle.span_forest.specs.Holding.{held_of, what_holds, releases_of, spans_after, AreHeld, same_holder, given_back, IsGivenBack}
use Rattle.span_forest.proofs.Finds.{open_node, open_from_node}
use Rattle.span_forest.proofs.Ranks.{ranked}
use Rattle.span_forest.proofs.KeptOpen.{holding, held_below, holds_below, holder_kept, holder_above, kept_by}
use Rattle.span_forest.proofs.Releases.{upheld_after, held_after, open_before, walks_before, walks_after, legal_from}
use Rattle.span_forest.proofs.Walks.{Live-from_is_live, all_live}
use Rattle.span_forest.proofs.Spared.{on_walk_open, not_some}
use Rattle.span_forest.proofs.Upheld.{IsUpheld, held_more}

pub closed_after : (spans : Spans) (id : ℕ) (releases : List (ℕ × Holder)) → IsUpheld spans → AreHeld spans releases → All (IsGivenBack releases) (what_holds spans id) → find (spans_after spans releases) id ≡ None
closed_after spans id releases w held all =
    let after = spans_after spans releases in
    not_some (find after id) (λ o. (let w2 = upheld_after releases spans w in
    let r = ranked after w2.forest in
    let v = Live-from_is_live after id r (all_live after r w2.positive id o) in
    let n = open_node spans v.holder (open_before releases spans v.holder (open_from_node after v.holder v.node v.found)) in
    let handles = held_after releases spans w.forest held Handle v.holder in
    let entries = held_after releases spans w.forest held Entry v.holder in
    let handles_now = ap (held_in Handle) v.found in
    let entries_now = ap (held_in Entry) v.found in
    let handles_was = ap (held_in Handle) n.1 in
    let entries_was = ap (held_in Entry) n.1 in
    let some = held_more v.node v.held in
    let c = kept_by spans id v.holder n.0 w.forest n.1 (omega (arith, handles, entries, handles_now, entries_now, handles_was, entries_was, some)) (walks_before releases spans w.forest v.holder id v.on_walk) in
    let g = All-contains (IsGivenBack releases) (what_holds spans id) (held_of (v.holder, n.0)) all c in
    let gh = g.handles in
    let ge = g.entries in
    omega (arith, handles, entries, handles_now, entries_now, handles_was, entries_was, some, gh, ge)))

open_if_held : (o : Option Node) → 0 < held_in Handle o + held_in Entry o → IsSome o
open_if_held None low = absurd (omega (arith, low))
open_if_held (Some n) low = refl

pub open_after : (spans : Spans) (id : ℕ) (releases : List (ℕ × Holder)) (held : Held) → IsUpheld spans → AreHeld spans releases → Contains (what_holds spans id) held → (IsGivenBack releases held → ⊥) → IsOpen (spans_after spans releases) id
open_after spans id releases held w legal c not_all =
    let after = spans_after spans releases in
    let k = holder_kept spans id held w.forest.ids_apart c in
    let handles = held_after releases spans w.forest legal Handle held.id in
    let entries = held_after releases spans w.forest legal Entry held.id in
    let handles_was : held.handles ≡ held_in Handle (find spans held.id) = ap (λ (h : Held). h.handles) k.is ∙ ap (held_in Handle) (sym k.found) in
    let entries_was : held.entries ≡ held_in Entry (find spans held.id) = ap (λ (h : Held). h.entries) k.is ∙ ap (held_in Entry) (sym k.found) in
    let some : 0 < held_in Handle (find after held.id) + held_in Entry (find after held.id) = elim (cases_lt 0 (held_in Handle (find after held.id) + held_in Entry (find after held.id))) [
      | inl t ↦ t
      | inr t ↦ absurd (not_all (record { handles = omega (arith, handles, handles_was, t); entries = omega (arith, entries, entries_was, t) }))
    ] in
    let there = open_if_held (find after held.id) some in
    on_walk_open after (ranked after (upheld_after releases spans w).forest) held.id id
    (walks_after releases spans w.forest held.id id there (holder_above spans id held k)) there

back_append : (h : Holder) (x : ℕ) (first later : List (ℕ × Holder)) → given_back h x (first ++ later) ≡ given_back h x first + given_back h x later
back_append h x [] later = omega arith
back_append h x (r ∷ rs) later = let k = back_append h x rs later in omega (arith, k)

back_replicated : (h k : Holder) (x id n : ℕ) → given_back h x (replicate n (id, k)) ≡ n * cond (id == x && same_holder k h) 1 0
back_replicated h k x id zero = omega arith
back_replicated h k x id (suc n) =
    let r = back_replicated h k x id n in
    elim (cases_Bool (id == x && same_holder k h)) [
      | inl t ↦ (let r2 = rw t at r in rw t (omega (arith, r2)))
      | inr t ↦ (let r2 = rw t at r in rw t (omega (arith, r2)))
    ]

-- how many holders of a kind a list tells of an id
kind_in : Holder → Held → ℕ
kind_in Handle held = held.handles
kind_in Entry held = held.entries

told_in : Holder → ℕ → List Held → ℕ
told_in h x [] = 0
told_in h x (held ∷ list) = cond (held.id == x) (kind_in h held) 0 + told_in h x list

one_back : (h : Holder) (x : ℕ) (held : Held) → held.handles * cond (held.id == x && same_holder Handle h) 1 0 + held.entries * cond (held.id == x && same_holder Entry h) 1 0 ≡ cond (held.id == x) (kind_in h held) 0
unfolding kind_in
one_back Handle x held = elim (cases_Bool (held.id == x)) [ inl t ↦ rw t (omega arith) | inr t ↦ rw t (omega arith) ]
one_back Entry x held = elim (cases_Bool (held.id == x)) [ inl t ↦ rw t (omega arith) | inr t ↦ rw t (omega arith) ]

back_told : (h : Holder) (x : ℕ) (list : List Held) → given_back h x (releases_of list) ≡ told_in h x list
unfolding told_in
back_told h x [] = refl
back_told h x (held ∷ list) =
    let handles : List (ℕ × Holder) = replicate held.handles (held.id, Handle) in
    let entries : List (ℕ × Holder) = replicate held.entries (held.id, Entry) in
    let a = back_append h x (handles ++ entries) (releases_of list) in
    let b = back_append h x handles entries in
    let c = back_replicated h Handle x held.id held.handles in
    let d = back_replicated h Entry x held.id held.entries in
    let e = one_back h x held in
    let r = back_told h x list in
    let all : given_back h x ((handles ++ entries) ++ releases_of list) ≡ cond (held.id == x) (kind_in h held) 0 + told_in h x list = omega (arith, a, b, c, d, e, r) in
    all

told_absent : (f : ℕ → Node → Bool) (h : Holder) (x : ℕ) (spans : Spans) → find spans x ≡ None → told_in h x (map held_of (filter (λ e. f e.0 e.1) spans)) ≡ 0
unfolding told_in
told_absent f h x [] none = refl
told_absent f h x (e ∷ es) none =
    elim (eqb_tells e.0 x) [
      | inl t ↦ (let none2 = rw t.0 at none in cc)
      | inr t ↦ (let r = told_absent f h x es (rw t.0 at none) in elim (cases_Bool (f e.0 e.1)) [ inl u ↦ rw (u, t.0) (omega (arith, r)) | inr u ↦ rw u r ])
    ]

kind_held : (h : Holder) (e : ℕ × Node) → kind_in h (held_of e) ≡ held_in h (Some e.1)
unfolding kind_in
kind_held Handle e = refl
kind_held Entry e = refl

told_le : (f : ℕ → Node → Bool) (h : Holder) (x : ℕ) (spans : Spans) → AreApart spans → told_in h x (map held_of (filter (λ e. f e.0 e.1) spans)) ≤ held_in h (find spans x)
unfolding told_in
told_le f h x [] a = omega arith
told_le f h x (e ∷ es) a =
    elim (eqb_tells e.0 x) [
      | inl t ↦ (let none : find es x ≡ None = subst (λ y. find es y ≡ None) t.1 a.0 in
          let z = told_absent f h x es none in
          let k = kind_held h e in
          elim (cases_Bool (f e.0 e.1)) [ inl u ↦ rw (u, t.0) (omega (arith, z, k)) | inr u ↦ rw (u, t.0) (omega (arith, z)) ])
      | inr t ↦ (let r = told_le f h x es a.1 in
          elim (cases_Bool (f e.0 e.1)) [ inl u ↦ rw (u, t.0) (omega (arith, r)) | inr u ↦ rw (u, t.0) r ])
    ]

told_is : (f : ℕ → Node → Bool) (h : Holder) (x : ℕ) (node : Node) (spans : Spans) → AreApart spans → find spans x ≡ Some node → f x node ≡ true → told_in h x (map held_of (filter (λ e. f e.0 e.1) spans)) ≡ held_in h (Some node)
unfolding told_in
told_is f h x node [] a found u = cc
told_is f h x node (e ∷ es) a found u =
    elim (eqb_tells e.0 x) [
      | inl t ↦ (let none : find es x ≡ None = subst (λ y. find es y ≡ None) t.1 a.0 in
          let z = told_absent f h x es none in
          let k = kind_held h e in
          let found2 = rw t.0 at found in
          let same : e.1 ≡ node = cc in
          let q : held_in h (Some e.1) ≡ held_in h (Some node) = ap (λ n. held_in h (Some n)) same in
          let w : f e.0 e.1 ≡ true = rw (t.1, same) u in
          rw (w, t.0) (omega (arith, z, k, q)))
      | inr t ↦ (let r = told_is f h x node es a.1 (rw t.0 at found) u in
          elim (cases_Bool (f e.0 e.1)) [ inl w ↦ rw (w, t.0) (omega (arith, r)) | inr w ↦ rw w r ])
    ]

told_held : (spans : Spans) (id : ℕ) (h : Holder) (x : ℕ) → told_in h x (what_holds spans id) ≡ told_in h x (held_below spans id)
told_held spans id h x = ap (told_in h x) (holds_below spans id)

pub list_legal : (spans : Spans) (id : ℕ) → IsForest spans → AreHeld spans (releases_of (what_holds spans id))
list_legal spans id w =
    legal_from (releases_of (what_holds spans id)) spans w
    (λ x h. (let a = back_told h x (what_holds spans id) ∙ told_held spans id h x in let b = told_le (holding spans id) h x spans w.ids_apart in omega (arith, a, b)))

pub list_given_back : (spans : Spans) (id : ℕ) → IsForest spans → All (IsGivenBack (releases_of (what_holds spans id))) (what_holds spans id)
list_given_back spans id w i d low =
    let list = what_holds spans id in
    given (get_or list i d) (All-contains_itself list i d low)
  where
    given : (held : Held) → Contains (what_holds spans id) held → IsGivenBack (releases_of (what_holds spans id)) held
    given held c =
        let k = holder_kept spans id held w.ids_apart c in
        let handles : held.handles ≡ k.node.handles = ap (λ (h : Held). h.handles) k.is in
        let entries : held.entries ≡ k.node.entries = ap (λ (h : Held). h.entries) k.is in
        record {
          handles = back_told Handle held.id (what_holds spans id) ∙ told_held spans id Handle held.id ∙ (told_is (holding spans id) Handle held.id k.node spans w.ids_apart k.found k.passes ∙ sym handles);
          entries = back_told Entry held.id (what_holds spans id) ∙ told_held spans id Entry held.id ∙ (told_is (holding spans id) Entry held.id k.node spans w.ids_apart k.found k.passes ∙ sym entries);
        }

pub closed_by_list : (spans : Spans) (id : ℕ) → IsUpheld spans → find (spans_after spans (releases_of (what_holds spans id))) id ≡ None
closed_by_list spans id w =
    closed_after spans id (releases_of (what_holds spans id)) w (list_legal spans id w.forest) (list_given_back spans id w.forest)
