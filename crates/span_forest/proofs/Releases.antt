-- What a number of releases leaves.
use Rattle.std.proofs.Common.{◌≡◌, ℕ, ◌+◌, ◌<◌, ◌≤◌, true, ◌&&◌, cond, List, [], ◌∷◌, Option, Some, None, IsSome, refl, sym, ap, subst, ◌∙◌, inl, inr, arith}
use Rattle.std.specs.Prelude.{◌==◌}
use Rattle.std.specs.Option.{option_map}
use Rattle.std.proofs.lemmas.Bool.Decides.{eqb_tells}
use Rattle.std.proofs.lemmas.Bool.{cases_Bool, cases_lt, eq-eqb, false≢true}
use Rattle.span_forest.specs.declared.span.Holder.{Holder}
use Rattle.span_forest.specs.declared.span.Holder.TheVariants.{Handle, Entry}
use Rattle.span_forest.specs.Node.{Node}
use Rattle.span_slots.specs.Table.{find}
use Rattle.span_forest.specs.Spans.{Spans, IsOpen, parent_in, parent_of}
use Rattle.span_forest.specs.Count.{holders_in}
use Rattle.span_forest.specs.Forest.{IsForest}
use Rattle.span_forest.specs.Live.{is_live, live_part}
use Rattle.span_forest.specs.Holders.{held_in, IsHeld, with_less}
use Rattle.span_forest.specs.Release.{without_holder, spans_left}
use Rattle.span_forest.specs.Holding.{spans_after, AreHeld, same_holder, given_back}
use Rattle.span_forest.proofs.Ranks.{IsRanked, ranked}
use Rattle.span_forest.proofs.Walks.{OnWalk, here, above}
use Rattle.span_forest.proofs.Nodes.{with_less-parent, find-changed_same, find-changed_other, parent_of-changed, IsForest-changed, IsOpen-changed}
use Rattle.span_forest.proofs.Spared.{kept_passes, passing_kept, not_some, held_live, parent_live}
use Rattle.span_forest.proofs.Upheld.{IsUpheld, live_parent, upheld_released}

less_one : (k h : Holder) (o : Option Node) → 0 < held_in k o → held_in h (option_map (with_less k) o) + cond (same_holder k h) 1 0 ≡ held_in h o
less_one k h None low = absurd (omega (arith, low))
less_one Handle Handle (Some n) low = omega (arith, low)
less_one Handle Entry (Some n) low = omega arith
less_one Entry Handle (Some n) low = omega arith
less_one Entry Entry (Some n) low = omega (arith, low)

held_without : (spans : Spans) (id : ℕ) (k h : Holder) (x : ℕ) → IsHeld spans id k → held_in h (find (without_holder spans id k) x) + cond (id == x && same_holder k h) 1 0 ≡ held_in h (find spans x)
held_without spans id k h x held =
    elim (eqb_tells id x) [
      | inl t ↦ (let r = less_one k h (find spans id) held in
          let here = ap (held_in h) (find-changed_same (with_less k) spans id) in
          let all : held_in h (find (without_holder spans id k) id) + cond (same_holder k h) 1 0 ≡ held_in h (find spans id) = omega (arith, r, here) in
          rw t.0 (subst (λ y. held_in h (find (without_holder spans id k) y) + cond (same_holder k h) 1 0 ≡ held_in h (find spans y)) t.1 all))
      | inr t ↦ (let there = ap (held_in h) (find-changed_other (with_less k) spans id x (λ q. t.1 (sym q))) in
          rw t.0 (omega (arith, there)))
    ]

held_le : (h : Holder) (o : Option Node) → held_in h o ≤ holders_in o
held_le h None = omega arith
held_le Handle (Some n) = omega arith
held_le Entry (Some n) = omega arith

held_live_part : (spans : Spans) → IsRanked spans → (h : Holder) (x : ℕ) → held_in h (find (live_part spans) x) ≡ held_in h (find spans x)
held_live_part spans w h x =
    elim (cases_Bool (is_live spans x)) [
      | inl t ↦ ap (held_in h) (passing_kept (is_live spans) spans x t)
      | inr t ↦ (let gone : find (live_part spans) x ≡ None = not_some (find (live_part spans) x) (λ o. false≢true (sym t ∙ kept_passes (is_live spans) spans x o)) in
          let none = ap (held_in h) gone in
          let le = held_le h (find spans x) in
          elim (cases_lt 0 (holders_in (find spans x))) [
            | inl some ↦ absurd (false≢true (sym t ∙ held_live spans x w some))
            | inr zero_held ↦ omega (arith, none, le, zero_held)
          ])
    ]

ranked_without : (spans : Spans) (id : ℕ) (k : Holder) → IsForest spans → IsRanked (without_holder spans id k)
ranked_without spans id k w = ranked (without_holder spans id k) (IsForest-changed (with_less k) (with_less-parent k) spans id w)

-- a release takes one holder, and no other
held_left : (spans : Spans) (id : ℕ) (k h : Holder) (x : ℕ) → IsForest spans → IsHeld spans id k → held_in h (find (spans_left spans id k) x) + cond (id == x && same_holder k h) 1 0 ≡ held_in h (find spans x)
held_left spans id k h x w held =
    let live = held_live_part (without_holder spans id k) (ranked_without spans id k w) h x in
    let less = held_without spans id k h x held in
    omega (arith, live, less)

-- what is on a walk after a release was on it before
walk_before : (spans : Spans) (id : ℕ) (k : Holder) → IsForest spans → (u s : ℕ) → OnWalk (spans_left spans id k) u s → OnWalk spans u s
walk_before spans id k w u s r = back (spans_left spans id k) refl u s r where
  back : (less : Spans) → less ≡ spans_left spans id k → (u s : ℕ) → OnWalk less u s → OnWalk spans u s
  back less same u s here = here
  back less same u s (above p e r) =
      let e2 : parent_of (spans_left spans id k) u ≡ Some p = rw same at e in
      let was = live_parent (without_holder spans id k) (ranked_without spans id k w) u p e2 in
      above p (sym (parent_of-changed (with_less k) (with_less-parent k) spans id u) ∙ was.1) (back less same p s r)

-- and what was on a walk of a span that stays open is on it after
walk_left : (spans : Spans) (id : ℕ) (k : Holder) → IsForest spans → (u s : ℕ) → is_live (without_holder spans id k) u ≡ true → OnWalk spans u s → OnWalk (spans_left spans id k) u s
walk_left spans id k w u s live here = here
walk_left spans id k w u s live (above p e r) =
    let m = without_holder spans id k in
    let e2 : parent_of m u ≡ Some p = parent_of-changed (with_less k) (with_less-parent k) spans id u ∙ e in
    let up = parent_live m u p (ranked_without spans id k w) e2 live in
    above p (ap parent_in (passing_kept (is_live m) m u live) ∙ e2) (walk_left spans id k w p s up r)

pub upheld_after : (releases : List (ℕ × Holder)) (spans : Spans) → IsUpheld spans → IsUpheld (spans_after spans releases)
upheld_after [] spans w = w
upheld_after (r ∷ rs) spans w = upheld_after rs (spans_left spans r.0 r.1) (upheld_released spans r.0 r.1 w.forest)

pub held_after : (releases : List (ℕ × Holder)) (spans : Spans) → IsForest spans → AreHeld spans releases → (h : Holder) (x : ℕ) → held_in h (find (spans_after spans releases) x) + given_back h x releases ≡ held_in h (find spans x)
held_after [] spans w held h x = omega arith
held_after (r ∷ rs) spans w held h x =
    let first = held_left spans r.0 r.1 h x w held.0 in
    let rest = held_after rs (spans_left spans r.0 r.1) (upheld_released spans r.0 r.1 w).forest held.1 h x in
    omega (arith, first, rest)

pub open_before : (releases : List (ℕ × Holder)) (spans : Spans) (x : ℕ) → IsOpen (spans_after spans releases) x → IsOpen spans x
open_before [] spans x o = o
open_before (r ∷ rs) spans x o =
    let m = without_holder spans r.0 r.1 in
    let left = open_before rs (spans_left spans r.0 r.1) x o in
    IsOpen-changed (with_less r.1) spans r.0 x (subst IsSome (passing_kept (is_live m) m x (kept_passes (is_live m) m x left)) left)

pub walks_before : (releases : List (ℕ × Holder)) (spans : Spans) → IsForest spans → (u s : ℕ) → OnWalk (spans_after spans releases) u s → OnWalk spans u s
walks_before [] spans w u s r = r
walks_before (k ∷ ks) spans w u s r =
    walk_before spans k.0 k.1 w u s (walks_before ks (spans_left spans k.0 k.1) (upheld_released spans k.0 k.1 w).forest u s r)

pub walks_after : (releases : List (ℕ × Holder)) (spans : Spans) → IsForest spans → (u s : ℕ) → IsOpen (spans_after spans releases) u → OnWalk spans u s → OnWalk (spans_after spans releases) u s
walks_after [] spans w u s o r = r
walks_after (k ∷ ks) spans w u s o r =
    let m = without_holder spans k.0 k.1 in
    let left = open_before ks (spans_left spans k.0 k.1) u o in
    walks_after ks (spans_left spans k.0 k.1) (upheld_released spans k.0 k.1 w).forest u s o (walk_left spans k.0 k.1 w u s (kept_passes (is_live m) m u left) r)

-- releases are legal where no more is given back than there is
same_self : (k : Holder) → same_holder k k ≡ true
same_self Handle = refl
same_self Entry = refl

pub legal_from : (releases : List (ℕ × Holder)) (spans : Spans) → IsForest spans → ((x : ℕ) (h : Holder) → given_back h x releases ≤ held_in h (find spans x)) → AreHeld spans releases
legal_from [] spans w le = tt
legal_from (r ∷ rs) spans w le =
    let n : cond (r.0 == r.0 && same_holder r.1 r.1) 1 0 + given_back r.1 r.0 rs ≤ held_in r.1 (find spans r.0) = le r.0 r.1 in
    let n2 = rw (eq-eqb r.0 r.0 refl, same_self r.1) at n in
    let held : IsHeld spans r.0 r.1 = omega (arith, n2) in (
      held,
      legal_from rs (spans_left spans r.0 r.1) (upheld_released spans r.0 r.1 w).forest
          (λ x h. (let left = held_left spans r.0 r.1 h x w held in let all = le x h in omega (arith, left, all))),
    )

pub legal_to : (releases : List (ℕ × Holder)) (spans : Spans) → IsForest spans → AreHeld spans releases → (x : ℕ) (h : Holder) → given_back h x releases ≤ held_in h (find spans x)
legal_to releases spans w held x h = let k = held_after releases spans w held h x in omega (arith, k)
