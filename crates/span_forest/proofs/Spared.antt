-- Which spans a release closes: exactly those of its list, which is the first part of the walk.
use Rattle.std.proofs.Common.{◌≡◌, ℕ, zero, suc, ◌<◌, Bool, true, false, not, List, [], ◌∷◌, length, filter, take, Option, Some, None, IsSome, IsTrue, refl, sym, ap, ◌∙◌, inl, inr, arith}
use Rattle.std.proofs.lemmas.Bool.Decides.{nat_tests, eqb_tells}
use Rattle.std.proofs.lemmas.Bool.{cases_Bool, false≢true}
use Rattle.span_id.specs.Ids.{has}
use Rattle.span_forest.specs.declared.span.Holder.{Holder}
use Rattle.span_forest.specs.Node.{Node}
use Rattle.span_slots.specs.Table.{find}
use Rattle.span_forest.specs.Spans.{Spans, IsOpen, parent_of, with_change}
use Rattle.span_forest.specs.Walk.{walk_within, walk}
use Rattle.span_forest.specs.Count.{holders, is_held, holders_in, reference_count}
use Rattle.span_forest.specs.Live.{is_live, live_part}
use Rattle.span_forest.specs.Holders.{with_less}
use Rattle.span_forest.specs.Release.{without_holder, closing_list, spans_left}
use Rattle.span_forest.specs.Forest.{IsForest}
use Rattle.span_forest.proofs.Finds.{open_from_node}
use Rattle.span_forest.proofs.Ranks.{IsRanked, ranked}
use Rattle.span_forest.proofs.Walks.{OnWalk, OnWalk-up, Live-from_is_live, is_live-from_Live, all_live, OnWalk-from_stands, stands-from_OnWalk, Ends-from_ranks, here, above}
use Rattle.span_forest.proofs.Nodes.{with_less-parent, find-changed_other, parent_of-changed, IsForest-changed, changed_open, IsOpen-changed}
use Rattle.span_forest.proofs.Totals.{length-changed}

filtered : (p : ℕ → Bool) (s : ℕ) (xs : List ℕ) → has (filter p xs) s ≡ true → p s ≡ true
filtered p s [] h = cc
filtered p s (x ∷ xs) h =
    elim (cases_Bool (p x)) [
      | inl t ↦ (let h2 = rw t at h in elim (eqb_tells x s) [
        | inl q ↦ rw (← q.1) t
        | inr q ↦ filtered p s xs (rw q.0 at h2)
      ])
      | inr t ↦ filtered p s xs (rw t at h)
    ]

stands_filtered : (p : ℕ → Bool) (s : ℕ) (xs : List ℕ) → has xs s ≡ true → p s ≡ true → has (filter p xs) s ≡ true
stands_filtered p s [] h k = cc
stands_filtered p s (x ∷ xs) h k =
    elim (eqb_tells x s) [
      | inl q ↦ (let t : p x ≡ true = rw q.1 k in rw (t, q.0) refl)
      | inr q ↦ (let r = stands_filtered p s xs (rw q.0 at h) k in
          elim (cases_Bool (p x)) [ inl t ↦ rw (t, q.0) r | inr t ↦ rw t r ])
    ]

pub stands_unfiltered : (p : ℕ → Bool) (s : ℕ) (xs : List ℕ) → has (filter p xs) s ≡ true → has xs s ≡ true
stands_unfiltered p s [] h = cc
stands_unfiltered p s (x ∷ xs) h =
    elim (eqb_tells x s) [
      | inl q ↦ rw q.0 refl
      | inr q ↦ elim (cases_Bool (p x)) [
        | inl t ↦ (let r = stands_unfiltered p s xs (rw (t, q.0) at h) in rw q.0 r)
        | inr t ↦ (let r = stands_unfiltered p s xs (rw t at h) in rw q.0 r)
      ]
    ]

-- a span of a filtered map passes the test
pub kept_passes : (f : ℕ → Bool) (spans : Spans) (s : ℕ) → IsSome (find (filter (λ e. f e.0) spans) s) → f s ≡ true
kept_passes f [] s o = cc
kept_passes f (e ∷ es) s o =
    elim (cases_Bool (f e.0)) [
      | inl t ↦ (let o2 = rw t at o in elim (eqb_tells e.0 s) [
        | inl q ↦ rw (← q.1) t
        | inr q ↦ kept_passes f es s (rw q.0 at o2)
      ])
      | inr t ↦ kept_passes f es s (rw t at o)
    ]

pub passing_kept : (f : ℕ → Bool) (spans : Spans) (s : ℕ) → f s ≡ true → find (filter (λ e. f e.0) spans) s ≡ find spans s
passing_kept f [] s h = refl
passing_kept f (e ∷ es) s h =
    let r = passing_kept f es s h in
    elim (eqb_tells e.0 s) [
      | inl q ↦ (let t : f e.0 ≡ true = rw q.1 h in rw (t, q.0) refl)
      | inr q ↦ elim (cases_Bool (f e.0)) [ inl t ↦ rw (t, q.0) r | inr t ↦ rw (t, q.0) r ]
    ]

not_true : (b : Bool) → not b ≡ true → b ≡ false
not_true true h = cc
not_true false h = refl

not_false : (b : Bool) → not b ≡ false → b ≡ true
not_false true h = refl
not_false false h = cc

both : (b : Bool) → b ≡ true → b ≡ false → ⊥
both b t f = false≢true (sym f ∙ t)

pub not_some : (o : Option Node) → (IsSome o → ⊥) → o ≡ None
not_some None h = refl
not_some (Some n) h = absurd (h refl)

pub none_open : (o : Option Node) → o ≡ None → IsSome o → ⊥
none_open None e h = cc
none_open (Some n) e h = cc

pub held_node : (node : Node) → 0 < holders node → is_held node ≡ true
held_node node h = grind (arith, nat_tests)

-- a span that has a holder is live
pub held_live : (spans : Spans) (s : ℕ) → IsRanked spans → 0 < holders_in (find spans s) → is_live spans s ≡ true
held_live spans s w h = held_at (find spans s) refl h where
  held_at : (o : Option Node) → find spans s ≡ o → 0 < holders_in o → is_live spans s ≡ true
  held_at None e k = absurd (omega arith)
  held_at (Some node) e k = is_live-from_Live spans s w (record { holder = s; node = node; found = e; held = held_node node k; on_walk = here })

-- the parent of a live span is live
pub parent_live : (spans : Spans) (c p : ℕ) → IsRanked spans → parent_of spans c ≡ Some p → is_live spans c ≡ true → is_live spans p ≡ true
parent_live spans c p w e h =
    let v = Live-from_is_live spans c w h in
    is_live-from_Live spans p w (record { holder = v.holder; node = v.node; found = v.found; held = v.held; on_walk = OnWalk-up spans v.holder c p v.on_walk e })

-- all spans of an open span's walk are open
pub on_walk_open : (spans : Spans) → IsRanked spans → (u s : ℕ) → OnWalk spans u s → IsOpen spans u → IsOpen spans s
on_walk_open spans w u s here o = o
on_walk_open spans w u s (above p e r) o = on_walk_open spans w p s r (w.parents_open u p e)

OnWalk-changed : (f : Node → Node) → ((n : Node) → (f n).parent ≡ n.parent) → (spans : Spans) (id u s : ℕ) → OnWalk spans u s → OnWalk (with_change f spans id) u s
OnWalk-changed f k spans id u s here = here
OnWalk-changed f k spans id u s (above p e r) = above p (parent_of-changed f k spans id u ∙ e) (OnWalk-changed f k spans id p s r)

walk_same : (f : Node → Node) → ((n : Node) → (f n).parent ≡ n.parent) → (spans : Spans) (id n : ℕ) (o : Option ℕ) → walk_within n (with_change f spans id) o ≡ walk_within n spans o
walk_same f k spans id n None = refl
walk_same f k spans id zero (Some i) = refl
walk_same f k spans id (suc n) (Some i) =
    ap (λ o. i ∷ walk_within n (with_change f spans id) o) (parent_of-changed f k spans id i) ∙ ap (λ v. i ∷ v) (walk_same f k spans id n (parent_of spans i))

filter_none : (q : ℕ → Bool) (spans : Spans) → ((c p : ℕ) → parent_of spans c ≡ Some p → q c ≡ false → q p ≡ false) → (n : ℕ) (o : Option ℕ) → ((i : ℕ) → o ≡ Some i → q i ≡ false) → filter q (walk_within n spans o) ≡ []
filter_none q spans up n None h = refl
filter_none q spans up zero (Some i) h = refl
filter_none q spans up (suc n) (Some i) h =
    let r = filter_none q spans up n (parent_of spans i) (λ p e. up i p e (h i refl)) in
    rw (h i refl) r

-- where what passes a test stops passing at some span of a walk, it stays so, and the filter is a first part
filter_first : (q : ℕ → Bool) (spans : Spans) → ((c p : ℕ) → parent_of spans c ≡ Some p → q c ≡ false → q p ≡ false) → (n : ℕ) (o : Option ℕ) → filter q (walk_within n spans o) ≡ take (length (filter q (walk_within n spans o))) (walk_within n spans o)
filter_first q spans up n None = refl
filter_first q spans up zero (Some i) = refl
filter_first q spans up (suc n) (Some i) =
    elim (cases_Bool (q i)) [
      | inl t ↦ (let r = filter_first q spans up n (parent_of spans i) in rw t (ap (λ v. i ∷ v) r))
      | inr t ↦ (let r = filter_none q spans up n (parent_of spans i) (λ p e. up i p e t) in rw (t, r) refl)
    ]

dead_parent : (spans : Spans) → IsRanked spans → (c p : ℕ) → parent_of spans c ≡ Some p → not (is_live spans c) ≡ false → not (is_live spans p) ≡ false
dead_parent spans w c p e h = rw (parent_live spans c p w e (not_false (is_live spans c) h)) refl

module _ (spans : Spans) (forest : IsForest spans) (positive : (j : ℕ) → IsOpen spans j → 0 < reference_count spans j) (id : ℕ) (holder : Holder) where
  left_ranked : IsRanked (without_holder spans id holder)
  left_ranked = ranked (without_holder spans id holder) (IsForest-changed (with_less holder) (with_less-parent holder) spans id forest)

  listed_dead : (s : ℕ) → has (closing_list spans id holder) s ≡ true → is_live (without_holder spans id holder) s ≡ false
  listed_dead s h = not_true (is_live (without_holder spans id holder) s) (filtered (λ x. not (is_live (without_holder spans id holder) x)) s (walk (without_holder spans id holder) id) h)

  -- a span that keeps a holder isn't listed
  pub holder_spared : (s : ℕ) → 0 < holders_in (find (without_holder spans id holder) s) → IsTrue (has (closing_list spans id holder) s) → ⊥
  holder_spared s h t = both _ (held_live (without_holder spans id holder) s left_ranked h) (listed_dead s t)

  -- nor is one with a child that stays open
  pub child_spared : (child parent : ℕ) → parent_of spans child ≡ Some parent → IsOpen (spans_left spans id holder) child → IsTrue (has (closing_list spans id holder) parent) → ⊥
  child_spared child parent e o t =
      let m = without_holder spans id holder in
      let e2 : parent_of m child ≡ Some parent = parent_of-changed (with_less holder) (with_less-parent holder) spans id child ∙ e in
      both _ (parent_live m child parent left_ranked e2 (kept_passes (is_live m) m child o)) (listed_dead parent t)

  listed_gone : (s : ℕ) → IsTrue (has (closing_list spans id holder) s) → find (spans_left spans id holder) s ≡ None
  listed_gone s t =
      let m = without_holder spans id holder in
      not_some (find (live_part m) s) (λ o. both _ (kept_passes (is_live m) m s o) (listed_dead s t))

  gone_dead : (s : ℕ) → IsOpen spans s → find (spans_left spans id holder) s ≡ None → is_live (without_holder spans id holder) s ≡ false
  gone_dead s o h =
      let m = without_holder spans id holder in
      elim (cases_Bool (is_live m s)) [
        | inl t ↦ absurd (none_open (find m s) (sym (passing_kept (is_live m) m s t) ∙ h) (changed_open (with_less holder) spans id s o))
        | inr t ↦ t
      ]

  -- an open span that is dead without the holder is listed
  dead_listed : (s : ℕ) → IsOpen spans s → is_live (without_holder spans id holder) s ≡ false → IsTrue (has (closing_list spans id holder) s)
  dead_listed s o dead =
      let m = without_holder spans id holder in
      let r = ranked spans forest in
      let v = Live-from_is_live spans s r (all_live spans r positive s o) in
      let on_walk = OnWalk-changed (with_less holder) (with_less-parent holder) spans id v.holder s v.on_walk in
      elim (eqb_tells v.holder id) [
        | inl q ↦ (let here_walk : OnWalk m id s = rw q.1 at on_walk in
            let here_open : IsOpen spans id = rw q.1 at (open_from_node spans v.holder v.node v.found) in
            let stands = stands-from_OnWalk m id s here_walk (length m) (Ends-from_ranks m left_ranked id (changed_open (with_less holder) spans id id here_open)) in
            stands_filtered (λ x. not (is_live m x)) s (walk m id) stands (rw dead refl))
        | inr q ↦ absurd (both _ (is_live-from_Live m s left_ranked (record { holder = v.holder; node = v.node; found = find-changed_other (with_less holder) spans id v.holder q.1 ∙ v.found; held = v.held; on_walk = on_walk })) dead)
      ]

  -- exactly the listed spans are gone
  pub gone_exactly : (s : ℕ) → IsOpen spans s → (IsTrue (has (closing_list spans id holder) s) → find (spans_left spans id holder) s ≡ None) × (find (spans_left spans id holder) s ≡ None → IsTrue (has (closing_list spans id holder) s))
  gone_exactly s o = (listed_gone s, λ h. dead_listed s o (gone_dead s o h))

  -- which are those that are no longer live
  pub dead_exactly : (s : ℕ) → IsOpen spans s → (IsTrue (has (closing_list spans id holder) s) → is_live (without_holder spans id holder) s ≡ false) × (is_live (without_holder spans id holder) s ≡ false → IsTrue (has (closing_list spans id holder) s))
  dead_exactly s o = (listed_dead s, dead_listed s o)

  -- each of them was open
  pub listed_open : IsOpen spans id → (s : ℕ) → IsTrue (has (closing_list spans id holder) s) → IsOpen spans s
  listed_open o s t =
      let m = without_holder spans id holder in
      let stands = stands_unfiltered (λ x. not (is_live m x)) s (walk m id) t in
      let k = OnWalk-from_stands m s (length m) (Some id) stands in
      let same : k.0 ≡ id = (let q = k.1 in cc) in
      IsOpen-changed (with_less holder) spans id s (on_walk_open m left_ranked k.0 s k.2 (rw same (changed_open (with_less holder) spans id id o)))

  -- and each other span stays as it is without the holder
  pub others_stay : (s : ℕ) → (IsTrue (has (closing_list spans id holder) s) → ⊥) → find (spans_left spans id holder) s ≡ find (without_holder spans id holder) s
  others_stay s unlisted =
      let m = without_holder spans id holder in
      elim (cases_Bool (is_live m s)) [
        | inl t ↦ passing_kept (is_live m) m s t
        | inr t ↦ not_some (find (live_part m) s) (λ o. both _ (kept_passes (is_live m) m s o) t)
            ∙ sym (not_some (find m s) (λ o. unlisted (dead_listed s (IsOpen-changed (with_less holder) spans id s o) t)))
      ]

  -- and the list is the first part of the walk
  pub list_first : closing_list spans id holder ≡ take (length (closing_list spans id holder)) (walk spans id)
  list_first =
      let m = without_holder spans id holder in
      filter_first (λ x. not (is_live m x)) m (dead_parent m left_ranked) (length m) (Some id)
      ∙ ap (take (length (closing_list spans id holder))) (ap (λ n. walk_within n m (Some id)) (length-changed (with_less holder) spans id) ∙ walk_same (with_less holder) (with_less-parent holder) spans id (length spans) (Some id))
