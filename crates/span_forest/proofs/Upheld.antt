-- A forest in which a holder or a child holds each span stays one in each change.
use Rattle.std.proofs.Common.{◌≡◌, ℕ, ◌<◌, ◌≤◌, Bool, true, not, [], ◌∷◌, length, filter, Option, Some, None, refl, sym, ap, subst, ◌∙◌, inl, inr, arith}
use Rattle.std.specs.Prelude.{◌⊎◌, IsSome}
use Rattle.std.specs.Option.{option_map}
use Rattle.std.proofs.lemmas.Bool.Decides.{nat_tests, eqb_tells}
use Rattle.std.proofs.lemmas.Bool.{cases_Bool, cases_lt, eq-eqb}
use Rattle.span_id.specs.Ids.{has}
use Rattle.span_forest.specs.declared.span.Holder.{Holder}
use Rattle.span_forest.specs.Node.{Node}
use Rattle.span_slots.specs.Table.{find, with_entry, AreApart}
use Rattle.span_forest.specs.Spans.{Spans, IsOpen, parent_in, parent_of, with_change}
use Rattle.span_forest.specs.Walk.{walk}
use Rattle.span_forest.specs.Count.{holders, holders_in, is_held, children, reference_count, total_held}
use Rattle.span_forest.specs.Forest.{IsForest}
use Rattle.span_forest.specs.Live.{is_live, live_part}
use Rattle.span_forest.specs.Holders.{with_less}
use Rattle.span_forest.specs.Release.{without_holder, closing_list, spans_left}
use Rattle.span_forest.proofs.Ranks.{IsRanked, ranked}
use Rattle.span_forest.proofs.Walks.{OnWalk, forest_from, OnWalk-from_stands, Live-from_is_live, is_live-from_Live, all_live, here, above}
use Rattle.span_forest.proofs.Finds.{no_child, child_open}
use Rattle.span_forest.proofs.Nodes.{with_less-parent, find-changed_same, find-changed_other, parent_of-changed, IsForest-changed, IsOpen-changed, children-changed}
use Rattle.span_slots.proofs.Entries.{find-with_same, find-with_other}
use Rattle.span_forest.proofs.Adds.{children-with, IsRanked-with, open_back}
use Rattle.span_forest.proofs.Spared.{kept_passes, passing_kept, parent_live, none_open, stands_unfiltered}

-- a forest in which something holds each open span
pub record IsUpheld (spans : Spans) : Type 0 where
  pub forest : IsForest spans
  pub positive : (id : ℕ) → IsOpen spans id → 0 < reference_count spans id

some_none : (p : ℕ) → None ≡ Some p → ⊥
some_none p h = cc

pub upheld_empty : IsUpheld []
upheld_empty = record {
  forest = forest_from [] (record {
    apart = tt;
    parents_open = λ c p e. cc;
    rank = λ j. 0;
    top = 0;
    falls = λ c p e. absurd (some_none p e);
    bounded = λ c o. absurd (none_open None refl o);
  });
  positive = λ j o. absurd (none_open None refl o);
}

-- a new span that has a holder
pub upheld_with : (spans : Spans) (id : ℕ) (node : Node) → IsUpheld spans → find spans id ≡ None → ((p : ℕ) → node.parent ≡ Some p → IsOpen spans p) → 0 < holders node → IsUpheld (with_entry spans id node)
upheld_with spans id node w absent parent held = record {
  forest = forest_from (with_entry spans id node) (IsRanked-with spans id node (ranked spans w.forest) absent parent);
  positive = λ j o. elim (eqb_tells j id) [
    | inl t ↦ rw t.1 (let here = ap holders_in (find-with_same spans id node absent) in omega (arith, here, held))
    | inr t ↦ (let before = w.positive j (open_back spans id j node t.1 o) in
        let same = ap holders_in (find-with_other spans id j node t.1) in
        let more = children-with spans id j node in
        omega (arith, before, same, more))
  ];
}

holders_map : (f : Node → Node) → ((node : Node) → holders node ≤ holders (f node)) → (o : Option Node) → holders_in o ≤ holders_in (option_map f o)
holders_map f more None = omega arith
holders_map f more (Some node) = more node

-- a change that takes no holder and leaves the parent
pub upheld_changed : (f : Node → Node) → ((node : Node) → (f node).parent ≡ node.parent) → ((node : Node) → holders node ≤ holders (f node)) → (spans : Spans) (id : ℕ) → IsUpheld spans → IsUpheld (with_change f spans id)
upheld_changed f same more spans id w = record {
  forest = IsForest-changed f same spans id w.forest;
  positive = λ j o.
      (let before = w.positive j (IsOpen-changed f spans id j o) in
      let kids = children-changed f same spans id j in
      elim (eqb_tells j id) [
        | inl t ↦ (let grown = holders_map f more (find spans id) in
            let here = ap holders_in (find-changed_same f spans id) in
            let before' = rw t.1 at before in
            let kids' = rw t.1 at kids in
            rw t.1 (omega (arith, before', kids', grown, here)))
        | inr t ↦ (let there = ap holders_in (find-changed_other f spans id j t.1) in omega (arith, before, kids, there))
      ]);
}

-- ---- the spans that are live

find_none_filter : (f : ℕ → Bool) (spans : Spans) (id : ℕ) → find spans id ≡ None → find (filter (λ e. f e.0) spans) id ≡ None
find_none_filter f [] id h = refl
find_none_filter f (e ∷ es) id h =
    elim (eqb_tells e.0 id) [
      | inl t ↦ (let h2 = rw t.0 at h in cc)
      | inr t ↦ (let r = find_none_filter f es id (rw t.0 at h) in elim (cases_Bool (f e.0)) [ inl u ↦ rw (u, t.0) r | inr u ↦ rw u r ])
    ]

AreApart-filter : (f : ℕ → Bool) (spans : Spans) → AreApart spans → AreApart (filter (λ e. f e.0) spans)
AreApart-filter f [] a = tt
AreApart-filter f (e ∷ es) a =
    let r = AreApart-filter f es a.1 in
    elim (cases_Bool (f e.0)) [ inl u ↦ rw u (find_none_filter f es e.0 a.0, r) | inr u ↦ rw u r ]

-- a span on a walk is the walk's first, or has a child there
child_on_walk : (spans : Spans) (u s : ℕ) → OnWalk spans u s → (u ≡ s) ⊎ ((c : ℕ) × OnWalk spans u c × (parent_of spans c ≡ Some s))
child_on_walk spans u s here = inl refl
child_on_walk spans u s (above p e r) =
    elim (child_on_walk spans p s r) [
      | inl q ↦ inr (u, here, e ∙ ap (λ v. Some v) q)
      | inr k ↦ inr (k.0, above p e k.1, k.2)
    ]

pub held_more : (node : Node) → is_held node ≡ true → 0 < holders node
held_more node h = grind (arith, nat_tests)

module _ (spans : Spans) (w : IsRanked spans) where
  pub live_parent : (c p : ℕ) → parent_of (live_part spans) c ≡ Some p → (is_live spans c ≡ true) × (parent_of spans c ≡ Some p)
  live_parent c p e =
      let live = kept_passes (is_live spans) spans c (child_open (live_part spans) c p e) in
      (live, sym (ap parent_in (passing_kept (is_live spans) spans c live)) ∙ e)

  ranked_live : IsRanked (live_part spans)
  ranked_live = record {
    apart = AreApart-filter (is_live spans) spans w.apart;
    parents_open = λ c p e.
        (let b = live_parent c p e in
        subst IsSome (sym (passing_kept (is_live spans) spans p (parent_live spans c p w b.1 b.0))) (w.parents_open c p b.1));
    rank = w.rank;
    top = w.top;
    falls = λ c p e. w.falls c p (live_parent c p e).1;
    bounded = λ c o. w.bounded c (subst IsSome (passing_kept (is_live spans) spans c (kept_passes (is_live spans) spans c o)) o);
  }

  has_child : (c s : ℕ) → is_live spans c ≡ true → parent_of spans c ≡ Some s → 0 < children (live_part spans) s
  has_child c s live e =
      elim (cases_lt 0 (children (live_part spans) s)) [
        | inl t ↦ t
        | inr t ↦ absurd (no_child (live_part spans) s c (omega arith) (ap parent_in (passing_kept (is_live spans) spans c live) ∙ e))
      ]

  pub upheld_live : IsUpheld (live_part spans)
  upheld_live = record {
    forest = forest_from (live_part spans) ranked_live;
    positive = λ s o.
        (let live = kept_passes (is_live spans) spans s o in
        let v = Live-from_is_live spans s w live in
        elim (child_on_walk spans v.holder s v.on_walk) [
          | inl q ↦ (let found : find (live_part spans) s ≡ Some v.node = passing_kept (is_live spans) spans s live ∙ ap (find spans) (sym q) ∙ v.found in
              let is = ap holders_in found in
              let held = held_more v.node v.held in
              omega (arith, is, held))
          | inr k ↦ (let child_live = is_live-from_Live spans k.0 w (record { holder = v.holder; node = v.node; found = v.found; held = v.held; on_walk = k.1 }) in
              let more = has_child k.0 s child_live k.2 in
              omega (arith, more))
        ]);
  }

-- what a release leaves
pub upheld_released : (spans : Spans) (id : ℕ) (holder : Holder) → IsForest spans → IsUpheld (spans_left spans id holder)
upheld_released spans id holder forest =
    let m = without_holder spans id holder in
    upheld_live m (ranked m (IsForest-changed (with_less holder) (with_less-parent holder) spans id forest))

-- a span of a closing list is the one that gives the holder back, or is open
pub listed_known : (spans : Spans) (id : ℕ) (holder : Holder) → IsForest spans → (s : ℕ) → has (closing_list spans id holder) s ≡ true → (id ≡ s) ⊎ IsOpen spans s
listed_known spans id holder forest s t =
    let m = without_holder spans id holder in
    let k = OnWalk-from_stands m s (length m) (Some id) (stands_unfiltered (λ x. not (is_live m x)) s (walk m id) t) in
    let same : k.0 ≡ id = (let q = k.1 in cc) in
    elim (child_on_walk m k.0 s k.2) [
      | inl q ↦ inl (sym same ∙ q)
      | inr c ↦ inr (forest.parents_open c.0 s (sym (parent_of-changed (with_less holder) (with_less-parent holder) spans id c.0) ∙ c.2))
    ]

-- ---- where nothing is held

-- a forest in which no span has a holder is empty
pub empty_from_none_held : (spans : Spans) → IsUpheld spans → ((id : ℕ) (node : Node) → find spans id ≡ Some node → holders node ≡ 0) → spans ≡ []
empty_from_none_held [] w none = refl
empty_from_none_held (e ∷ es) w none =
    let spans = e ∷ es in
    let r = ranked spans w.forest in
    let there : IsOpen spans e.0 = rw (eq-eqb e.0 e.0 refl) refl in
    let v = Live-from_is_live spans e.0 r (all_live spans r w.positive e.0 there) in
    let is = none v.holder v.node v.found in
    let held = held_more v.node v.held in
    absurd (omega (arith, is, held))

total_has : (spans : Spans) (id : ℕ) (node : Node) → find spans id ≡ Some node → holders node ≤ total_held spans
total_has [] id node h = cc
total_has (e ∷ es) id node h =
    elim (eqb_tells e.0 id) [
      | inl t ↦ (let h2 = rw t.0 at h in let same : e.1 ≡ node = cc in let n = ap holders same in omega (arith, n))
      | inr t ↦ (let r = total_has es id node (rw t.0 at h) in omega (arith, r))
    ]

pub empty_from_no_holder : (spans : Spans) → IsUpheld spans → total_held spans ≡ 0 → spans ≡ []
empty_from_no_holder spans w none =
    empty_from_none_held spans w (λ id node found. (let some = total_has spans id node found in omega (arith, some, none)))
