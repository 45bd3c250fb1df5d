-- What keeps a span open.
use Rattle.std.proofs.Common.{◌≡◌, ◌≢◌, ℕ, ◌<◌, Bool, true, ◌&&◌, List, [], ◌∷◌, length, map, filter, Some, None, refl, sym, ap, subst, inl, inr, arith}
use Rattle.std.specs.Prelude.{Contains, ◌↔◌}
use Rattle.std.proofs.lemmas.Bool.Decides.{eqb_tells}
use Rattle.std.proofs.lemmas.Bool.{cases_Bool, eq-eqb, ne_eqb}
use Rattle.span_id.specs.Ids.{has}
use Rattle.span_forest.specs.declared.holding.Held.{Held}
use Rattle.span_forest.specs.Node.{Node}
use Rattle.span_slots.specs.Table.{find, AreApart}
use Rattle.span_forest.specs.Spans.{Spans, IsOpen}
use Rattle.span_forest.specs.Walk.{walk}
use Rattle.span_forest.specs.Count.{holders, is_held, total_held}
use Rattle.span_forest.specs.Forest.{IsForest}
use Rattle.span_forest.specs.Holding.{held_of, held_spans, what_holds}
use Rattle.span_forest.proofs.Finds.{find_apart, open_from_node}
use Rattle.span_forest.proofs.Ranks.{ranked}
use Rattle.span_forest.proofs.Contained.{contains_first, contains_later, contains_none, contains_cons, not_empty, some_contained}
use Rattle.span_forest.proofs.Walks.{OnWalk, and_true, true_and, not_held, OnWalk-from_stands, stands-from_OnWalk, Live-from_is_live, all_live}
use Rattle.span_forest.proofs.Spared.{on_walk_open, held_node}
use Rattle.span_forest.proofs.Upheld.{IsUpheld, held_more, empty_from_no_holder}

kept_contains : (f : ℕ → Node → Bool) (spans : Spans) (id : ℕ) (node : Node) → find spans id ≡ Some node → f id node ≡ true → Contains (map held_of (filter (λ e. f e.0 e.1) spans)) (held_of (id, node))
kept_contains f [] id node h t = cc
kept_contains f (e ∷ es) id node h t =
    elim (eqb_tells e.0 id) [
      | inl q ↦ (let k = rw q.0 at h in
          let same : e.1 ≡ node = cc in
          let u : f e.0 e.1 ≡ true = rw (q.1, same) t in
          let is : held_of e ≡ held_of (id, node) = rw (q.1, same) refl in
          rw u (subst (λ x. Contains (held_of e ∷ map held_of (filter (λ e. f e.0 e.1) es)) x) is (contains_first (held_of e) (map held_of (filter (λ e. f e.0 e.1) es)))))
      | inr q ↦ (let r = kept_contains f es id node (rw q.0 at h) t in
          elim (cases_Bool (f e.0 e.1)) [
            | inl u ↦ rw u (contains_later (held_of (id, node)) (held_of e) (map held_of (filter (λ e. f e.0 e.1) es)) r)
            | inr u ↦ rw u r
          ])
    ]

-- a list tells of a span that is there and passes the test
pub record Kept (f : ℕ → Node → Bool) (spans : Spans) (held : Held) : Type 0 where
  pub node : Node
  pub found : find spans held.id ≡ Some node
  pub is : held ≡ held_of (held.id, node)
  pub passes : f held.id node ≡ true

kept_later : (f : ℕ → Node → Bool) (e : ℕ × Node) (es : Spans) (held : Held) → find es e.0 ≡ None → Kept f es held → Kept f (e ∷ es) held
kept_later f e es held none k =
    let ne = find_apart es e.0 held.id k.node none k.found in
    record { node = k.node; found = rw (ne_eqb e.0 held.id ne) k.found; is = k.is; passes = k.passes }

kept_first : (f : ℕ → Node → Bool) (e : ℕ × Node) (es : Spans) (held : Held) → held_of e ≡ held → f e.0 e.1 ≡ true → Kept f (e ∷ es) held
kept_first f e es held q u = subst (Kept f (e ∷ es)) q (record { node = e.1; found = rw (eq-eqb e.0 e.0 refl) refl; is = refl; passes = u })

contains_kept : (f : ℕ → Node → Bool) (spans : Spans) (held : Held) → AreApart spans → Contains (map held_of (filter (λ e. f e.0 e.1) spans)) held → Kept f spans held
contains_kept f [] held a c = absurd (contains_none held c)
contains_kept f (e ∷ es) held a c =
    elim (cases_Bool (f e.0 e.1)) [
      | inl u ↦ elim (contains_cons held (held_of e) (map held_of (filter (λ e. f e.0 e.1) es)) (rw u at c)) [
        | inl q ↦ kept_first f e es held q u
        | inr r ↦ kept_later f e es held a.0 (contains_kept f es held a.1 r)
      ]
      | inr u ↦ kept_later f e es held a.0 (contains_kept f es held a.1 (rw u at c))
    ]

-- the span has a holder, and the id stands on its walk
abbrev pub holding : Spans → ℕ → ℕ → Node → Bool
holding spans id x node = is_held node && has (walk spans x) id

-- the spans that have a holder, and on whose walk the id stands
abbrev pub held_below : Spans → ℕ → List Held
held_below spans id = map held_of (filter (λ e. holding spans id e.0 e.1) spans)

held_passing : (test : ℕ → Bool) (spans : Spans) → map held_of (filter (λ e. is_held e.1 && test e.0) spans) ≡ filter (λ (held : Held). test held.id) (held_spans spans)
held_passing test [] = refl
held_passing test (e ∷ es) =
    let r = held_passing test es in
    elim (cases_Bool (is_held e.1)) [
      | inl t ↦ elim (cases_Bool (test e.0)) [
        | inl u ↦ rw (t, u) (ap (λ v. held_of e ∷ v) r)
        | inr u ↦ rw (t, u) r
      ]
      | inr t ↦ rw t r
    ]

-- what keeps a span open, as one test of each span
pub holds_below : (spans : Spans) (id : ℕ) → what_holds spans id ≡ held_below spans id
holds_below spans id = sym (held_passing (λ x. has (walk spans x) id) spans)

nothing_held : (spans : Spans) → held_spans spans ≡ [] → total_held spans ≡ 0
nothing_held [] h = refl
nothing_held (e ∷ es) h =
    elim (cases_Bool (is_held e.1)) [
      | inl t ↦ (let h2 = rw t at h in cc)
      | inr t ↦ (let r = nothing_held es (rw t at h) in let z = not_held e.1 t in omega (arith, r, z))
    ]

pub held_empty : (spans : Spans) → IsUpheld spans → (held_spans spans ≡ []) ↔ (spans ≡ [])
held_empty spans w = (λ none. empty_from_no_holder spans w (nothing_held spans none), λ e. rw e refl)

pub holder_kept : (spans : Spans) (id : ℕ) (held : Held) → AreApart spans → Contains (what_holds spans id) held → Kept (holding spans id) spans held
holder_kept spans id held a c =
    contains_kept (holding spans id) spans held a (subst (λ v. Contains v held) (holds_below spans id) c)

-- where a span with a holder has the id on its walk, something keeps the id open
pub kept_by : (spans : Spans) (id holder : ℕ) (node : Node) → IsForest spans → find spans holder ≡ Some node → 0 < holders node → OnWalk spans holder id → Contains (what_holds spans id) (held_of (holder, node))
kept_by spans id holder node w found some on_walk =
    subst (λ v. Contains v (held_of (holder, node))) (sym (holds_below spans id))
    (kept_contains (holding spans id) spans holder node found
    (and_true (is_held node) (has (walk spans holder) id) (held_node node some)
    (stands-from_OnWalk spans holder id on_walk (length spans) (w.walks_end holder (open_from_node spans holder node found)))))

-- the id stands on the walk of what keeps it open
pub holder_above : (spans : Spans) (id : ℕ) (held : Held) → Kept (holding spans id) spans held → OnWalk spans held.id id
holder_above spans id held k =
    let stands : has (walk spans held.id) id ≡ true = (true_and (is_held k.node) (has (walk spans held.id) id) k.passes).1 in
    let on = OnWalk-from_stands spans id (length spans) (Some held.id) stands in
    let same : held.id ≡ on.0 = (let q = on.1 in cc) in
    rw same on.2

open_by : (spans : Spans) (id : ℕ) (held : Held) → IsForest spans → Kept (holding spans id) spans held → IsOpen spans id
open_by spans id held w k =
    on_walk_open spans (ranked spans w) held.id id (holder_above spans id held k) (open_from_node spans held.id k.node k.found)

pub kept_open : (spans : Spans) (id : ℕ) → IsUpheld spans → IsOpen spans id ↔ (what_holds spans id ≢ [])
kept_open spans id w = (
  λ o. (let r = ranked spans w.forest in
      let v = Live-from_is_live spans id r (all_live spans r w.positive id o) in
      not_empty (what_holds spans id) (held_of (v.holder, v.node)) (kept_by spans id v.holder v.node w.forest v.found (held_more v.node v.held) v.on_walk)),
  λ ne. (let c = some_contained (what_holds spans id) ne in
      open_by spans id c.0 w.forest (holder_kept spans id c.0 w.forest.ids_apart c.1)),
)
