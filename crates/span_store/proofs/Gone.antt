-- Ids that ended, and how often a span is told.
use Rattle.std.proofs.Common.{◌≡◌, ◌≢◌, ℕ, ◌+◌, ◌-◌, ◌≤◌, ◌⊎◌, false, eqb, List, [], ◌∷◌, Option, Some, None, IfSome, refl, sym, ap, subst, ◌∙◌, inl, inr, arith}
use Rattle.std.specs.Option.{option_eq}
use Rattle.std.proofs.lemmas.Bool.{cases_Bool, false≢true}
use Rattle.std.proofs.lemmas.Bool.Decides.{eqb_tells}
use Rattle.span_id.specs.declared.fault.Fault.{Fault}
use Rattle.span_slots.specs.Table.{Table, find, next_id, IsIssued}
use Rattle.span_slots.specs.Change.{Insert, Remove, Write}
use Rattle.span_slots.proofs.Issued.{issued_since, issued_for_good, absent_for_good}
use Rattle.span_slots.proofs.Promises.{never_issued}
use Rattle.span_store.specs.StoredSpan.{StoredSpan, added_span, with_handles}
use Rattle.span_store.specs.StoredSpans.{IsThere, IsClosing}
use Rattle.span_store.specs.Store.{StoreView}
use Rattle.span_store.specs.Calls.{Call, Add, Keep, Release, Ended, refusal, store_then, store_after, told, store_after_all, times_told, handles_set}
use Rattle.span_store.proofs.Maps.{there_is, not_none}
use Rattle.span_store.proofs.Counts.{weight, weight_same, eq_some_true, eq_some_same}
use Rattle.span_store.proofs.Views.{after_accepted, after_refused}
use Rattle.span_store.proofs.Steps.{IsStore, IsStore-store_after, takes, closing_parts}
use Rattle.span_store.proofs.Others.{taken_same}
use Rattle.span_store.proofs.Closing.{stays, told_exactly}

-- what an id was, where it was issued and isn't there
gone_done : (s : StoreView) (call : Call) (j : ℕ) → IsStore s → IsIssued s.table j → find s.table.entries j ≡ None → IsIssued (store_then s call).table j × (find (store_then s call).table.entries j ≡ None)
gone_done s (Add parent bits word) j w i none =
    let change = Insert (added_span parent bits word) ∷ [] in
    (issued_for_good s.table change j w.kept i, absent_for_good s.table change j w.kept i none)
gone_done s (Keep id) j w i none = go (find s.table.entries id)
  where
    go : (o : Option StoredSpan) → IsIssued (handles_set s id (λ handles. handles + 1) o).table j × (find (handles_set s id (λ handles. handles + 1) o).table.entries j ≡ None)
    go None = (i, none)
    go (Some span) =
        let change = Write id (with_handles (span.handles + 1) span) ∷ [] in
        (issued_for_good s.table change j w.kept i, absent_for_good s.table change j w.kept i none)
gone_done s (Release id) j w i none = go (find s.table.entries id)
  where
    go : (o : Option StoredSpan) → IsIssued (handles_set s id (λ handles. handles - 1) o).table j × (find (handles_set s id (λ handles. handles - 1) o).table.entries j ≡ None)
    go None = (i, none)
    go (Some span) =
        let change = Write id (with_handles (span.handles - 1) span) ∷ [] in
        (issued_for_good s.table change j w.kept i, absent_for_good s.table change j w.kept i none)
gone_done s (Ended id) j w i none =
    let change = Remove id ∷ [] in
    (issued_for_good s.table change j w.kept i, absent_for_good s.table change j w.kept i none)

gone_after : (s : StoreView) (call : Call) (j : ℕ) → IsStore s → IsIssued s.table j → find s.table.entries j ≡ None → IsIssued (store_after s call).table j × (find (store_after s call).table.entries j ≡ None)
gone_after s call j w i none = go (refusal s call) refl
  where
    go : (o : Option Fault) → refusal s call ≡ o → IsIssued (store_after s call).table j × (find (store_after s call).table.entries j ≡ None)
    go None e = rw (after_accepted s call e) (gone_done s call j w i none)
    go (Some fault) e = rw (after_refused s call fault e) (i, none)

pub gone_for_good : (s : StoreView) (calls : List Call) (j : ℕ) → IsStore s → IsIssued s.table j → find s.table.entries j ≡ None → IsStore (store_after_all s calls) × (IsIssued (store_after_all s calls).table j × (find (store_after_all s calls).table.entries j ≡ None))
gone_for_good s [] j w i none = (w, (i, none))
gone_for_good s (call ∷ calls) j w i none =
    let one = gone_after s call j w i none in
    gone_for_good (store_after s call) calls j (IsStore-store_after s call w) one.0 one.1

-- an id that is gone is never told
not_told : (s : StoreView) (call : Call) (j : ℕ) → (told s call ≡ Some j → ⊥) → weight (told s call) j ≡ 0
not_told s call j never =
    elim (cases_Bool (option_eq eqb (told s call) (Some j))) [
      | inl t ↦ absurd (never (eq_some_true (told s call) j t))
      | inr t ↦ rw t refl
    ]

pub gone_never_told : (s : StoreView) (calls : List Call) (j : ℕ) → IsStore s → IsIssued s.table j → find s.table.entries j ≡ None → times_told j s calls ≡ 0
gone_never_told s [] j w i none = refl
gone_never_told s (call ∷ calls) j w i none =
    let one = gone_after s call j w i none in
    let never : told s call ≡ Some j → ⊥ = λ h. (
    let closing = ((told_exactly s call j w).0 h).1 in
    let c = closing_parts (store_after s call).table.entries j closing in
    not_none (find (store_after s call).table.entries j) c.0 c.1 one.1) in
    let here = not_told s call j never in
    let rest = gone_never_told (store_after s call) calls j (IsStore-store_after s call w) one.0 one.1 in
    omega (arith, here, rest)

-- an id that is there was issued
pub issued_there : (s : StoreView) (j : ℕ) → IsStore s → IsThere s.table.entries j → IsIssued s.table j
issued_there s j w h = issued_since s.table.given s.table.entries j w.kept.issued h

ended_is_accepted : (s : StoreView) (j : ℕ) → IsClosing s.table.entries j → refusal s (Ended j) ≡ None
ended_is_accepted s j closing = rw closing refl

pub ended_gone : (s : StoreView) (j : ℕ) → IsStore s → IsClosing s.table.entries j → IsIssued (store_after s (Ended j)).table j × (find (store_after s (Ended j)).table.entries j ≡ None)
ended_gone s j w closing =
    let e = ended_is_accepted s j closing in
    let c = closing_parts s.table.entries j closing in
    let i = issued_there s j w (there_is (find s.table.entries j) c.0 c.1) in
    let a = takes s j e in
    rw (after_accepted s (Ended j) e) (issued_for_good s.table (Remove j ∷ []) j w.kept i, taken_same s (store_then s (Ended j)) j a.0 a.1)

-- a call ends the span, or it doesn't
ends_it : (call : Call) (j : ℕ) → (call ≡ Ended j) ⊎ (call ≢ Ended j)
ends_it (Add parent bits word) j = inr (λ q. cc)
ends_it (Keep id) j = inr (λ q. cc)
ends_it (Release id) j = inr (λ q. cc)
ends_it (Ended id) j =
    elim (eqb_tells id j) [
      | inl t ↦ inl (ap Ended t.1)
      | inr t ↦ inr (λ q. t.1 (let same : id ≡ j = cc in same))
    ]

-- a closing span isn't told again, ended or not
pub told_no_more : (s : StoreView) (calls : List Call) (j : ℕ) → IsStore s → IsClosing s.table.entries j → times_told j s calls ≡ 0
told_no_more s [] j w closing = refl
told_no_more s (call ∷ calls) j w closing =
    let next = IsStore-store_after s call w in
    let here = not_told s call j (λ h. ((told_exactly s call j w).0 h).0 closing) in
    let rest : times_told j (store_after s call) calls ≡ 0 = elim (ends_it call j) [
      | inl e ↦ (
          let g = ended_gone s j w closing in
          let i : IsIssued (store_after s call).table j = subst (λ (x : Call). IsIssued (store_after s x).table j) (sym e) g.0 in
          let none : find (store_after s call).table.entries j ≡ None = subst (λ (x : Call). find (store_after s x).table.entries j ≡ None) (sym e) g.1 in
          gone_never_told (store_after s call) calls j next i none)
      | inr ne ↦ told_no_more (store_after s call) calls j next (stays s call j w ne closing).1
    ] in
    omega (arith, here, rest)

pub told_at_most_once : (s : StoreView) (calls : List Call) (j : ℕ) → IsStore s → times_told j s calls ≤ 1
told_at_most_once s [] j w = omega arith
told_at_most_once s (call ∷ calls) j w =
    let next = IsStore-store_after s call w in
    elim (cases_Bool (option_eq eqb (told s call) (Some j))) [
      | inl t ↦ (
          let closing = ((told_exactly s call j w).0 (eq_some_true (told s call) j t)).1 in
          let rest = told_no_more (store_after s call) calls j next closing in
          let here = weight_same (told s call) j j (eq_some_true (told s call) j t) refl in
          omega (arith, here, rest))
      | inr t ↦ (
          let here : weight (told s call) j ≡ 0 = rw t refl in
          let rest = told_at_most_once (store_after s call) calls j next in
          omega (arith, here, rest))
    ]

-- a span that becomes closing by some calls is told by one of them
pub told_once : (s : StoreView) (calls : List Call) (j : ℕ) → IsStore s → (IsClosing s.table.entries j → ⊥) → IsClosing (store_after_all s calls).table.entries j → times_told j s calls ≡ 1
told_once s [] j w before closing = absurd (before closing)
told_once s (call ∷ calls) j w before closing =
    let next = IsStore-store_after s call w in
    elim (cases_Bool (option_eq eqb (told s call) (Some j))) [
      | inl t ↦ (
          let now = ((told_exactly s call j w).0 (eq_some_true (told s call) j t)).1 in
          let rest = told_no_more (store_after s call) calls j next now in
          let here = weight_same (told s call) j j (eq_some_true (told s call) j t) refl in
          omega (arith, here, rest))
      | inr t ↦ (
          let here : weight (told s call) j ≡ 0 = rw t refl in
          let still : IsClosing (store_after s call).table.entries j → ⊥ = λ now. not_told_so (told s call) j t ((told_exactly s call j w).1 (before, now)) in
          let rest = told_once (store_after s call) calls j next still closing in
          omega (arith, here, rest))
    ]
  where
    not_told_so : (o : Option ℕ) (k : ℕ) → option_eq eqb o (Some k) ≡ false → o ≡ Some k → ⊥
    not_told_so o k t e = false≢true (sym t ∙ eq_some_same o k e)

next_is_new : (o : Option ℕ) (t : Table StoredSpan) (j : ℕ) → IfSome o (λ id. IsIssued t id → ⊥) → IsIssued t j → o ≢ Some j
next_is_new None t j h i e = cc
next_is_new (Some id) t j h i e = let same : id ≡ j = cc in h (rw same i)

pub never_given : (s : StoreView) (j : ℕ) → IsStore s → IsIssued s.table j → next_id s.table ≢ Some j
never_given s j w i = next_is_new (next_id s.table) s.table j (never_issued s.table w.kept) i
