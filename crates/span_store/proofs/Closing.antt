-- What closes a span, and that a closing one stays until its end.
use Rattle.std.proofs.Common.{◌≡◌, ◌≢◌, ℕ, ◌+◌, ◌-◌, ◌<◌, ◌↔◌, ◌⊎◌, false, eqb, ltb, List, [], ◌∷◌, Option, Some, None, refl, sym, ap, subst, ◌∙◌, inl, inr, arith}
use Rattle.std.specs.Option.{option_eq}
use Rattle.std.proofs.lemmas.Bool.{cases_Bool}
use Rattle.std.proofs.lemmas.Bool.Decides.{eqb_tells}
use Rattle.span_id.specs.declared.fault.Fault.{Fault}
use Rattle.span_slots.specs.Table.{find}
use Rattle.span_store.specs.StoredSpan.{StoredSpan, added_span, with_handles}
use Rattle.span_store.specs.StoredSpans.{StoredSpans, children_there, is_closing, IsClosing, parent_if_there}
use Rattle.span_store.specs.Store.{StoreView}
use Rattle.span_store.specs.Calls.{Call, Add, Keep, Release, Ended, refusal, store_then, store_after, told, let_go, if_closing, store_after_all, NeverEnds}
use Rattle.span_store.proofs.Maps.{there_is, not_none, some_same, two_ids}
use Rattle.span_store.proofs.Counts.{weight, no_child, eq_some_true}
use Rattle.span_store.proofs.Views.{after_accepted, after_refused, told_accepted}
use Rattle.span_store.proofs.Steps.{IsStore, IsStore-store_after, Adds, Writes, adds, keeps, releases, takes, closing_parts, closing_from, open_parts}
use Rattle.std.proofs.lemmas.Bool.{le-ltb}
use Rattle.span_id.specs.declared.fault.Fault.TheVariants.{Unknown}
use Rattle.span_store.specs.StoredSpans.{is_still_held}
use Rattle.span_store.specs.Calls.{no_more}
use Rattle.span_store.proofs.Views.{add_refused_above}
use Rattle.span_store.proofs.Others.{added_children, added_other, added_same, taken_children, taken_other, taken_same, written_children, written_other, written_same}

closed_by_write : (s new : StoreView) (id j : ℕ) (span changed : StoredSpan) → IsStore s → Writes s new id span changed → j ≢ id → IsClosing new.table.entries j → IsClosing s.table.entries j
closed_by_write s new id j span changed w a ne h =
    let c = closing_parts new.table.entries j h in
    let k = written_children s new id j span changed w a in
    closing_from s.table.entries j c.0 (sym (written_other s new id j span changed a ne) ∙ c.1) c.2 (omega (arith, k, c.3))

closes_only : (s : StoreView) (call : Call) (j : ℕ) → IsStore s → refusal s call ≡ None → IsClosing (store_then s call).table.entries j → (let_go s call ≡ Some j) ⊎ IsClosing s.table.entries j
closes_only s (Add parent bits word) j w h closing =
    let new = store_then s (Add parent bits word) in
    let span = added_span parent bits word in
    let a = adds s parent bits word w h in
    let c = closing_parts new.table.entries j closing in
    elim (eqb_tells j a.0) [
      | inl q ↦ absurd (
          let same = some_same (find new.table.entries j) c.0 span c.1 (rw q.1 (added_same s new parent span a.0 a.1)) in
          let one : c.0.handles ≡ 1 = ap (λ (n : StoredSpan). n.handles) same in
          omega (arith, one, c.2))
      | inr q ↦ inr (
          let k = added_children s new parent span a.0 j a.1 in
          closing_from s.table.entries j c.0 (sym (added_other s new parent span a.0 j a.1 q.1) ∙ c.1) c.2 (omega (arith, k, c.3)))
    ]
closes_only s (Keep id) j w h closing =
    let new = store_then s (Keep id) in
    let a = keeps s id h in
    let changed = with_handles (a.0.handles + 1) a.0 in
    elim (eqb_tells j id) [
      | inl q ↦ absurd (
          let c = closing_parts new.table.entries j closing in
          let same = some_same (find new.table.entries j) c.0 changed c.1 (rw q.1 (written_same s new id a.0 changed a.1)) in
          let more : c.0.handles ≡ a.0.handles + 1 = ap (λ (n : StoredSpan). n.handles) same in
          omega (arith, more, c.2))
      | inr q ↦ inr (closed_by_write s new id j a.0 changed w a.1 q.1 closing)
    ]
closes_only s (Release id) j w h closing =
    let new = store_then s (Release id) in
    let a = releases s id h in
    let changed = with_handles (a.0.handles - 1) a.0 in
    elim (eqb_tells j id) [
      | inl q ↦ inl (ap (λ x. Some x) (sym q.1))
      | inr q ↦ inr (closed_by_write s new id j a.0 changed w a.1 q.1 closing)
    ]
closes_only s (Ended id) j w h closing =
    let new = store_then s (Ended id) in
    let a = takes s id h in
    let c = closing_parts new.table.entries j closing in
    elim (eqb_tells j id) [
      | inl q ↦ absurd (not_none (find new.table.entries j) c.0 c.1 (rw q.1 (taken_same s new id a.0 a.1)))
      | inr q ↦ elim (cases_Bool (option_eq eqb a.0.parent (Some j))) [
        | inl t ↦ inl (ap parent_if_there a.1.found ∙ eq_some_true a.0.parent j t)
        | inr t ↦ inr (
            let k = taken_children s new id j a.0 w a.1 in
            let none : weight a.0.parent j ≡ 0 = rw t refl in
            closing_from s.table.entries j c.0 (sym (taken_other s new id j a.0 a.1 q.1) ∙ c.1) c.2 (omega (arith, k, none, c.3)))
      ]
    ]

-- what a call lets go of was held
was_held : (s : StoreView) (call : Call) (j : ℕ) → IsStore s → refusal s call ≡ None → let_go s call ≡ Some j → IsClosing s.table.entries j → ⊥
was_held s (Add parent bits word) j w h e closing = cc
was_held s (Keep id) j w h e closing = cc
was_held s (Release id) j w h e closing =
    let a = releases s id h in
    let same : id ≡ j = cc in
    let c = closing_parts s.table.entries j closing in
    let span = some_same (find s.table.entries j) c.0 a.0 c.1 (rw (← same) a.1.found) in
    let held : c.0.handles ≡ a.0.handles = ap (λ (n : StoredSpan). n.handles) span in
    omega (arith, held, c.2, a.2)
was_held s (Ended id) j w h e closing =
    let c = closing_parts s.table.entries j closing in
    no_child s.table.entries j id c.3 e

if_closing_some : (spans : StoredSpans) (o : Option ℕ) (j : ℕ) → if_closing spans o ≡ Some j → (o ≡ Some j) × IsClosing spans j
if_closing_some spans None j h = cc
if_closing_some spans (Some id) j h =
    elim (cases_Bool (is_closing spans id)) [
      | inl t ↦ (let e : Some id ≡ Some j = rw t at h in let same : id ≡ j = cc in (e, subst (IsClosing spans) same t))
      | inr t ↦ (let bad : None ≡ Some j = rw t at h in cc)
    ]

if_closing_is : (spans : StoredSpans) (o : Option ℕ) (j : ℕ) → o ≡ Some j → IsClosing spans j → if_closing spans o ≡ Some j
if_closing_is spans o j e h = rw (e, h) refl

told_refused : (s : StoreView) (call : Call) (fault : Fault) → refusal s call ≡ Some fault → told s call ≡ None
told_refused s call fault h = rw h refl

pub told_exactly : (s : StoreView) (call : Call) (j : ℕ) → IsStore s → (told s call ≡ Some j) ↔ ((IsClosing s.table.entries j → ⊥) × IsClosing (store_after s call).table.entries j)
told_exactly s call j w = go (refusal s call) refl
  where
    go : (o : Option Fault) → refusal s call ≡ o → (told s call ≡ Some j) ↔ ((IsClosing s.table.entries j → ⊥) × IsClosing (store_after s call).table.entries j)
    go None e = (
      λ h. (let p = if_closing_some (store_after s call).table.entries (let_go s call) j (sym (told_accepted s call e) ∙ h) in
          (was_held s call j w e p.0, p.1)),
      λ h. told_accepted s call e ∙ (
          let closing : IsClosing (store_then s call).table.entries j = subst (λ (x : StoreView). IsClosing x.table.entries j) (after_accepted s call e) h.1 in
          elim (closes_only s call j w e closing) [
            | inl lets ↦ if_closing_is (store_after s call).table.entries (let_go s call) j lets h.1
            | inr before ↦ absurd (h.0 before)
          ]),
    )
    go (Some fault) e = (
      λ h. absurd (let bad : None ≡ Some j = sym (told_refused s call fault e) ∙ h in cc),
      λ h. absurd (h.0 (subst (λ (x : StoreView). IsClosing x.table.entries j) (after_refused s call fault e) h.1)),
    )

open_not_closing : (spans : StoredSpans) (id : ℕ) (span : StoredSpan) → find spans id ≡ Some span → 0 < span.handles + children_there spans id → IsClosing spans id → ⊥
open_not_closing spans id span h low closing =
    let c = closing_parts spans id closing in
    let same = some_same (find spans id) c.0 span c.1 h in
    let held : c.0.handles ≡ span.handles = ap (λ (n : StoredSpan). n.handles) same in
    omega (arith, held, c.2, c.3, low)

stays_by_write : (s new : StoreView) (id j : ℕ) (span changed : StoredSpan) → IsStore s → Writes s new id span changed → j ≢ id → IsClosing s.table.entries j → (find new.table.entries j ≡ find s.table.entries j) × IsClosing new.table.entries j
stays_by_write s new id j span changed w a ne closing =
    let c = closing_parts s.table.entries j closing in
    let v = written_other s new id j span changed a ne in
    let k = written_children s new id j span changed w a in
    (v, closing_from new.table.entries j c.0 (v ∙ c.1) c.2 (omega (arith, k, c.3)))

-- no child comes in under a closing span
no_weight : (s new : StoreView) (parent : Option ℕ) (span : StoredSpan) (id j : ℕ) → Adds s new parent span id → span.parent ≡ parent → IsClosing s.table.entries j → weight span.parent j ≡ 0
no_weight s new parent span id j a e closing =
    elim (cases_Bool (option_eq eqb span.parent (Some j))) [
      | inl t ↦ absurd (
          let p : parent ≡ Some j = sym e ∙ eq_some_true span.parent j t in
          let o = open_parts s.table.entries j (a.above j p) in
          open_not_closing s.table.entries j o.0 o.1 o.2 closing)
      | inr t ↦ rw t refl
    ]

stays_done : (s : StoreView) (call : Call) (j : ℕ) → IsStore s → refusal s call ≡ None → call ≢ Ended j → IsClosing s.table.entries j → (find (store_then s call).table.entries j ≡ find s.table.entries j) × IsClosing (store_then s call).table.entries j
stays_done s (Add parent bits word) j w h ne closing =
    let new = store_then s (Add parent bits word) in
    let span = added_span parent bits word in
    let a = adds s parent bits word w h in
    let c = closing_parts s.table.entries j closing in
    let other : j ≢ a.0 = two_ids s.table.entries j a.0 (there_is (find s.table.entries j) c.0 c.1) a.1.vacant in
    let v = added_other s new parent span a.0 j a.1 other in
    let k = added_children s new parent span a.0 j a.1 in
    let none = no_weight s new parent span a.0 j a.1 refl closing in
    (v, closing_from new.table.entries j c.0 (v ∙ c.1) c.2 (omega (arith, k, none, c.3)))
stays_done s (Keep id) j w h ne closing =
    let new = store_then s (Keep id) in
    let a = keeps s id h in
    elim (eqb_tells j id) [
      | inl q ↦ absurd (open_not_closing s.table.entries id a.0 a.1.found a.2 (rw q.1 at closing))
      | inr q ↦ stays_by_write s new id j a.0 (with_handles (a.0.handles + 1) a.0) w a.1 q.1 closing
    ]
stays_done s (Release id) j w h ne closing =
    let new = store_then s (Release id) in
    let a = releases s id h in
    elim (eqb_tells j id) [
      | inl q ↦ absurd (open_not_closing s.table.entries id a.0 a.1.found (omega (arith, a.2)) (rw q.1 at closing))
      | inr q ↦ stays_by_write s new id j a.0 (with_handles (a.0.handles - 1) a.0) w a.1 q.1 closing
    ]
stays_done s (Ended id) j w h ne closing =
    let new = store_then s (Ended id) in
    let a = takes s id h in
    let c = closing_parts s.table.entries j closing in
    let other : j ≢ id = λ q. ne (ap Ended (sym q)) in
    let v = taken_other s new id j a.0 a.1 other in
    let k = taken_children s new id j a.0 w a.1 in
    (v, closing_from new.table.entries j c.0 (v ∙ c.1) c.2 (omega (arith, k, c.3)))

pub stays : (s : StoreView) (call : Call) (j : ℕ) → IsStore s → call ≢ Ended j → IsClosing s.table.entries j → (find (store_after s call).table.entries j ≡ find s.table.entries j) × IsClosing (store_after s call).table.entries j
stays s call j w ne closing = go (refusal s call) refl
  where
    go : (o : Option Fault) → refusal s call ≡ o → (find (store_after s call).table.entries j ≡ find s.table.entries j) × IsClosing (store_after s call).table.entries j
    go None e = rw (after_accepted s call e) (stays_done s call j w e ne closing)
    go (Some fault) e = rw (after_refused s call fault e) (refl, closing)

pub stays_same : (s : StoreView) (calls : List Call) (j : ℕ) → IsStore s → IsClosing s.table.entries j → NeverEnds j calls → find (store_after_all s calls).table.entries j ≡ find s.table.entries j
stays_same s [] j w closing never = refl
stays_same s (call ∷ calls) j w closing never =
    let one = stays s call j w never.0 closing in
    stays_same (store_after s call) calls j (IsStore-store_after s call w) one.1 never.1 ∙ one.0

pub stays_closing : (s : StoreView) (calls : List Call) (j : ℕ) → IsStore s → IsClosing s.table.entries j → NeverEnds j calls → IsClosing (store_after_all s calls).table.entries j
stays_closing s [] j w closing never = closing
stays_closing s (call ∷ calls) j w closing never =
    let one = stays s call j w never.0 closing in
    stays_closing (store_after s call) calls j (IsStore-store_after s call w) one.1 never.1

-- nobody holds a closing span
closing_not_open : (s : StoreView) (j : ℕ) → IsClosing s.table.entries j → no_more s j ≡ Some Unknown
closing_not_open s j closing =
    elim (cases_Bool (is_still_held s.table.entries j)) [
      | inl t ↦ absurd (let o = open_parts s.table.entries j t in open_not_closing s.table.entries j o.0 o.1 o.2 closing)
      | inr t ↦ rw t refl
    ]

pub closing_not_kept : (s : StoreView) (j : ℕ) → IsClosing s.table.entries j → refusal s (Keep j) ≡ Some Unknown
closing_not_kept s j closing = closing_not_open s j closing

pub closing_no_child : (s : StoreView) (j bits word : ℕ) → IsClosing s.table.entries j → refusal s (Add (Some j) bits word) ≡ Some Unknown
closing_no_child s j bits word closing = add_refused_above s (Some j) bits word Unknown (closing_not_open s j closing)

pub closing_not_released : (s : StoreView) (j : ℕ) → IsClosing s.table.entries j → refusal s (Release j) ≡ Some Unknown
closing_not_released s j closing =
    let c = closing_parts s.table.entries j closing in
    let none : ltb 0 c.0.handles ≡ false = le-ltb 0 c.0.handles (omega (arith, c.2)) in
    rw (c.1, none) refl
