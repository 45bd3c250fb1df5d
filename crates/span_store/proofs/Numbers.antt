-- How many spans and handles there are, and what holds them.
use Rattle.std.proofs.Common.{◌≡◌, ◌≢◌, ℕ, ◌+◌, ◌-◌, ◌<◌, ◌≤◌, List, [], ◌∷◌, length, Option, Some, None, refl, ap, inl, inr, arith}
use Rattle.std.proofs.lemmas.Bool.{cases_lt, lt-ltb}
use Rattle.std.proofs.lemmas.Bool.Decides.{eqb_tells}
use Rattle.span_id.specs.declared.fault.Fault.{Fault}
use Rattle.span_slots.specs.Table.{Table, find}
use Rattle.span_store.specs.declared.entry.Entry.{Entry}
use Rattle.span_store.specs.StoredSpan.{StoredSpan, added_span, with_handles}
use Rattle.span_store.specs.StoredSpans.{StoredSpans, children_there, count, handles_if_there, IsClosing, IsStillHeld, parent_there, all_handles}
use Rattle.span_store.specs.Store.{StoreView}
use Rattle.span_store.specs.Calls.{Call, Add, Keep, Release, Ended, refusal, store_then, store_after, store_after_all, handles_then, spans_then}
use Rattle.span_store.specs.inside.Invariant.{spans_of, IsConsistent}
use Rattle.span_slots.proofs.Apart.{length-with_entry, length-without_entry}
use Rattle.span_store.proofs.Maps.{there_is}
use Rattle.span_store.proofs.Counts.{total-with_entry, total-without_entry, total-with_value, some_child, no_child}
use Rattle.span_store.proofs.Forests.{none_has_a_child_each, no_children}
use Rattle.span_store.proofs.Plain.{apart-spans, no_span_at}
use Rattle.span_store.proofs.Views.{after_accepted, after_refused, count_at}
use Rattle.span_store.proofs.Upheld.{length-with_value}
use Rattle.span_store.proofs.Steps.{IsStore, IsStore-store_after, adds, keeps, releases, takes, closing_parts, closing_from, found}
use Rattle.std.proofs.Common.{Bool, cond, ◌&&◌, is_none}
use Rattle.span_store.specs.Calls.{times_accepted, is_add, is_keep, is_release, is_ended}

pub no_child_of_closing : (s : StoreView) (j child : ℕ) → IsClosing s.table.entries j → parent_there s.table.entries child ≢ Some j
no_child_of_closing s j child closing e = let c = closing_parts s.table.entries j closing in no_child s.table.entries j child c.3 e

pub parent_open : (s : StoreView) (id parent : ℕ) → IsStore s → parent_there s.table.entries id ≡ Some parent → IsStillHeld s.table.entries parent
parent_open s id parent w e =
    let f = found s.table.entries parent (w.forest.parents_there id parent e) in
    let some = some_child s.table.entries parent id e in
    open_from s.table.entries parent f.0 f.1.found (omega (arith, some))
  where
    open_from : (spans : StoredSpans) (j : ℕ) (span : StoredSpan) → find spans j ≡ Some span → 0 < span.handles + children_there spans j → IsStillHeld spans j
    open_from spans j span h low =
        let c : 0 < count spans j = (let a = ap handles_if_there h in omega (arith, a, low)) in
        rw h (lt-ltb 0 (span.handles + children_there spans j) (rw h at c))

handles_le_all : (spans : StoredSpans) (id : ℕ) (span : StoredSpan) → find spans id ≡ Some span → span.handles ≤ all_handles spans
handles_le_all [] id span h = cc
handles_le_all (e ∷ es) id span h =
    elim (eqb_tells e.0 id) [
      | inl q ↦ (let k = rw q.0 at h in
          let same : e.1 ≡ span = cc in
          let held = ap (λ (n : StoredSpan). n.handles) same in
          omega (arith, held))
      | inr q ↦ (let r = handles_le_all es id span (rw q.0 at h) in omega arith)
    ]

pub empty : (s : StoreView) → IsStore s → all_handles s.table.entries ≡ 0 → ((id : ℕ) → IsClosing s.table.entries id → ⊥) → s.table.entries ≡ []
empty s w none never = none_has_a_child_each s.table.entries w.apart w.forest (λ id there. (
    let f = found s.table.entries id there in
    let le = handles_le_all s.table.entries id f.0 f.1.found in
    elim (cases_lt 0 (children_there s.table.entries id)) [
      | inl some ↦ some
      | inr zero ↦ absurd (never id (closing_from s.table.entries id f.0 f.1.found (omega (arith, le, none)) (omega (arith, zero))))
    ]))

pub numbers_done : (s : StoreView) (call : Call) → IsStore s → refusal s call ≡ None → (all_handles (store_then s call).table.entries ≡ handles_then (all_handles s.table.entries) call) × (length (store_then s call).table.entries ≡ spans_then (length s.table.entries) call)
numbers_done s (Add parent bits word) w h =
    let a = adds s parent bits word w h in
    (rw a.1.entries (total-with_entry s.table.entries a.0 (added_span parent bits word)), rw a.1.entries (length-with_entry s.table.entries a.0 (added_span parent bits word)))
numbers_done s (Keep id) w h =
    let a = keeps s id h in
    let changed = with_handles (a.0.handles + 1) a.0 in
    let v = total-with_value s.table.entries id a.0 changed w.apart a.1.found in
    (rw a.1.entries (omega (arith, v)), rw a.1.entries (length-with_value s.table.entries id changed))
numbers_done s (Release id) w h =
    let a = releases s id h in
    let changed = with_handles (a.0.handles - 1) a.0 in
    let v = total-with_value s.table.entries id a.0 changed w.apart a.1.found in
    let le = handles_le_all s.table.entries id a.0 a.1.found in
    (rw a.1.entries (omega (arith, v, le, a.2)), rw a.1.entries (length-with_value s.table.entries id changed))
numbers_done s (Ended id) w h =
    let a = takes s id h in
    let v = total-without_entry s.table.entries id a.0 w.apart a.1.found in
    let l = length-without_entry s.table.entries id w.apart (there_is (find s.table.entries id) a.0 a.1.found) in
    (rw a.1.entries (omega (arith, v, a.1.handles)), rw a.1.entries (omega (arith, l)))

pub numbers : (s : StoreView) (call : Call) → IsStore s → refusal s call ≡ None → (all_handles (store_after s call).table.entries ≡ handles_then (all_handles s.table.entries) call) × (length (store_after s call).table.entries ≡ spans_then (length s.table.entries) call)
numbers s call w h = rw (after_accepted s call h) (numbers_done s call w h)

pub bounded : (t : Table Entry) (max_count handles id : ℕ) → IsConsistent t max_count handles → count (spans_of t.entries) id ≤ max_count
bounded t max_count handles id w = go (find t.entries id) refl
  where
    go : (o : Option Entry) → find t.entries id ≡ o → count (spans_of t.entries) id ≤ max_count
    go None e =
        let a = ap handles_if_there (no_span_at t.entries id e) in
        let z = no_children (spans_of t.entries) id (apart-spans t.entries w.apart) w.forest (no_span_at t.entries id e) in
        omega (arith, a, z)
    go (Some entry) e =
        let n = count_at t.entries id entry w.counted e in
        let b = w.bounded id entry e in
        omega (arith, n, b)

-- how many of these calls one call is: 1 where it is one and is accepted, else 0
abbrev one_of : (Call → Bool) → StoreView → Call → ℕ
one_of is_such s call = cond (is_none (refusal s call) && is_such call) 1 0

one_accepted : (s : StoreView) (call : Call) (is_such : Call → Bool) → refusal s call ≡ None → one_of is_such s call ≡ cond (is_such call) 1 0
one_accepted s call is_such h = rw h refl

one_refused : (s : StoreView) (call : Call) (is_such : Call → Bool) (fault : Fault) → refusal s call ≡ Some fault → one_of is_such s call ≡ 0
one_refused s call is_such fault h = rw h refl

counted_done : (s : StoreView) (call : Call) → IsStore s → refusal s call ≡ None → (length (store_then s call).table.entries + cond (is_ended call) 1 0 ≡ length s.table.entries + cond (is_add call) 1 0) × (all_handles (store_then s call).table.entries + cond (is_release call) 1 0 ≡ all_handles s.table.entries + (cond (is_add call) 1 0 + cond (is_keep call) 1 0))
counted_done s (Add parent bits word) w h = let n = numbers_done s (Add parent bits word) w h in (omega (arith, n.1), omega (arith, n.0))
counted_done s (Keep id) w h = let n = numbers_done s (Keep id) w h in (omega (arith, n.1), omega (arith, n.0))
counted_done s (Release id) w h =
    let n = numbers_done s (Release id) w h in
    let a = releases s id h in
    let le = handles_le_all s.table.entries id a.0 a.1.found in
    (omega (arith, n.1), omega (arith, n.0, le, a.2))
counted_done s (Ended id) w h =
    let n = numbers_done s (Ended id) w h in
    let a = takes s id h in
    let l = length-without_entry s.table.entries id w.apart (there_is (find s.table.entries id) a.0 a.1.found) in
    (omega (arith, n.1, l), omega (arith, n.0))

counted_after : (s : StoreView) (call : Call) → IsStore s → (length (store_after s call).table.entries + one_of is_ended s call ≡ length s.table.entries + one_of is_add s call) × (all_handles (store_after s call).table.entries + one_of is_release s call ≡ all_handles s.table.entries + (one_of is_add s call + one_of is_keep s call))
counted_after s call w = go (refusal s call) refl
  where
    go : (o : Option Fault) → refusal s call ≡ o → (length (store_after s call).table.entries + one_of is_ended s call ≡ length s.table.entries + one_of is_add s call) × (all_handles (store_after s call).table.entries + one_of is_release s call ≡ all_handles s.table.entries + (one_of is_add s call + one_of is_keep s call))
    go None e =
        let n = counted_done s call w e in
        rw (after_accepted s call e, one_accepted s call is_ended e, one_accepted s call is_add e, one_accepted s call is_release e, one_accepted s call is_keep e) n
    go (Some fault) e =
        rw (after_refused s call fault e, one_refused s call is_ended fault e, one_refused s call is_add fault e, one_refused s call is_release fault e, one_refused s call is_keep fault e) (refl, omega arith)

pub counted_spans : (s : StoreView) (calls : List Call) → IsStore s → length (store_after_all s calls).table.entries + times_accepted is_ended s calls ≡ length s.table.entries + times_accepted is_add s calls
counted_spans s [] w = refl
counted_spans s (call ∷ calls) w =
    let here = (counted_after s call w).0 in
    let rest = counted_spans (store_after s call) calls (IsStore-store_after s call w) in
    omega (arith, here, rest)

pub counted_handles : (s : StoreView) (calls : List Call) → IsStore s → all_handles (store_after_all s calls).table.entries + times_accepted is_release s calls ≡ all_handles s.table.entries + (times_accepted is_add s calls + times_accepted is_keep s calls)
counted_handles s [] w = omega arith
counted_handles s (call ∷ calls) w =
    let here = (counted_after s call w).1 in
    let rest = counted_handles (store_after s call) calls (IsStore-store_after s call w) in
    omega (arith, here, rest)
