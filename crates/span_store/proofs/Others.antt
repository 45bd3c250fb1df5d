-- What a call leaves of the other spans.
use Rattle.std.proofs.Common.{◌≡◌, ◌≢◌, ℕ, ◌+◌, ◌-◌, Option, Some, None, refl, sym, ap, ◌∙◌}
use Rattle.span_id.specs.declared.fault.Fault.{Fault}
use Rattle.span_slots.specs.Table.{Table, find, next_id}
use Rattle.span_slots.proofs.Entries.{find-with_same, find-with_other, find-without_same, find-without_other, find-with_value_same, find-with_value_other}
use Rattle.span_store.specs.declared.entry.Entry.{Entry}
use Rattle.span_store.specs.StoredSpan.{StoredSpan, added_span, with_handles}
use Rattle.span_store.specs.StoredSpans.{children_there}
use Rattle.span_store.specs.Store.{StoreView}
use Rattle.span_store.specs.Calls.{Add, Keep, Release, Ended, refusal, store_then, store_after}
use Rattle.span_store.specs.inside.Invariant.{IsConsistent}
use Rattle.span_store.proofs.Maps.{there_is}
use Rattle.span_store.proofs.Counts.{children_there-with_entry, children_there-without_entry, children_there-with_value, weight}
use Rattle.span_store.proofs.Plain.{apart-spans, kept-spans}
use Rattle.span_store.proofs.Views.{view_of, after_accepted, after_refused}
use Rattle.span_store.proofs.Steps.{IsStore, Adds, Writes, Takes, adds, keeps, releases, takes}

-- what the code keeps, as contracts see it
pub is_store : (t : Table Entry) (max_count handles : ℕ) → IsConsistent t max_count handles → IsStore (view_of t max_count)
is_store t max_count handles w = record {
  kept = kept-spans t w.kept;
  apart = apart-spans t.entries w.apart;
  forest = w.forest;
}

pub added_other : (s new : StoreView) (parent : Option ℕ) (span : StoredSpan) (id j : ℕ) → Adds s new parent span id → j ≢ id → find new.table.entries j ≡ find s.table.entries j
added_other s new parent span id j a ne = rw a.entries (find-with_other s.table.entries id j span ne)

pub added_same : (s new : StoreView) (parent : Option ℕ) (span : StoredSpan) (id : ℕ) → Adds s new parent span id → find new.table.entries id ≡ Some span
added_same s new parent span id a = rw a.entries (find-with_same s.table.entries id span a.vacant)

pub added_children : (s new : StoreView) (parent : Option ℕ) (span : StoredSpan) (id j : ℕ) → Adds s new parent span id → children_there new.table.entries j ≡ children_there s.table.entries j + weight span.parent j
added_children s new parent span id j a = rw a.entries (children_there-with_entry s.table.entries id j span)

pub written_other : (s new : StoreView) (id j : ℕ) (span changed : StoredSpan) → Writes s new id span changed → j ≢ id → find new.table.entries j ≡ find s.table.entries j
written_other s new id j span changed a ne = rw a.entries (find-with_value_other s.table.entries id j changed ne)

pub written_same : (s new : StoreView) (id : ℕ) (span changed : StoredSpan) → Writes s new id span changed → find new.table.entries id ≡ Some changed
written_same s new id span changed a = rw a.entries (find-with_value_same s.table.entries id changed (there_is (find s.table.entries id) span a.found))

pub written_children : (s new : StoreView) (id j : ℕ) (span changed : StoredSpan) → IsStore s → Writes s new id span changed → children_there new.table.entries j ≡ children_there s.table.entries j
written_children s new id j span changed w a = rw a.entries (children_there-with_value s.table.entries id j span changed w.apart a.found a.parent)

pub taken_other : (s new : StoreView) (id j : ℕ) (span : StoredSpan) → Takes s new id span → j ≢ id → find new.table.entries j ≡ find s.table.entries j
taken_other s new id j span a ne = rw a.entries (find-without_other s.table.entries id j ne)

pub taken_same : (s new : StoreView) (id : ℕ) (span : StoredSpan) → Takes s new id span → find new.table.entries id ≡ None
taken_same s new id span a = rw a.entries (find-without_same s.table.entries id)

pub taken_children : (s new : StoreView) (id j : ℕ) (span : StoredSpan) → IsStore s → Takes s new id span → children_there new.table.entries j + weight span.parent j ≡ children_there s.table.entries j
taken_children s new id j span w a = rw a.entries (children_there-without_entry s.table.entries id j span w.apart a.found)

pub new_found : (s : StoreView) (parent : Option ℕ) (bits word id : ℕ) → IsStore s → refusal s (Add parent bits word) ≡ None → next_id s.table ≡ Some id → find (store_after s (Add parent bits word)).table.entries id ≡ Some (added_span parent bits word)
new_found s parent bits word id w h e =
    let a = adds s parent bits word w h in
    let same : a.0 ≡ id = (let k : Some a.0 ≡ Some id = sym a.1.next ∙ e in cc) in
    rw (after_accepted s (Add parent bits word) h, ← same) (added_same s (store_then s (Add parent bits word)) parent (added_span parent bits word) a.0 a.1)

pub others_found : (s : StoreView) (parent : Option ℕ) (bits word other : ℕ) → IsStore s → next_id s.table ≢ Some other → find (store_after s (Add parent bits word)).table.entries other ≡ find s.table.entries other
others_found s parent bits word other w ne = go (refusal s (Add parent bits word)) refl
  where
    go : (o : Option Fault) → refusal s (Add parent bits word) ≡ o → find (store_after s (Add parent bits word)).table.entries other ≡ find s.table.entries other
    go None h =
        let a = adds s parent bits word w h in
        rw (after_accepted s (Add parent bits word) h) (added_other s (store_then s (Add parent bits word)) parent (added_span parent bits word) a.0 other a.1 (λ q. ne (a.1.next ∙ ap (λ x. Some x) (sym q))))
    go (Some fault) h = rw (after_refused s (Add parent bits word) fault h) refl

pub others_kept : (s : StoreView) (id other : ℕ) → other ≢ id → find (store_after s (Keep id)).table.entries other ≡ find s.table.entries other
others_kept s id other ne = go (refusal s (Keep id)) refl
  where
    go : (o : Option Fault) → refusal s (Keep id) ≡ o → find (store_after s (Keep id)).table.entries other ≡ find s.table.entries other
    go None h =
        let a = keeps s id h in
        rw (after_accepted s (Keep id) h) (written_other s (store_then s (Keep id)) id other a.0 (with_handles (a.0.handles + 1) a.0) a.1 ne)
    go (Some fault) h = rw (after_refused s (Keep id) fault h) refl

pub others_released : (s : StoreView) (id other : ℕ) → other ≢ id → find (store_after s (Release id)).table.entries other ≡ find s.table.entries other
others_released s id other ne = go (refusal s (Release id)) refl
  where
    go : (o : Option Fault) → refusal s (Release id) ≡ o → find (store_after s (Release id)).table.entries other ≡ find s.table.entries other
    go None h =
        let a = releases s id h in
        rw (after_accepted s (Release id) h) (written_other s (store_then s (Release id)) id other a.0 (with_handles (a.0.handles - 1) a.0) a.1 ne)
    go (Some fault) h = rw (after_refused s (Release id) fault h) refl

pub others_ended : (s : StoreView) (id other : ℕ) → other ≢ id → find (store_after s (Ended id)).table.entries other ≡ find s.table.entries other
others_ended s id other ne = go (refusal s (Ended id)) refl
  where
    go : (o : Option Fault) → refusal s (Ended id) ≡ o → find (store_after s (Ended id)).table.entries other ≡ find s.table.entries other
    go None h =
        let a = takes s id h in
        rw (after_accepted s (Ended id) h) (taken_other s (store_then s (Ended id)) id other a.0 a.1 ne)
    go (Some fault) h = rw (after_refused s (Ended id) fault h) refl
