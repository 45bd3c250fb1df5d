-- What an accepted call does to the spans, and what is true of every store after it.
use Rattle.std.proofs.Common.{◌≡◌, ℕ, ◌+◌, ◌-◌, ◌<◌, Bool, true, false, eqb, ltb, ◌&&◌, Option, Some, None, IsSome, is_some, refl, sym, ap, subst, ◌∙◌, inl, inr, arith}
use Rattle.std.proofs.lemmas.Bool.{cases_Bool, eqb-true, false≢true}
use borrow.Author.Tests.{ltb-true}
use Rattle.span_id.specs.declared.fault.Fault.{Fault}
use Rattle.span_id.specs.declared.fault.Fault.TheVariants.{Unknown, CountFull, Full}
use Rattle.span_slots.specs.Table.{Table, find, with_entry, without_entry, with_value, next_id, next_slot, id_at, table_removed, AreApart}
use Rattle.span_slots.specs.Change.{Insert, Remove, Write, after}
use Rattle.span_slots.proofs.Issued.{IsKept, IsKept-after}
use Rattle.span_slots.proofs.Promises.{next_absent}
use Rattle.span_store.specs.StoredSpan.{StoredSpan, added_span, with_handles}
use Rattle.span_store.specs.StoredSpans.{StoredSpans, children_there, count, handles_if_there, handles_of, is_still_held, is_closing, IsClosing, IsStillHeld}
use Rattle.span_store.specs.Store.{StoreView}
use Rattle.span_store.specs.Calls.{Call, Add, Keep, Release, Ended, refusal, no_more, no_child, store_then, store_after, handles_set}
use Rattle.span_store.specs.inside.Invariant.{IsForest}
use Rattle.span_slots.proofs.Apart.{AreApart-with_entry, AreApart-without_entry, AreApart-with_value}
use Rattle.span_store.proofs.Maps.{is_there, there_is}
use Rattle.span_store.proofs.Forests.{forest-with_entry, forest-without_entry, forest-with_value}
use Rattle.span_store.proofs.Views.{after_accepted, after_refused}

-- what is true of the spans of every store
pub record IsStore (s : StoreView) : Type 0 where
  pub kept : IsKept s.table
  pub apart : AreApart s.table.entries
  pub forest : IsForest s.table.entries

both : (a b : Bool) → (a && b) ≡ true → (a ≡ true) × (b ≡ true)
both true b h = (refl, h)
both false b h = absurd (false≢true h)

-- an open span and a closing one, taken apart
pub record IsFound (spans : StoredSpans) (id : ℕ) (span : StoredSpan) : Type 0 where
  pub found : find spans id ≡ Some span
  pub is_count : count spans id ≡ span.handles + children_there spans id

pub found : (spans : StoredSpans) (id : ℕ) → IsSome (find spans id) → (span : StoredSpan) × IsFound spans id span
found spans id h =
    let s = is_there (find spans id) h in
    (s.0, record { found = s.1; is_count = ap (λ o. handles_if_there o + children_there spans id) s.1 })

pub closing_parts : (spans : StoredSpans) (id : ℕ) → IsClosing spans id → (span : StoredSpan) × (find spans id ≡ Some span) × (span.handles ≡ 0) × (children_there spans id ≡ 0)
closing_parts spans id h =
    let b = both (is_some (find spans id)) (eqb (count spans id) 0) h in
    let s = found spans id b.0 in
    let z = eqb-true (count spans id) 0 b.1 in
    let c = s.1.is_count in
    (s.0, s.1.found, omega (arith, z, c), omega (arith, z, c))

pub closing_from : (spans : StoredSpans) (id : ℕ) (span : StoredSpan) → find spans id ≡ Some span → span.handles ≡ 0 → children_there spans id ≡ 0 → IsClosing spans id
closing_from spans id span h z k =
    let c : count spans id ≡ 0 = (let a = ap handles_if_there h in omega (arith, a, z, k)) in
    rw (h, (rw h at c)) refl

pub open_parts : (spans : StoredSpans) (id : ℕ) → IsStillHeld spans id → (span : StoredSpan) × (find spans id ≡ Some span) × (0 < span.handles + children_there spans id)
open_parts spans id h =
    let b = both (is_some (find spans id)) (ltb 0 (count spans id)) h in
    let s = found spans id b.0 in
    let low = ltb-true 0 (count spans id) b.1 in
    let c = s.1.is_count in
    (s.0, s.1.found, omega (arith, low, c))

-- what it says that a call is accepted
pub may_be_held : (s : StoreView) (id : ℕ) → no_more s id ≡ None → IsStillHeld s.table.entries id × (count s.table.entries id < s.max_count)
may_be_held s id h = go (is_still_held s.table.entries id) (ltb (count s.table.entries id) s.max_count) refl refl
  where
    go : (a b : Bool) → is_still_held s.table.entries id ≡ a → ltb (count s.table.entries id) s.max_count ≡ b → IsStillHeld s.table.entries id × (count s.table.entries id < s.max_count)
    go true true e k = (e, ltb-true (count s.table.entries id) s.max_count k)
    go true false e k = absurd (let bad : Some CountFull ≡ None = rw (e, k) at h in cc)
    go false b e k = absurd (let bad : Some Unknown ≡ None = rw e at h in cc)

pub may_be_added : (s : StoreView) (parent : Option ℕ) (bits word : ℕ) → refusal s (Add parent bits word) ≡ None → (no_child s parent ≡ None) × ((id : ℕ) × (next_id s.table ≡ Some id))
may_be_added s parent bits word h = go (no_child s parent) (next_id s.table) refl refl
  where
    go : (a : Option Fault) (b : Option ℕ) → no_child s parent ≡ a → next_id s.table ≡ b → (no_child s parent ≡ None) × ((id : ℕ) × (next_id s.table ≡ Some id))
    go None (Some id) e k = (e, (id, k))
    go None None e k = absurd (let bad : Some Full ≡ None = rw (e, k) at h in cc)
    go (Some fault) b e k = absurd (let bad : Some fault ≡ None = rw e at h in cc)

pub may_be_released : (s : StoreView) (id : ℕ) → refusal s (Release id) ≡ None → 0 < handles_of s.table.entries id
may_be_released s id h =
    elim (cases_Bool (ltb 0 (handles_of s.table.entries id))) [
      | inl t ↦ ltb-true 0 (handles_of s.table.entries id) t
      | inr t ↦ absurd (let bad : Some Unknown ≡ None = rw t at h in cc)
    ]

pub may_end : (s : StoreView) (id : ℕ) → refusal s (Ended id) ≡ None → IsClosing s.table.entries id
may_end s id h =
    elim (cases_Bool (is_closing s.table.entries id)) [
      | inl t ↦ t
      | inr t ↦ absurd (let bad : Some Unknown ≡ None = rw t at h in cc)
    ]

-- `add`: one span more, under an id that wasn't there
pub record Adds (s new : StoreView) (parent : Option ℕ) (span : StoredSpan) (id : ℕ) : Type 0 where
  pub next : next_id s.table ≡ Some id
  pub vacant : find s.table.entries id ≡ None
  pub entries : new.table.entries ≡ with_entry s.table.entries id span
  pub above : (p : ℕ) → parent ≡ Some p → IsStillHeld s.table.entries p

-- `keep` and `release`: one span has other handles
pub record Writes (s new : StoreView) (id : ℕ) (span changed : StoredSpan) : Type 0 where
  pub found : find s.table.entries id ≡ Some span
  pub entries : new.table.entries ≡ with_value s.table.entries id changed
  pub parent : changed.parent ≡ span.parent
  pub bits : changed.bits ≡ span.bits
  pub word : changed.word ≡ span.word

-- `ended`: a span that nothing holds is taken out
pub record Takes (s new : StoreView) (id : ℕ) (span : StoredSpan) : Type 0 where
  pub found : find s.table.entries id ≡ Some span
  pub handles : span.handles ≡ 0
  pub children : children_there s.table.entries id ≡ 0
  pub entries : new.table.entries ≡ without_entry s.table.entries id

module _ {T : Type 0} where
  pub entries-inserted : (t : Table T) (id : ℕ) (v : T) → next_id t ≡ Some id → (after t (Insert v)).entries ≡ with_entry t.entries id v
  entries-inserted t id v h = go (next_slot t) refl
    where
      go : (o : Option ℕ) → next_slot t ≡ o → (after t (Insert v)).entries ≡ with_entry t.entries id v
      go None e = (let none : None ≡ Some id = rw e at h in cc)
      go (Some k) e = (let same = rw e at h in rw e (ap (λ x. with_entry t.entries x v) (let q : id_at t k ≡ id = cc in q)))

  entries-removed : (t : Table T) (id : ℕ) (v : T) → find t.entries id ≡ Some v → (table_removed t id).entries ≡ without_entry t.entries id
  entries-removed t id v h = rw h refl

above_open : (s : StoreView) (parent : Option ℕ) → no_child s parent ≡ None → (p : ℕ) → parent ≡ Some p → IsStillHeld s.table.entries p
above_open s None h p e = (let bad : None ≡ Some p = e in cc)
above_open s (Some q) h p e =
    let same : q ≡ p = cc in
    subst (IsStillHeld s.table.entries) same (may_be_held s q h).0

pub adds : (s : StoreView) (parent : Option ℕ) (bits word : ℕ) → IsStore s → refusal s (Add parent bits word) ≡ None → (id : ℕ) × Adds s (store_then s (Add parent bits word)) parent (added_span parent bits word) id
adds s parent bits word w h =
    let m = may_be_added s parent bits word h in
    let id = m.1.0 in (
      id,
      record {
        next = m.1.1;
        vacant = rw m.1.1 at (next_absent s.table w.kept);
        entries = entries-inserted s.table id (added_span parent bits word) m.1.1;
        above = above_open s parent m.0;
      },
    )

module _ (s : StoreView) (id : ℕ) (change : ℕ → ℕ) where
  handles_set_is : (span : StoredSpan) → find s.table.entries id ≡ Some span → handles_set s id change (find s.table.entries id) ≡ record s { table = after s.table (Write id (with_handles (change span.handles) span)) }
  handles_set_is span h = rw h refl

  writes : (span : StoredSpan) → find s.table.entries id ≡ Some span → Writes s (handles_set s id change (find s.table.entries id)) id span (with_handles (change span.handles) span)
  writes span h = record {
    found = h;
    entries = ap (λ (x : StoreView). x.table.entries) (handles_set_is span h);
    parent = refl;
    bits = refl;
    word = refl;
  }

pub keeps : (s : StoreView) (id : ℕ) → refusal s (Keep id) ≡ None → (span : StoredSpan) × Writes s (store_then s (Keep id)) id span (with_handles (span.handles + 1) span) × (0 < span.handles + children_there s.table.entries id)
keeps s id h =
    let m = may_be_held s id h in
    let o = open_parts s.table.entries id m.0 in
    (o.0, writes s id (λ handles. handles + 1) o.0 o.1, o.2)

held_there : (o : Option StoredSpan) → 0 < handles_if_there o → (span : StoredSpan) × (o ≡ Some span) × (0 < span.handles)
held_there None h = absurd (omega arith)
held_there (Some span) h = (span, refl, h)

pub releases : (s : StoreView) (id : ℕ) → refusal s (Release id) ≡ None → (span : StoredSpan) × Writes s (store_then s (Release id)) id span (with_handles (span.handles - 1) span) × (0 < span.handles)
releases s id h =
    let o = held_there (find s.table.entries id) (may_be_released s id h) in
    (o.0, writes s id (λ handles. handles - 1) o.0 o.1, o.2)

pub takes : (s : StoreView) (id : ℕ) → refusal s (Ended id) ≡ None → (span : StoredSpan) × Takes s (store_then s (Ended id)) id span
takes s id h =
    let c = closing_parts s.table.entries id (may_end s id h) in
    (c.0, record { found = c.1; handles = c.2; children = c.3; entries = entries-removed s.table id c.0 c.1 })

-- every call leaves a store
kept-store_then : (s : StoreView) (call : Call) → IsKept s.table → IsKept (store_then s call).table
kept-store_then s (Add parent bits word) k = IsKept-after s.table (Insert (added_span parent bits word)) k
kept-store_then s (Keep id) k = go (find s.table.entries id)
  where
    go : (o : Option StoredSpan) → IsKept (handles_set s id (λ handles. handles + 1) o).table
    go None = k
    go (Some span) = IsKept-after s.table (Write id (with_handles (span.handles + 1) span)) k
kept-store_then s (Release id) k = go (find s.table.entries id)
  where
    go : (o : Option StoredSpan) → IsKept (handles_set s id (λ handles. handles - 1) o).table
    go None = k
    go (Some span) = IsKept-after s.table (Write id (with_handles (span.handles - 1) span)) k
kept-store_then s (Ended id) k = IsKept-after s.table (Remove id) k

store-added : (s new : StoreView) (parent : Option ℕ) (span : StoredSpan) (id : ℕ) → IsStore s → IsKept new.table → span.parent ≡ parent → Adds s new parent span id → IsStore new
store-added s new parent span id w k e a = record {
  kept = k;
  apart = subst AreApart (sym a.entries) (AreApart-with_entry s.table.entries id span a.vacant w.apart);
  forest = subst IsForest (sym a.entries) (forest-with_entry s.table.entries id span a.vacant (λ p h. (let o = open_parts s.table.entries p (a.above p (sym e ∙ h)) in there_is (find s.table.entries p) o.0 o.1)) w.forest);
}

store-written : (s new : StoreView) (id : ℕ) (span changed : StoredSpan) → IsStore s → IsKept new.table → Writes s new id span changed → IsStore new
store-written s new id span changed w k a = record {
  kept = k;
  apart = subst AreApart (sym a.entries) (AreApart-with_value s.table.entries id changed w.apart);
  forest = subst IsForest (sym a.entries) (forest-with_value s.table.entries id span changed a.found a.parent w.forest);
}

store-taken : (s new : StoreView) (id : ℕ) (span : StoredSpan) → IsStore s → IsKept new.table → Takes s new id span → IsStore new
store-taken s new id span w k a = record {
  kept = k;
  apart = subst AreApart (sym a.entries) (AreApart-without_entry s.table.entries id w.apart);
  forest = subst IsForest (sym a.entries) (forest-without_entry s.table.entries id a.children w.forest);
}

IsStore-store_then : (s : StoreView) (call : Call) → IsStore s → refusal s call ≡ None → IsStore (store_then s call)
IsStore-store_then s (Add parent bits word) w h =
    let a = adds s parent bits word w h in
    store-added s (store_then s (Add parent bits word)) parent (added_span parent bits word) a.0 w (kept-store_then s (Add parent bits word) w.kept) refl a.1
IsStore-store_then s (Keep id) w h =
    let a = keeps s id h in
    store-written s (store_then s (Keep id)) id a.0 (with_handles (a.0.handles + 1) a.0) w (kept-store_then s (Keep id) w.kept) a.1
IsStore-store_then s (Release id) w h =
    let a = releases s id h in
    store-written s (store_then s (Release id)) id a.0 (with_handles (a.0.handles - 1) a.0) w (kept-store_then s (Release id) w.kept) a.1
IsStore-store_then s (Ended id) w h =
    let a = takes s id h in
    store-taken s (store_then s (Ended id)) id a.0 w (kept-store_then s (Ended id) w.kept) a.1

pub IsStore-store_after : (s : StoreView) (call : Call) → IsStore s → IsStore (store_after s call)
IsStore-store_after s call w = go (refusal s call) refl
  where
    go : (o : Option Fault) → refusal s call ≡ o → IsStore (store_after s call)
    go None e = subst IsStore (sym (after_accepted s call e)) (IsStore-store_then s call w e)
    go (Some fault) e = subst IsStore (sym (after_refused s call fault e)) w
