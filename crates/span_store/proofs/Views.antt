-- What the code reads of an entry, and what the words of the contracts say of its span.
use Rattle.std.proofs.Common.{◌≡◌, ℕ, ◌+◌, ◌<◌, true, false, eqb, ltb, cond, List, Option, Some, None, IsSome, is_some, refl, sym, ap, ◌∙◌, arith}
use Rattle.std.specs.Option.{option_or}
use Rattle.std.specs.Option.{IsSomeAnd}
use Rattle.std.proofs.lemmas.Bool.{lt-ltb, le-ltb, eq-eqb, ne_eqb, false≢true}
use Rattle.span_id.specs.declared.fault.Fault.{Fault}
use Rattle.span_id.specs.declared.fault.Fault.TheVariants.{Unknown, Full}
use Rattle.span_slots.specs.Table.{Table, find, next_id}
use Rattle.span_store.specs.declared.entry.Entry.{Entry}
use Rattle.span_slots.specs.Change.{Insert, after}
use Rattle.span_store.specs.StoredSpan.{StoredSpan, added_span}
use Rattle.span_store.specs.StoredSpans.{count, handles_if_there, is_still_held, is_closing}
use Rattle.span_store.specs.Store.{StoreView}
use Rattle.span_store.specs.Calls.{Call, Add, Release, Ended, refusal, no_more, no_child, store_then, store_after, told, if_closing, let_go}
use Rattle.span_store.specs.inside.Invariant.{spans_of, span_table, AreCounted}
use Rattle.span_store.specs.inside.Reading.{no_more_at, no_child_at, HasRoom, HasRoomAbove}
use Rattle.span_store.proofs.Plain.{span_at, no_span_at}

-- what contracts see of a table and a greatest count
abbrev pub view_of : Table Entry → ℕ → StoreView
view_of t max_count = record { table = span_table t; max_count = max_count }

pub count_at : (es : List (ℕ × Entry)) (id : ℕ) (entry : Entry) → AreCounted es → find es id ≡ Some entry → count (spans_of es) id ≡ entry.handles + entry.children
count_at es id entry w h =
    let a = ap handles_if_there (span_at es id entry h) in
    let b = w id entry h in
    omega arith

pub is_still_held-at : (es : List (ℕ × Entry)) (id : ℕ) (entry : Entry) → AreCounted es → find es id ≡ Some entry → is_still_held (spans_of es) id ≡ ltb 0 (entry.handles + entry.children)
is_still_held-at es id entry w h =
    let n = count_at es id entry w h in
    rw (span_at es id entry h) (ap (λ x. ltb 0 x) (rw (span_at es id entry h) at n))

pub is_closing-at : (es : List (ℕ × Entry)) (id : ℕ) (entry : Entry) → AreCounted es → find es id ≡ Some entry → is_closing (spans_of es) id ≡ eqb (entry.handles + entry.children) 0
is_closing-at es id entry w h =
    let n = count_at es id entry w h in
    rw (span_at es id entry h) (ap (λ x. eqb x 0) (rw (span_at es id entry h) at n))

-- one more handle or child
pub no_more-at : (t : Table Entry) (max_count id : ℕ) → AreCounted t.entries → no_more (view_of t max_count) id ≡ no_more_at max_count (find t.entries id)
no_more-at t max_count id w = go (find t.entries id) refl
  where
    go : (o : Option Entry) → find t.entries id ≡ o → no_more (view_of t max_count) id ≡ no_more_at max_count (find t.entries id)
    go None e = rw (e, no_span_at t.entries id e) refl
    go (Some entry) e =
        let o = is_still_held-at t.entries id entry w e in
        let n = count_at t.entries id entry w e in
        rw (e, o, n) refl

room_none : (max_count : ℕ) (o : Option Entry) → HasRoom max_count o → no_more_at max_count o ≡ None
room_none max_count None h = absurd h
room_none max_count (Some entry) h = rw (lt-ltb 0 (entry.handles + entry.children) h.0, lt-ltb (entry.handles + entry.children) max_count h.1) refl

pub no_more-room : (t : Table Entry) (max_count id : ℕ) → AreCounted t.entries → HasRoom max_count (find t.entries id) → no_more (view_of t max_count) id ≡ None
no_more-room t max_count id w h = no_more-at t max_count id w ∙ room_none max_count (find t.entries id) h

pub no_child-at : (t : Table Entry) (max_count : ℕ) (parent : Option ℕ) → AreCounted t.entries → no_child (view_of t max_count) parent ≡ no_child_at max_count t.entries parent
no_child-at t max_count None w = refl
no_child-at t max_count (Some p) w = no_more-at t max_count p w

pub no_child-room : (t : Table Entry) (max_count : ℕ) (parent : Option ℕ) → AreCounted t.entries → HasRoomAbove max_count t.entries parent → no_child (view_of t max_count) parent ≡ None
no_child-room t max_count None w h = refl
no_child-room t max_count (Some p) w h = no_more-room t max_count p w h

-- a call that is accepted, and one that is refused
pub after_accepted : (store : StoreView) (call : Call) → refusal store call ≡ None → store_after store call ≡ store_then store call
after_accepted store call h = rw h refl

pub after_refused : (store : StoreView) (call : Call) (fault : Fault) → refusal store call ≡ Some fault → store_after store call ≡ store
after_refused store call fault h = rw h refl

pub told_accepted : (store : StoreView) (call : Call) → refusal store call ≡ None → told store call ≡ if_closing (store_after store call).table.entries (let_go store call)
told_accepted store call h = rw h refl

-- `add`
pub add_refused_above : (store : StoreView) (parent : Option ℕ) (bits word : ℕ) (fault : Fault) → no_child store parent ≡ Some fault → refusal store (Add parent bits word) ≡ Some fault
add_refused_above store parent bits word fault h = ap (λ o. option_or o (cond (is_some (next_id store.table)) None (Some Full))) h

pub add_refused_full : (store : StoreView) (parent : Option ℕ) (bits word : ℕ) → no_child store parent ≡ None → next_id store.table ≡ None → refusal store (Add parent bits word) ≡ Some Full
add_refused_full store parent bits word h k = rw (h, k) refl

pub add_accepted : (store : StoreView) (parent : Option ℕ) (bits word id : ℕ) → no_child store parent ≡ None → next_id store.table ≡ Some id → refusal store (Add parent bits word) ≡ None
add_accepted store parent bits word id h k = rw (h, k) refl

pub added_view : (t new : Table Entry) (max_count : ℕ) (parent : Option ℕ) (bits word id : ℕ) (span : StoredSpan) → span_table new ≡ after (span_table t) (Insert span) → span ≡ added_span parent bits word → refusal (view_of t max_count) (Add parent bits word) ≡ None → view_of new max_count ≡ store_after (view_of t max_count) (Add parent bits word)
added_view t new max_count parent bits word id span e same accepted =
    let step : span_table new ≡ after (span_table t) (Insert (added_span parent bits word)) = e ∙ ap (λ n. after (span_table t) (Insert n)) same in
    let whole : view_of new max_count ≡ store_then (view_of t max_count) (Add parent bits word) = ap (λ x. record (view_of t max_count) { table = x }) step in
    whole ∙ sym (after_accepted (view_of t max_count) (Add parent bits word) accepted)

pub no_next : (o : Option ℕ) → (IsSome o → false ≡ true) → o ≡ None
no_next None h = refl
no_next (Some id) h = absurd (false≢true (h refl))

-- `release` and `ended`
pub release_at : (t : Table Entry) (max_count id : ℕ) (entry : Entry) → find t.entries id ≡ Some entry → 0 < entry.handles → refusal (view_of t max_count) (Release id) ≡ None
release_at t max_count id entry h low = rw (span_at t.entries id entry h, lt-ltb 0 entry.handles low) refl

pub release_refused : (t : Table Entry) (max_count id : ℕ) → (IsSomeAnd (find t.entries id) (λ entry. 0 < entry.handles) → ⊥) → refusal (view_of t max_count) (Release id) ≡ Some Unknown
release_refused t max_count id h = go (find t.entries id) refl
  where
    go : (o : Option Entry) → find t.entries id ≡ o → refusal (view_of t max_count) (Release id) ≡ Some Unknown
    go None e = rw (no_span_at t.entries id e) refl
    go (Some entry) e =
        let none : ltb 0 entry.handles ≡ false = le-ltb 0 entry.handles (let k = rw e at h in omega (arith, k)) in
        rw (span_at t.entries id entry e, none) refl

pub ended_at : (t : Table Entry) (max_count id : ℕ) (entry : Entry) → AreCounted t.entries → find t.entries id ≡ Some entry → entry.handles + entry.children ≡ 0 → refusal (view_of t max_count) (Ended id) ≡ None
ended_at t max_count id entry w h z = rw (is_closing-at t.entries id entry w h, eq-eqb (entry.handles + entry.children) 0 z) refl

pub ended_refused : (t : Table Entry) (max_count id : ℕ) → AreCounted t.entries → (IsSomeAnd (find t.entries id) (λ entry. entry.handles + entry.children ≡ 0) → ⊥) → refusal (view_of t max_count) (Ended id) ≡ Some Unknown
ended_refused t max_count id w h = go (find t.entries id) refl
  where
    go : (o : Option Entry) → find t.entries id ≡ o → refusal (view_of t max_count) (Ended id) ≡ Some Unknown
    go None e = rw (no_span_at t.entries id e) refl
    go (Some entry) e =
        let ne : eqb (entry.handles + entry.children) 0 ≡ false = ne_eqb (entry.handles + entry.children) 0 (rw e at h) in
        rw (is_closing-at t.entries id entry w e, ne) refl
