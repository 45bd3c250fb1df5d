-- One handle more of a span, and one less.
use Rattle.std.proofs.Common.{◌≡◌, ℕ, ◌+◌, ◌-◌, ◌<◌, Bool, eqb, Option, Some, None, IsTrue, refl, sym, ap, subst, ◌∙◌, arith}
use Rattle.std.specs.Option.{IsSomeAnd}
use Rattle.span_slots.specs.Table.{Table, find, with_value}
use Rattle.span_slots.specs.Change.{Write, after}
use Rattle.span_slots.proofs.Entries.{find-with_value_same}
use Rattle.span_store.specs.declared.entry.Entry.{Entry}
use Rattle.span_store.specs.StoredSpans.{is_closing}
use Rattle.span_store.specs.Calls.{Keep, Release, refusal, store_then, store_after}
use Rattle.span_store.specs.inside.Invariant.{spans_of, IsConsistent}
use Rattle.span_store.specs.inside.Reading.{HasRoom}
use Rattle.span_store.proofs.Maps.{there_is}
use Rattle.span_store.proofs.Plain.{span_at, spans-written}
use Rattle.span_store.proofs.Adds.{some_and}
use Rattle.span_store.proofs.Upheld.{IsConsistent-handles, handles_enough}
use Rattle.span_store.proofs.Views.{view_of, no_more-room, after_accepted, release_at, is_closing-at}

room_at : (max_count : ℕ) (o : Option Entry) → HasRoom max_count o → (entry : Entry) × (o ≡ Some entry) × ((0 < entry.handles + entry.children) × (entry.handles + entry.children < max_count))
room_at max_count o h = some_and (λ entry. (0 < entry.handles + entry.children) × (entry.handles + entry.children < max_count)) o h

pub more_fits : (t : Table Entry) (max_count handles id : ℕ) → IsConsistent t max_count handles → HasRoom max_count (find t.entries id) → IsSomeAnd (find t.entries id) (λ entry. entry.handles < 4294967295)
more_fits t max_count handles id w room =
    let r = room_at max_count (find t.entries id) room in
    let high = w.max_high in
    let low : r.0.handles < 4294967295 = omega (arith, r.2.1, high) in
    subst (λ o. IsSomeAnd o (λ (entry : Entry). entry.handles < 4294967295)) (sym r.1) low

module _ (t : Table Entry) (max_count handles id : ℕ) (w : IsConsistent t max_count handles) where
  pub kept_accepted : HasRoom max_count (find t.entries id) → refusal (view_of t max_count) (Keep id) ≡ None
  kept_accepted room = no_more-room t max_count id w.counted room

  pub released_accepted : IsSomeAnd (find t.entries id) (λ entry. 0 < entry.handles) → refusal (view_of t max_count) (Release id) ≡ None
  released_accepted held =
      let r = some_and (λ entry. 0 < entry.handles) (find t.entries id) held in
      release_at t max_count id r.0 r.1 r.2

  pub released_enough : IsSomeAnd (find t.entries id) (λ entry. 0 < entry.handles) → 0 < handles
  released_enough held =
      let r = some_and (λ entry. 0 < entry.handles) (find t.entries id) held in
      let n = handles_enough t max_count handles id r.0 w r.1 in
      omega (arith, n, r.2)

module _ (t new : Table Entry) (max_count handles id : ℕ) (w : IsConsistent t max_count handles) where
  pub kept_consistent : HasRoom max_count (find t.entries id) → ((entry : Entry) → find t.entries id ≡ Some entry → new ≡ record t { entries = with_value t.entries id (record entry { handles = entry.handles + 1 }) }) → IsConsistent new max_count (handles + 1)
  kept_consistent room written =
      let r = room_at max_count (find t.entries id) room in
      let more : Entry = record r.0 { handles = r.0.handles + 1 } in
      subst (λ (x : Table Entry). IsConsistent x max_count (handles + 1)) (sym (written r.0 r.1)) (IsConsistent-handles t id r.0 more max_count handles (handles + 1) w r.1 refl refl (omega (arith, r.2.1)) (omega arith))

  pub kept_view : HasRoom max_count (find t.entries id) → ((entry : Entry) → find t.entries id ≡ Some entry → new ≡ record t { entries = with_value t.entries id (record entry { handles = entry.handles + 1 }) }) → view_of new max_count ≡ store_after (view_of t max_count) (Keep id)
  kept_view room written =
      let r = room_at max_count (find t.entries id) room in
      let more : Entry = record r.0 { handles = r.0.handles + 1 } in
      let is : view_of new max_count ≡ view_of (after t (Write id more)) max_count = ap (λ (x : Table Entry). view_of x max_count) (written r.0 r.1) in
      let step : view_of (after t (Write id more)) max_count ≡ store_then (view_of t max_count) (Keep id) = rw (span_at t.entries id r.0 r.1) (ap (λ x. record (view_of t max_count) { table = x }) (spans-written t id more)) in
      is ∙ (step ∙ sym (after_accepted (view_of t max_count) (Keep id) (kept_accepted t max_count handles id w room)))

  pub released_consistent : IsSomeAnd (find t.entries id) (λ entry. 0 < entry.handles) → ((entry : Entry) → find t.entries id ≡ Some entry → new ≡ record t { entries = with_value t.entries id (record entry { handles = entry.handles - 1 }) }) → IsConsistent new max_count (handles - 1)
  released_consistent held written =
      let r = some_and (λ entry. 0 < entry.handles) (find t.entries id) held in
      let less : Entry = record r.0 { handles = r.0.handles - 1 } in
      let n = handles_enough t max_count handles id r.0 w r.1 in
      let high = w.bounded id r.0 r.1 in
      subst (λ (x : Table Entry). IsConsistent x max_count (handles - 1)) (sym (written r.0 r.1)) (IsConsistent-handles t id r.0 less max_count handles (handles - 1) w r.1 refl refl (omega (arith, high)) (omega (arith, n, r.2)))

  pub released_view : IsSomeAnd (find t.entries id) (λ entry. 0 < entry.handles) → ((entry : Entry) → find t.entries id ≡ Some entry → new ≡ record t { entries = with_value t.entries id (record entry { handles = entry.handles - 1 }) }) → view_of new max_count ≡ store_after (view_of t max_count) (Release id)
  released_view held written =
      let r = some_and (λ entry. 0 < entry.handles) (find t.entries id) held in
      let less : Entry = record r.0 { handles = r.0.handles - 1 } in
      let is : view_of new max_count ≡ view_of (after t (Write id less)) max_count = ap (λ (x : Table Entry). view_of x max_count) (written r.0 r.1) in
      let step : view_of (after t (Write id less)) max_count ≡ store_then (view_of t max_count) (Release id) = rw (span_at t.entries id r.0 r.1) (ap (λ x. record (view_of t max_count) { table = x }) (spans-written t id less)) in
      is ∙ (step ∙ sym (after_accepted (view_of t max_count) (Release id) (released_accepted t max_count handles id w held)))

  -- whether the span is closing now
  pub released_closing : IsSomeAnd (find t.entries id) (λ entry. 0 < entry.handles) → ((entry : Entry) → find t.entries id ≡ Some entry → new ≡ record t { entries = with_value t.entries id (record entry { handles = entry.handles - 1 }) }) → (closing : Bool) → ((entry : Entry) → find t.entries id ≡ Some entry → closing ≡ eqb (entry.handles - 1 + entry.children) 0) → is_closing (spans_of new.entries) id ≡ closing
  released_closing held written closing last =
      let r = some_and (λ entry. 0 < entry.handles) (find t.entries id) held in
      let less : Entry = record r.0 { handles = r.0.handles - 1 } in
      let news : new.entries ≡ with_value t.entries id less = ap (λ (x : Table Entry). x.entries) (written r.0 r.1) in
      let at : find new.entries id ≡ Some less = rw news (find-with_value_same t.entries id less (there_is (find t.entries id) r.0 r.1)) in
      is_closing-at new.entries id less (released_consistent held written).counted at ∙ sym (last r.0 r.1)

pub same_test : {a b : Bool} → a ≡ b → (IsTrue b → IsTrue a) × (IsTrue a → IsTrue b)
same_test e = (λ h. e ∙ h, λ h. sym e ∙ h)
