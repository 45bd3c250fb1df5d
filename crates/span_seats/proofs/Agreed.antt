-- Each call keeps the root and the core agreed. `r` is the root's view before the call, `r₁`, `r₂` .. after its steps.
use Rattle.std.proofs.Common.{◌≡◌, ◌≢◌, ◌⊎◌, ℕ, zero, suc, ◌+◌, ◌-◌, ◌<◌, List, length, replicate, set, get_or, Bool, true, false, true≢false, not, ◌&&◌, ◌||◌, refl, sym, ap, ◌∙◌, subst, inl, inr, ⊎_elim, arith, get_or-set_other, get_or-set_same, length-set}
use Rattle.std.specs.Prelude.{if◌then◌else◌, ◌==◌}
use Rattle.std.proofs.lemmas.Bool.{eqb-true}
use Rattle.std.proofs.lemmas.Bool.Decides.{nat_tests}
use Rattle.span_id.specs.Id.{id_of, slot_of, generation_of}
use Rattle.span_id.specs.Ids.{has}
use Rattle.span_seats.specs.declared.view.HandleView.{HandleView}
use Rattle.span_seats.specs.declared.view.RootView.{RootView}
use Rattle.span_seats.specs.RootView.{handle_count, has_number, without, IsOpenIn, HasNoHandle, MayClose, empty_table, stored, with_number, without_number, closed_words}
use Rattle.span_seats.specs.OpenSpans.{OpenSpans, IsSound, IsAdded, IsCloned, IsReleased, Agree}
use Rattle.span_seats.proofs.Numbers.{number_counts, count_without}
use Rattle.span_seats.proofs.Closing.{length-closed, closed_else, closed_zero}

length-zeros : (n : ℕ) → length {A = ℕ} (replicate n 0) ≡ n
length-zeros zero = refl
length-zeros (suc n) = ap suc (length-zeros n)

zero_at : (n slot : ℕ) → get_or {A = ℕ} (replicate n 0) slot 0 ≡ 0
zero_at zero slot = refl
zero_at (suc n) zero = refl
zero_at (suc n) (suc slot) = zero_at n slot

-- a table that was made agrees with a core in which no span is open
pub made_agrees : (slots : ℕ) (spans : OpenSpans) → ((id : ℕ) → spans.is_open id ≡ false) → ((id : ℕ) → spans.handles id ≡ 0) → Agree (empty_table slots) slots spans
made_agrees slots spans none no_handles = record {
  counted = λ id. sym (no_handles id);
  sized = length-zeros slots;
  opened = λ id is. absurd (true≢false (sym is ∙ none id));
  vacant = λ slot far. zero_at slots slot;
}

-- a call on a handle: the join has shown its number
module _ (spans : OpenSpans) (slots : ℕ) (r r₁ : RootView) (h : HandleView) (id : ℕ) (a : Agree r slots spans) (shown : has_number h.id h.number r.handles ≡ true) (is : h.id ≡ id) (joined : r₁ ≡ without_number r h.id h.number) where
  shown_at : has_number id h.number r.handles ≡ true
  shown_at = subst (λ (k : ℕ). has_number k h.number r.handles ≡ true) is shown

  joined_at : r₁ ≡ without_number r id h.number
  joined_at = joined ∙ ap (λ (k : ℕ). without_number r k h.number) is

  -- the span has a handle
  pub handle_counts : 0 < spans.handles id
  handle_counts = let some = number_counts id h.number r.handles shown_at in let c = a.counted id in omega arith

  -- a refused call, and one that leaves the spans and the handles as they are: the handle gets a seat back
  pub refused_agrees : (r₂ : RootView) → r₂ ≡ with_number r₁ → Agree r₂ slots spans
  refused_agrees r₂ back = subst (λ (x : RootView). Agree x slots spans) (sym (back ∙ ap with_number joined_at))
      (record { counted = λ x. sym (count_without x id h.number r.handles shown_at) ∙ a.counted x; sized = a.sized; opened = a.opened; vacant = a.vacant })

  -- a clone: the handle gets a seat back, and the new handle another
  pub cloned_agrees : (after : OpenSpans) (r₂ r₃ : RootView) → r₂ ≡ with_number r₁ → r₃ ≡ with_number r₂ → IsCloned id spans after → Agree r₃ slots after
  cloned_agrees after r₂ r₃ back made c = subst (λ (x : RootView). Agree x slots after) (sym (made ∙ ap with_number (back ∙ ap with_number joined_at)))
      (record {
        counted = λ x. let s = count_without x id h.number r.handles shown_at in let m = c.one_more x in let q = a.counted x in omega arith;
        sized = a.sized;
        opened = λ x o. a.opened x (sym (c.rest x) ∙ o);
        vacant = λ s none. a.vacant s (λ x o q. none x (c.rest x ∙ o) q);
      })

  -- a handle given back: its number has left the set
  pub released_counts : (after : OpenSpans) (closed : List ℕ) → IsReleased true id closed spans after → (x : ℕ) → handle_count x r₁.handles ≡ after.handles x
  released_counts after closed q x =
      let s = count_without x id h.number r.handles shown_at in
      let f = q.fewer x in
      let c = a.counted x in
      let e : handle_count x r₁.handles ≡ handle_count x (without id h.number r.handles) = ap (λ (y : RootView). handle_count x y.handles) joined_at in
      omega arith

  pub released_words : r₁.words ≡ r.words
  released_words = ap (λ (y : RootView). y.words) joined_at

-- an exit, which no handle takes part in
pub left_counts : (before after : OpenSpans) (slots : ℕ) (r : RootView) (id : ℕ) (closed : List ℕ) → Agree r slots before → IsReleased false id closed before after → (x : ℕ) → handle_count x r.handles ≡ after.handles x
left_counts before after slots r id closed a q x = let f = q.fewer x in let c = a.counted x in omega arith

both_of : (b c : Bool) → (b && not c) ≡ true → (b ≡ true) × (c ≡ false)
both_of b c h = (grind arith, grind arith)

gone : (a b c : Bool) → a ≡ (b && not c) → b ≡ true → (a ≡ true → ⊥) → c ≡ true
gone a b true e f g = refl
gone a b false e f g = absurd (g (e ∙ grind arith))

-- the spans that a release closes, where the sets are already those after it
module _ (with_handle : Bool) (id : ℕ) (closed : List ℕ) (before after : OpenSpans) (sound : IsSound before) (still_sound : IsSound after) (released : IsReleased with_handle id closed before after) (slots : ℕ) (r r₁ : RootView)
    (a : Agree r slots before) (counted : (x : ℕ) → handle_count x r₁.handles ≡ after.handles x) (same : r₁.words ≡ r.words) where
  was_open : (x : ℕ) → after.is_open x ≡ true → (before.is_open x ≡ true) × (has closed x ≡ false)
  was_open x is = both_of (before.is_open x) (has closed x) (sym (released.rest x) ∙ is)

  -- an open id with the slot of one that closes is that one, and so it closes
  one_of_slot : (x y : ℕ) → has closed x ≡ true → before.is_open y ≡ true → slot_of x ≡ slot_of y → has closed y ≡ true
  one_of_slot x y in_closed is e = subst (λ (z : ℕ). has closed z ≡ true) (sound.alone x y (released.were x in_closed) is e) in_closed

  -- no id of a closed span's slot has a handle
  pub may_close : MayClose r₁ closed
  may_close x in_closed = (rw (same, a.sized) (a.opened x (released.were x in_closed)).0, free)
    where
      free : HasNoHandle r₁.handles (slot_of x)
      free y n there e =
          let some = number_counts y n r₁.handles there in
          let is = counted y in
          let was = was_open y (still_sound.held y (omega arith)) in
          true≢false (sym (one_of_slot x y in_closed was.0 (sym e)) ∙ was.1)

  pub closed_agrees : (r₂ : RootView) → r₂.handles ≡ r₁.handles → r₂.words ≡ closed_words r₁.words closed → Agree r₂ slots after
  closed_agrees r₂ handles closed_all =
      let words : r₂.words ≡ closed_words r.words closed = closed_all ∙ ap (λ ws. closed_words ws closed) same in record {
        counted = λ x. ap (λ hs. handle_count x hs) handles ∙ counted x;
        sized = ap (λ (ws : List ℕ). length ws) words ∙ (length-closed r.words closed ∙ a.sized);
        opened = λ x is.
            let was = was_open x is in
            let old = a.opened x was.0 in (
              old.0,
              ap (λ ws. get_or ws (slot_of x) 0) words
                  ∙ (closed_else r.words closed (slot_of x) (λ y in_closed e. true≢false (sym (one_of_slot y x in_closed was.0 e) ∙ was.1)) ∙ old.1),
            );
        vacant = λ s none. ap (λ ws. get_or ws s 0) words
            ∙ closed_zero r.words closed s (λ far. a.vacant s (λ y is e. far y (gone (after.is_open y) (before.is_open y) (has closed y) (released.rest y) is (λ still. none y still e)) e));
      }

either_true : (a b : Bool) → (a || b) ≡ true → (a ≡ true) ⊎ (b ≡ true)
either_true true b h = inl refl
either_true false b h = inr h

or_true : (a b : Bool) → b ≡ true → (a || b) ≡ true
or_true a b h = grind arith

self_true : (x : ℕ) (b : Bool) → ((x == x) || b) ≡ true
self_true x b = grind (arith, nat_tests)

set_here : (ws : List ℕ) (i w : ℕ) → i < length ws → get_or (set ws i w) i 0 ≡ w
set_here ws i w h = rw get_or-set_same refl

-- a new span: its slot's word is stored, and its handle gets a seat
module _ (id slots : ℕ) (before after : OpenSpans) (sound : IsSound before) (added : IsAdded id slots before after) (r : RootView) (a : Agree r slots before) where
  pub added_slot : slot_of id < length r.words
  added_slot = rw a.sized added.slot_in

  pub added_free : HasNoHandle r.handles (slot_of id)
  added_free x n there e = let some = number_counts x n r.handles there in let c = a.counted x in added.free x (sound.held x (omega arith)) e

  -- slot and word name the id
  names_id : id_of (slot_of id) (generation_of id + 1 - 1) ≡ id
  names_id = let p = added.positive in omega arith

  is_open_in : IsOpenIn (set r.words (slot_of id) (generation_of id + 1)) id
  is_open_in = set_here r.words (slot_of id) (generation_of id + 1) added_slot

  both_steps : Agree (with_number (stored r (slot_of id) (generation_of id + 1))) slots after
  both_steps =
      let ws = set r.words (slot_of id) (generation_of id + 1) in record {
        counted = λ x. ap (λ (i : ℕ). (if i == x then 1 else 0) + handle_count x r.handles) names_id ∙ (ap (λ (m : ℕ). (if id == x then 1 else 0) + m) (a.counted x) ∙ sym (added.one_more x));
        sized = length-set r.words (slot_of id) (generation_of id + 1) ∙ a.sized;
        opened = λ x is. ⊎_elim
            (λ (e : (id == x) ≡ true). subst (λ (y : ℕ). (slot_of y < slots) × IsOpenIn ws y) (eqb-true id x e) (added.slot_in, is_open_in))
            (λ (e : before.is_open x ≡ true). let old = a.opened x e in let ne : slot_of x ≢ slot_of id = added.free x e in (old.0, rw get_or-set_other old.1))
            (either_true (id == x) (before.is_open x) (sym (added.rest x) ∙ is));
        vacant = λ s none.
            let ne : s ≢ slot_of id = λ e. none id (added.rest id ∙ self_true id (before.is_open id)) (sym e) in
            rw get_or-set_other (a.vacant s (λ x is e. none x (added.rest x ∙ or_true (id == x) (before.is_open x) is) e));
      }

  -- its word is stored: a seat may be split off, and it is of this id
  pub added_opens : (r₁ : RootView) → r₁ ≡ stored r (slot_of id) (generation_of id + 1) → IsOpenIn r₁.words r₁.split_id
  added_opens r₁ e = subst (λ (x : RootView). IsOpenIn x.words x.split_id) (sym e) (subst (λ (k : ℕ). IsOpenIn (set r.words (slot_of id) (generation_of id + 1)) k) (sym names_id) is_open_in)

  pub added_id : (r₁ : RootView) → r₁ ≡ stored r (slot_of id) (generation_of id + 1) → r₁.split_id ≡ id
  added_id r₁ e = ap (λ (x : RootView). x.split_id) e ∙ names_id

  pub added_agrees : (r₁ r₂ : RootView) → r₁ ≡ stored r (slot_of id) (generation_of id + 1) → r₂ ≡ with_number r₁ → Agree r₂ slots after
  added_agrees r₁ r₂ e e' = subst (λ (x : RootView). Agree x slots after) (sym (e' ∙ ap with_number e)) both_steps
