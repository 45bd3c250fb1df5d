-- Each kind of step keeps the root's view well formed.
use Rattle.std.proofs.Common.{◌≡◌, ◌≢◌, ℕ, ◌+◌, ◌<◌, List, ◌∷◌, Bool, true, false, true≢false, refl, sym, ap, ◌∙◌, subst, ⊎_elim, arith, get_or, get_or-set_other}
use Rattle.std.proofs.lemmas.Bool.Decides.{nat_tests}
use Rattle.span_id.specs.Id.{slot_of, generation_of}
use Rattle.span_seats.specs.declared.view.HandleView.{HandleView}
use Rattle.span_seats.specs.declared.view.RootView.{RootView}
use Rattle.span_seats.specs.RootView.{empty_table, has_number, handle_count, IsOpenIn, HasNoHandle, stored, with_number, without, without_number}
use Rattle.span_seats.specs.inside.WellFormed.{IsWellFormed}
use Rattle.span_seats.proofs.Numbers.{some_number, has_before, has_cons, times_without, times_new, times_with, joined_apart}

pub off : {b : Bool} → b ≡ false → b ≡ true → ⊥
off f t = true≢false (sym t ∙ f)

pub empty_well_formed : (slots : ℕ) → IsWellFormed (empty_table slots)
empty_well_formed slots = record {
  opened = λ id number h. absurd (off refl h);
  below = λ id number h. absurd (off refl h);
  once = λ n. omega arith;
}

pub stored_well_formed : (r : RootView) (slot word : ℕ) → HasNoHandle r.handles slot → IsWellFormed r → IsWellFormed (stored r slot word)
stored_well_formed r slot word free h = record {
  opened = λ id number is. let ne : slot_of id ≢ slot = free id number is in rw get_or-set_other (h.opened id number is);
  below = h.below;
  once = h.once;
}

-- where the number is next
pub first_has : (id number : ℕ) (handles : List HandleView) → has_number id number (record { id = id; number = number } ∷ handles) ≡ true
first_has id number handles = grind (arith, nat_tests)

pub later_has : (id number : ℕ) (h : HandleView) (handles : List HandleView) → has_number id number handles ≡ true → has_number id number (h ∷ handles) ≡ true
later_has id number h handles is = grind (arith, nat_tests)

pub with_well_formed : (r : RootView) → IsOpenIn r.words r.split_id → IsWellFormed r → IsWellFormed (with_number r)
with_well_formed r opens h = record {
  opened = λ id number is. first_of_two id number is (h.opened id number);
  below = λ id number is. below_more id number is (h.below id number);
  once = λ n. times_with n r.next_number r.split_id r.handles (times_new r.next_number r.handles h.below) (h.once n);
}
  where
    first_of_two : (id number : ℕ) → has_number id number (with_number r).handles ≡ true → (has_number id number r.handles ≡ true → IsOpenIn r.words id) → IsOpenIn r.words id
    first_of_two id number is old = ⊎_elim (λ (e : (r.split_id ≡ id) × (r.next_number ≡ number)). subst (IsOpenIn r.words) e.0 opens) old (has_cons id number r.split_id r.next_number r.handles is)

    below_more : (id number : ℕ) → has_number id number (with_number r).handles ≡ true → (has_number id number r.handles ≡ true → number < r.next_number) → number < r.next_number + 1
    below_more id number is old = grind (arith, nat_tests)

pub without_well_formed : (r : RootView) (id number : ℕ) → IsWellFormed r → IsWellFormed (without_number r id number)
without_well_formed r y m h = record {
  opened = λ id number is. h.opened id number (has_before id number y m r.handles is);
  below = λ id number is. h.below id number (has_before id number y m r.handles is);
  once = λ n. let old = h.once n in let fewer = times_without n y m r.handles in omega arith;
}

-- an id whose set isn't empty is open
pub counted_opens : (r : RootView) → IsWellFormed r → (id : ℕ) → 0 < handle_count id r.handles → IsOpenIn r.words id
counted_opens r h id some = let n = some_number id r.handles some in h.opened id n.0 n.1

-- so two ids of one slot whose sets aren't empty are one
pub one_id_of_slot : (r : RootView) → IsWellFormed r → (a b : ℕ) → 0 < a → 0 < b → 0 < handle_count a r.handles → 0 < handle_count b r.handles → slot_of a ≡ slot_of b → a ≡ b
one_id_of_slot r h a b some_a some_b counts_a counts_b same =
    let first : get_or r.words (slot_of a) 0 ≡ generation_of a + 1 = counted_opens r h a counts_a in
    let second : get_or r.words (slot_of b) 0 ≡ generation_of b + 1 = counted_opens r h b counts_b in
    let there = ap (λ (s : ℕ). get_or r.words s 0) same in
    omega arith

-- two handles that are joined one after the other, the first split off again between, had two numbers
pub shown_apart : (r r₁ r₂ : RootView) (x n y m : ℕ) → IsWellFormed r → has_number x n r.handles ≡ true → r₁ ≡ without_number r x n → r₂ ≡ with_number r₁ → has_number y m r₂.handles ≡ true → n ≢ m
shown_apart r r₁ r₂ x n y m h first joined given second =
    let seen : has_number y m (with_number (without_number r x n)).handles ≡ true = subst (λ (q : RootView). has_number y m q.handles ≡ true) (given ∙ ap with_number joined) second in
    ⊎_elim
    (λ (e : (x ≡ y) × (r.next_number ≡ m)). λ (same : n ≡ m). (let below = h.below x n first in let next = e.1 in absurd (omega arith)))
    (λ (old : has_number y m (without x n r.handles) ≡ true). joined_apart x n y m r.handles h.once first old)
    (has_cons y m x r.next_number (without x n r.handles) seen)
