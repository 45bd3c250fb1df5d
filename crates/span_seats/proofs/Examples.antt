-- Worked cases of the definitions, in a table of two slots. The id of slot 1 is 2 at generation 0
-- and 16777218 at generation 1.
use Rattle.std.proofs.Common.{◌≡◌, ℕ, [], ◌∷◌, true, false, true≢false, refl, sym, arith}
use Rattle.std.specs.Prelude.{if◌then◌else◌, ◌==◌}
use Rattle.std.proofs.lemmas.Bool.Decides.{nat_tests}
use Rattle.span_seats.specs.declared.view.HandleView.{HandleView}
use Rattle.span_seats.specs.declared.view.RootView.{RootView}
use Rattle.span_seats.specs.declared.view.SeatView.{SeatView}
use Rattle.span_seats.specs.RootView.{empty_table, IsOpenIn, has_number, handle_count, stored, with_number, without_number, closed_words}
use Rattle.span_seats.specs.inside.WellFormed.{times_given}
use Rattle.span_seats.specs.inside.SeatView.{first_view, handle_seat, root_after_split, handle_of_split, root_after_join}
use Rattle.span_seats.specs.OpenSpans.{OpenSpans, IsSound, IsAdded, IsCloned, IsReleased, Agree}
use Rattle.span_seats.proofs.Agreed.{made_agrees, added_agrees}

abbrev handle : ℕ → ℕ → HandleView
handle id number = record { id = id; number = number }

-- the span in slot 1 is open, and has two handles
abbrev opened : RootView
opened = with_number (with_number (stored (empty_table 2) 1 1))

two_handles : opened ≡ record { handles = handle 2 1 ∷ handle 2 0 ∷ []; next_number = 2; words = 0 ∷ 1 ∷ []; split_id = 2 }
two_handles = refl

open_at_generation_0 : IsOpenIn opened.words 2
open_at_generation_0 = refl

second_number : has_number 2 1 opened.handles ≡ true
second_number = refl

no_such_number : has_number 2 2 opened.handles ≡ false
no_such_number = refl

number_of_another_id : has_number 1 1 opened.handles ≡ false
number_of_another_id = refl

set_of_two : handle_count 2 opened.handles ≡ 2
set_of_two = refl

empty_set : handle_count 1 opened.handles ≡ 0
empty_set = refl

given_once : times_given 1 opened.handles ≡ 1
given_once = refl

first_leaves : (without_number opened 2 0).handles ≡ handle 2 1 ∷ []
first_leaves = refl

-- both join, and the slot is given at its next generation
abbrev given_again : RootView
given_again = with_number (stored (stored (without_number (without_number opened 2 0) 2 1) 1 0) 1 2)

third_number : given_again ≡ record { handles = handle 16777218 2 ∷ []; next_number = 3; words = 0 ∷ 2 ∷ []; split_id = 16777218 }
third_number = refl

open_at_generation_1 : IsOpenIn given_again.words 16777218
open_at_generation_1 = refl

split_of_a_seat : handle_of_split (first_view 2) ≡ handle_seat (handle 0 0)
split_of_a_seat = refl

-- a join writes down whether the number was found
abbrev one_handle : SeatView
one_handle = root_after_split (first_view 2)

found : (root_after_join one_handle (handle_seat (handle 0 0))).all_found ≡ true
found = refl

not_found : (root_after_join one_handle (handle_seat (handle 0 1))).all_found ≡ false
not_found = refl

closed_slots : closed_words (1 ∷ 1 ∷ 3 ∷ []) (3 ∷ 1 ∷ []) ≡ 0 ∷ 1 ∷ 0 ∷ []
closed_slots = refl

-- a core in which no span is open, and one in which 2 alone is, with so many handles
abbrev none_open : OpenSpans
none_open = record { is_open = λ _. false; handles = λ _. 0 }

abbrev one_open : ℕ → OpenSpans
one_open handles = record { is_open = λ x. 2 == x; handles = λ x. if 2 == x then handles else 0 }

made : Agree (empty_table 2) 2 none_open
made = made_agrees 2 none_open (λ _. refl) (λ _. refl)

none_is_sound : IsSound none_open
none_is_sound = record {
  held = λ id h. absurd (omega arith);
  positive = λ id h. absurd (true≢false (sym h));
  alone = λ a b h. absurd (true≢false (sym h));
}

one_is_sound : IsSound (one_open 1)
one_is_sound = record {
  held = λ id h. grind (arith, nat_tests);
  positive = λ id h. grind (arith, nat_tests);
  alone = λ a b h k e. grind (arith, nat_tests);
}

first_span : IsAdded 2 2 none_open (one_open 1)
first_span = record {
  positive = omega arith;
  slot_in = omega arith;
  free = λ x h. absurd (true≢false (sym h));
  rest = λ x. grind arith;
  one_more = λ x. grind arith;
}

first_agrees : Agree (with_number (stored (empty_table 2) 1 1)) 2 (one_open 1)
first_agrees = added_agrees 2 2 none_open (one_open 1) none_is_sound first_span (empty_table 2) made (stored (empty_table 2) 1 1) (with_number (stored (empty_table 2) 1 1)) refl refl

first_clone : IsCloned 2 (one_open 1) (one_open 2)
first_clone = record { rest = λ x. refl; one_more = λ x. grind (arith, nat_tests) }

last_handle : IsReleased true 2 (2 ∷ []) (one_open 1) none_open
last_handle = record {
  fewer = λ x. grind (arith, nat_tests);
  rest = λ x. grind (arith, nat_tests);
  were = λ x h. grind (arith, nat_tests);
}
