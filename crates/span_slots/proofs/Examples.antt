-- Worked cases, computed from the definitions alone.
use Rattle.std.proofs.Common.{◌≡◌, ℕ, true, false, List, [], ◌∷◌, Some, None, refl}
use Rattle.span_slots.specs.Table.{Table, find, id_from, ids_from, next_id, free_count, is_issued, is_occupied, is_retired, is_free}
use Rattle.span_slots.specs.Change.{Change, Insert, Remove, Write, after_all}

-- a table with this many slots and this last generation, after these calls
abbrev table_after : ℕ → ℕ → List (Change ℕ) → Table ℕ
table_after slots last changes =
    after_all (record { slots = slots; last_generation = last; entries = []; given = []; freed = [] }) changes

-- two slots that give one id each: a slot is retired once its value is removed
abbrev two_full : Table ℕ
two_full = table_after 2 0 (Insert 7 ∷ Insert 8 ∷ [])

abbrev two_retired : Table ℕ
two_retired = table_after 2 0 (Insert 7 ∷ Insert 8 ∷ Remove 1 ∷ [])

two_full_entries : two_full.entries ≡ (1, 7) ∷ (2, 8) ∷ []
two_full_entries = refl

two_full_refuses : next_id two_full ≡ None
two_full_refuses = refl

two_retired_entries : two_retired.entries ≡ (2, 8) ∷ []
two_retired_entries = refl

two_retired_finds_nothing : find two_retired.entries 1 ≡ None
two_retired_finds_nothing = refl

two_retired_refuses : next_id two_retired ≡ None
two_retired_refuses = refl

two_retired_slot_is_empty : is_occupied two_retired 0 ≡ false
two_retired_slot_is_empty = refl

two_retired_slot_is_retired : is_retired two_retired 0 ≡ true
two_retired_slot_is_retired = refl

two_retired_has_no_free_slot : free_count two_retired ≡ 0
two_retired_has_no_free_slot = refl

-- three slots that give three ids each: the second one at its generations 0, 1 and 2
abbrev three_at_first : Table ℕ
three_at_first = table_after 3 2 (Insert 10 ∷ Insert 20 ∷ Remove 2 ∷ [])

abbrev three_later : Table ℕ
three_later = table_after 3 2 (Insert 10 ∷ Insert 20 ∷ Remove 2 ∷ Insert 21 ∷ Remove 16777218 ∷ [])

abbrev three_at_last : Table ℕ
three_at_last =
    table_after 3 2 (Insert 10 ∷ Insert 20 ∷ Remove 2 ∷ Insert 21 ∷ Remove 16777218 ∷ Insert 22 ∷ Remove 33554434 ∷ [])

second_generation : next_id three_at_first ≡ Some 16777218
second_generation = refl

first_id_issued : is_issued three_at_first 2 ≡ true
first_id_issued = refl

second_id_not_issued : is_issued three_at_first 16777218 ≡ false
second_id_not_issued = refl

third_generation : next_id three_later ≡ Some 33554434
third_generation = refl

then_the_lowest_unused : next_id three_at_last ≡ Some 3
then_the_lowest_unused = refl

one_free_slot_left : free_count three_at_last ≡ 1
one_free_slot_left = refl

unused_slot_is_free : is_free three_at_last 2 ≡ true
unused_slot_is_free = refl

-- four slots, of which the second and then the first are freed: the first comes first
abbrev four_freed : Table ℕ
four_freed = table_after 4 9 (Insert 1 ∷ Insert 2 ∷ Insert 3 ∷ Remove 2 ∷ Remove 1 ∷ [])

abbrev four_full : Table ℕ
four_full =
    table_after 4 9 (Insert 1 ∷ Insert 2 ∷ Insert 3 ∷ Remove 2 ∷ Remove 1 ∷ Insert 5 ∷ Insert 6 ∷ Insert 7 ∷ [])

newest_first : four_freed.freed ≡ 0 ∷ 1 ∷ []
newest_first = refl

freed_last_comes_first : next_id four_freed ≡ Some 16777217
freed_last_comes_first = refl

three_free_slots : free_count four_freed ≡ 3
three_free_slots = refl

by_ascending_slot : four_full.entries ≡ (16777217, 5) ∷ (16777218, 6) ∷ (3, 3) ∷ (4, 7) ∷ []
by_ascending_slot = refl

-- a walk goes by the slots, whatever the generations
walk_begins_past_the_empty_slot : id_from two_retired.entries 0 ≡ Some 2
walk_begins_past_the_empty_slot = refl

walk_meets_the_slot_itself : id_from two_retired.entries 1 ≡ Some 2
walk_meets_the_slot_itself = refl

walk_ends : id_from two_retired.entries 2 ≡ None
walk_ends = refl

walk_goes_by_slots : ids_from four_full.entries 1 ≡ 16777218 ∷ 3 ∷ 4 ∷ []
walk_goes_by_slots = refl

-- a write changes one value, and one under an absent id none
write_present : (table_after 2 0 (Insert 7 ∷ Insert 8 ∷ Write 2 9 ∷ [])).entries ≡ (1, 7) ∷ (2, 9) ∷ []
write_present = refl

write_absent : table_after 2 0 (Insert 7 ∷ Insert 8 ∷ Write 16777217 9 ∷ []) ≡ two_full
write_absent = refl

-- a call that is refused changes nothing
insert_refused : table_after 2 0 (Insert 7 ∷ Insert 8 ∷ Insert 9 ∷ []) ≡ two_full
insert_refused = refl

remove_refused : table_after 2 0 (Insert 7 ∷ Insert 8 ∷ Remove 16777217 ∷ []) ≡ two_full
remove_refused = refl
