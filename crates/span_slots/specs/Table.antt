-- What contracts see of a slot table.
use Rattle.std.specs.Prelude.{◌≡◌, ℕ, ◌+◌, ◌<◌, Bool, cond, not, ◌||◌, ◌==◌, nat_lt, nat_le, List, [], ◌∷◌, ◌++◌, length, map, filter, count_by, Option, Some, None, is_some, IsTrue, slice_index, slice_set, drop, refl}
use Rattle.std.specs.List.{list_any, range_with_len}
use Rattle.std.specs.Option.{option_map}
use Rattle.std.specs.Coded.{Coded, code_by, coded×, coded_ℕ, coded_list}
use Rattle.span_id.specs.Id.{id_of, slot_of, generation_of}

-- How many slots there are, and the generation of the last id of each.
-- The map: the values under their ids, by ascending slot.
-- How many ids each slot has given so far; a slot past the end of the list has given none. A slot gives
-- its ids at the generations 0, 1, 2 and so on, so this says which ids were issued.
-- The slots that were freed and may be given again, the one freed last first.
pub record Table (T : Type 0) : Type 0 where
  pub slots : ℕ
  pub last_generation : ℕ
  pub entries : List (ℕ × T)
  pub given : List ℕ
  pub freed : List ℕ

-- a table and the tuple of its fields stand for each other
abbrev pub table_code : {T : Type 0} → Coded T → Coded (Table T)
table_code {T} code =
    code_by
    (ℕ × (ℕ × (List (ℕ × T) × (List ℕ × List ℕ))))
    (coded× coded_ℕ (coded× coded_ℕ (coded× (coded_list (coded× coded_ℕ code))
    (coded× (coded_list coded_ℕ) (coded_list coded_ℕ)))))
    (λ t. (t.slots, (t.last_generation, (t.entries, (t.given, t.freed)))))
    (λ p. record { slots = p.0; last_generation = p.1.0; entries = p.1.1.0; given = p.1.1.1.0; freed = p.1.1.1.1 })
    (λ _. refl)

-- The slot of the next value: the one freed last, else the lowest that was never used. The slots that
-- were used are the first ones, as many as the second argument says.
abbrev pub next_slot_of : ℕ → ℕ → List ℕ → Option ℕ
next_slot_of slots used [] = cond (nat_lt used slots) (Some used) None
next_slot_of slots used (slot ∷ rest) = Some slot

-- How many ids each slot has given, after one more of this slot. A slot that was never used comes next
-- in the list.
abbrev pub issue : List ℕ → ℕ → List ℕ
issue given slot =
    cond (nat_lt slot (length given)) (slice_set given slot (slice_index given slot + 1)) (given ++ 1 ∷ [])

-- The freed slots after an id is taken out: its slot is the one freed last, unless this was its last id.
abbrev pub freed_with : ℕ → List ℕ → List ℕ → ℕ → List ℕ
freed_with last_generation given freed id =
    cond (nat_le (slice_index given (slot_of id)) last_generation) (slot_of id ∷ freed) freed

-- The value under an id, if there is one.
abbrev pub find : {T : Type 0} → List (ℕ × T) → ℕ → Option T
find [] id = None
find (e ∷ es) id = cond (e.0 == id) (Some e.1) (find es id)

module _ {T : Type 0} where
  -- no id stands twice
  abbrev pub AreApart : List (ℕ × T) → Type 0
  AreApart [] = Unit {0}
  AreApart (e ∷ es) = (find es e.0 ≡ None) × AreApart es

  -- the ids of the entries, by ascending slot
  abbrev pub all_ids : List (ℕ × T) → List ℕ
  all_ids es = map (λ e. e.0) es

  -- the entries with one more, in the order of the slots
  abbrev pub with_entry : List (ℕ × T) → ℕ → T → List (ℕ × T)
  with_entry [] id value = (id, value) ∷ []
  with_entry (e ∷ es) id value =
      cond (nat_lt (slot_of id) (slot_of e.0)) ((id, value) ∷ e ∷ es) (e ∷ with_entry es id value)

  -- the entries but that of an id
  abbrev pub without_entry : List (ℕ × T) → ℕ → List (ℕ × T)
  without_entry es id = filter (λ e. not (e.0 == id)) es

  -- the entries with another value under an id
  abbrev pub with_value : List (ℕ × T) → ℕ → T → List (ℕ × T)
  with_value es id value = map (λ e. (e.0, cond (e.0 == id) value e.1)) es

  -- the first id of the entries, by their slots, from this slot on
  abbrev pub id_from : List (ℕ × T) → ℕ → Option ℕ
  id_from [] slot = None
  id_from (e ∷ es) slot = cond (nat_le slot (slot_of e.0)) (Some e.0) (id_from es slot)

  -- all ids of the entries from this slot on
  abbrev pub ids_from : List (ℕ × T) → ℕ → List ℕ
  ids_from [] slot = []
  ids_from (e ∷ es) slot = cond (nat_le slot (slot_of e.0)) (e.0 ∷ ids_from es slot) (ids_from es slot)

  -- the id was issued: its slot has given its id of that generation
  abbrev pub IsIssued : Table T → ℕ → Type 0
  IsIssued t id = generation_of id < slice_index t.given (slot_of id)

  -- the id was issued, as a test
  abbrev pub is_issued : Table T → ℕ → Bool
  is_issued t id = nat_lt (generation_of id) (slice_index t.given (slot_of id))

  -- a value stands in the slot
  abbrev pub is_occupied : Table T → ℕ → Bool
  is_occupied t slot = list_any (λ e. slot_of e.0 == slot) t.entries

  -- the slot's id of the last generation was issued, so the slot is never given again
  abbrev pub is_retired : Table T → ℕ → Bool
  is_retired t slot = is_issued t (id_of slot t.last_generation)

  -- the slot is neither occupied nor retired
  abbrev pub is_free : Table T → ℕ → Bool
  is_free t slot = not (is_occupied t slot || is_retired t slot)

  -- how many slots are neither occupied nor retired
  abbrev pub free_count : Table T → ℕ
  free_count t = count_by (is_free t) (range_with_len 0 t.slots)

  -- each slot is occupied or retired
  abbrev pub IsFull : Table T → Type 0
  IsFull t = (slot : ℕ) → slot < t.slots → IsTrue (is_occupied t slot || is_retired t slot)

  -- some id of the slot was issued
  abbrev pub IsUsed : Table T → ℕ → Type 0
  IsUsed t slot = IsIssued t (id_of slot 0)

  -- the slot of the next value
  abbrev pub next_slot : Table T → Option ℕ
  next_slot t = next_slot_of t.slots (length t.given) t.freed

  -- the id that a slot gives next
  abbrev pub id_at : Table T → ℕ → ℕ
  id_at t slot = id_of slot (slice_index t.given slot)

  -- the id of the next value
  abbrev pub next_id : Table T → Option ℕ
  next_id t = option_map (id_at t) (next_slot t)

  -- the table with one more value in the next slot, which is this one
  abbrev pub table_inserted : Table T → ℕ → T → Table T
  table_inserted t slot value = record t {
    entries = with_entry t.entries (id_at t slot) value;
    given = issue t.given slot;
    freed = drop 1 t.freed;
  }

  -- the table without the value of an id; it stays as it is where the id has none
  abbrev pub table_removed : Table T → ℕ → Table T
  table_removed t id =
      cond (is_some (find t.entries id))
      (record t { entries = without_entry t.entries id; freed = freed_with t.last_generation t.given t.freed id })
      t
