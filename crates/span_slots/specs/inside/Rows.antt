-- How the cells of a slot table stand for what contracts see: no public clause cites it. A row is a cell as
-- a pair: how many ids the slot has given, and the value that stands in it under the last of them.
use Rattle.std.specs.Prelude.{ℕ, zero, suc, ◌+◌, ◌-◌, ◌<◌, ◌≤◌, ◌≡◌, Bool, cond, ◌&&◌, ◌==◌, nat_le, List, [], ◌∷◌, length, Option, Some, None, is_none}
use Rattle.span_id.specs.Id.{id_of, slots_in_layout}

module _ {T : Type 0} where
  -- the values of the rows under their ids, where the first row is this slot
  abbrev pub entries_from : ℕ → List (ℕ × Option T) → List (ℕ × T)
  entries_from slot [] = []
  entries_from slot ((given, None) ∷ rest) = entries_from (slot + 1) rest
  entries_from slot ((given, Some value) ∷ rest) = (id_of slot (given - 1), value) ∷ entries_from (slot + 1) rest

  -- the row's slot has given at least one id, and none past the last generation
  abbrev pub IsGoodRow : ℕ → ℕ × Option T → Type 0
  IsGoodRow last row = (0 < row.0) × (row.0 ≤ last + 1)

  -- each row is so
  abbrev pub AreGoodRows : ℕ → List (ℕ × Option T) → Type 0
  AreGoodRows last [] = Unit {0}
  AreGoodRows last (row ∷ rest) = IsGoodRow last row × AreGoodRows last rest

  -- the row's slot may be given again
  abbrev pub is_free : ℕ → ℕ × Option T → Bool
  is_free last row = is_none row.1 && nat_le row.0 last

  -- how many rows may be given again
  abbrev pub free_rows : ℕ → List (ℕ × Option T) → ℕ
  free_rows last [] = 0
  free_rows last (row ∷ rest) = cond (is_free last row) 1 0 + free_rows last rest

  -- 1 where the row at a place may be given again, else 0
  abbrev pub free_at : ℕ → List (ℕ × Option T) → ℕ → ℕ
  free_at last [] k = 0
  free_at last (row ∷ rest) zero = cond (is_free last row) 1 0
  free_at last (row ∷ rest) (suc k) = free_at last rest k

-- how often a slot stands in a list
abbrev pub times_in : ℕ → List ℕ → ℕ
times_in k [] = 0
times_in k (x ∷ xs) = cond (x == k) 1 0 + times_in k xs

-- What is always true of the parts of a table. The freed slots are those whose rows may be given again,
-- each once; and both lists have room for every slot, so that no call grows them.
pub record IsSound {T : Type 0}
    (slots last len room_cells room_freed : ℕ) (rows : List (ℕ × Option T)) (freed : List ℕ)
    : Type 0 where
  pub used : length rows ≤ slots
  pub slots_high : slots ≤ slots_in_layout
  pub last_high : last ≤ 4294967295
  pub good : AreGoodRows last rows
  pub freed_are_free : (k : ℕ) → times_in k freed ≡ free_at last rows k
  pub freed_count : length freed ≡ free_rows last rows
  pub len_is : len ≡ length (entries_from 0 rows)
  pub cells_room : slots ≤ room_cells
  pub freed_room : slots ≤ room_freed
