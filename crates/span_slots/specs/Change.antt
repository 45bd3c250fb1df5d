-- The calls that change a slot table, one by one and in any number.
use Rattle.std.specs.Prelude.{ℕ, List, [], ◌∷◌, Option, Some, None}
use Rattle.span_slots.specs.Table.{Table, next_slot, table_inserted, table_removed, with_value}

-- a value more, a value less, and another value under an id
pub data Change (T : Type 0) : Type 0 where
  Insert : T → Change T
  Remove : ℕ → Change T
  Write : ℕ → T → Change T

module _ {T : Type 0} where
  -- the table with one more value in a slot, where there is one
  abbrev pub inserted_in : Table T → T → Option ℕ → Table T
  inserted_in t value None = t
  inserted_in t value (Some slot) = table_inserted t slot value

  -- the table after a call
  abbrev pub after : Table T → Change T → Table T
  after t (Insert value) = inserted_in t value (next_slot t)
  after t (Remove id) = table_removed t id
  after t (Write id value) = record t { entries = with_value t.entries id value }

  -- the table after any number of calls, in their order
  abbrev pub after_all : Table T → List (Change T) → Table T
  after_all t [] = t
  after_all t (change ∷ changes) = after_all (after t change) changes
