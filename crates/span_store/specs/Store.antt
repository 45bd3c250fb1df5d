-- A store of spans.
use Rattle.std.specs.Prelude.{ℕ}
use Rattle.span_slots.specs.Table.{Table}
use Rattle.span_store.specs.StoredSpan.{StoredSpan}

-- what contracts see of a store: the spans that are there, in a table of slots which decides the next id, and
-- the greatest count
pub record StoreView : Type 0 where
  pub table : Table StoredSpan
  pub max_count : ℕ
