-- What contracts see of a registry's blanks.
use Rattle.std.specs.Prelude.{ℕ}
use Rattle.span_id.specs.declared.limits.Limits.{Limits}
use Rattle.atomic_table.specs.Seated.{TableId}

-- the limits; the names of the ledgers of handles and of calls, with their parts; and the names of the table of seats
-- and of the history
pub record BlanksView : Type 0 where
  pub limits : Limits
  pub handles : ℕ
  pub handle_parts : ℕ
  pub calls : ℕ
  pub call_parts : ℕ
  pub table : TableId
  pub history : TableId

-- the blanks of a registry: with these limits, of a ledger of handles and one of calls, each with this name and so many
-- parts, and of this table and this history
abbrev pub blanks_of : Limits → ℕ → ℕ → ℕ → ℕ → TableId → TableId → BlanksView
blanks_of limits handles handle_parts calls call_parts table history = record {
  limits = limits;
  handles = handles;
  handle_parts = handle_parts;
  calls = calls;
  call_parts = call_parts;
  table = table;
  history = history;
}
