-- A span as contracts see it.
use Rattle.std.specs.Prelude.{ℕ, Option}
use Rattle.span_store.specs.declared.entry.Entry.{Entry}

-- a span: its parent, how many handles hold it, and the bits and the word that it was made with
pub record StoredSpan : Type 0 where
  pub parent : Option ℕ
  pub handles : ℕ
  pub bits : ℕ
  pub word : ℕ

-- a span as plain values. How many children it has is not among them: the parents of the other spans tell that.
abbrev pub plain_entry : Entry → StoredSpan
plain_entry entry = record { parent = entry.parent; handles = entry.handles; bits = entry.bits.0; word = entry.word }

-- a new span has one handle
abbrev pub added_span : Option ℕ → ℕ → ℕ → StoredSpan
added_span parent bits word = record { parent = parent; handles = 1; bits = bits; word = word }

-- the span with so many handles
abbrev pub with_handles : ℕ → StoredSpan → StoredSpan
with_handles handles span = record span { handles = handles }
