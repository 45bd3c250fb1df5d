-- What is always true of a forest and of the counts that its spans keep: no public clause cites it.
use Rattle.std.specs.Prelude.{ℕ, ◌+◌, ◌-◌, ◌<◌, ◌≤◌, ◌≡◌, List, length, Some}
use Rattle.span_slots.specs.Table.{find}
use Rattle.span_forest.specs.declared.span.Span.{Span}
use Rattle.span_forest.specs.declared.span.Holder.{Holder}
use Rattle.span_forest.specs.declared.span.Holder.TheVariants.{Handle, Entry}
use Rattle.span_forest.specs.Spans.{IsOpen, nodes_of}
use Rattle.span_forest.specs.Count.{reference_count, total_held, total_handles}
use Rattle.span_forest.specs.Forest.{IsForest}

-- the `count` of each span is its reference count
abbrev pub AreCounted : List (ℕ × Span) → Type 0
AreCounted entries =
    (id : ℕ) (span : Span) → find entries id ≡ Some span → span.count ≡ reference_count (nodes_of entries) id

-- a forest in which each count is written and something holds each span
pub record IsSettled (entries : List (ℕ × Span)) : Type 0 where
  pub forest : IsForest (nodes_of entries)
  pub counted : AreCounted entries
  pub positive : (id : ℕ) → IsOpen (nodes_of entries) id → 0 < reference_count (nodes_of entries) id

-- what is true of every forest: it is settled, no count is above the greatest one, and the numbers of all
-- holders and of all handles are written beside it
pub record IsConsistent (entries : List (ℕ × Span)) (max_count total handles : ℕ) : Type 0 where
  pub settled : IsSettled entries
  pub bounded : (id : ℕ) → reference_count (nodes_of entries) id ≤ max_count
  pub total_is : total ≡ total_held (nodes_of entries)
  pub handles_is : handles ≡ total_handles (nodes_of entries)
  pub few : length entries ≤ 4294967295
  pub max_low : 1 ≤ max_count
  pub max_high : max_count ≤ 4294967295

-- the span with one holder less, and with one more; its count tells it too
abbrev pub span_less : Holder → Span → Span
span_less Handle span = record span { handles = span.handles - 1; count = span.count - 1 }
span_less Entry span = record span { entries = span.entries - 1; count = span.count - 1 }

abbrev pub span_more : Holder → Span → Span
span_more Handle span = record span { handles = span.handles + 1; count = span.count + 1 }
span_more Entry span = record span { entries = span.entries + 1; count = span.count + 1 }

-- the span with one child more
abbrev pub counts_more : Span → Span
counts_more span = record span { count = span.count + 1 }

-- how many handles a holder is
abbrev pub handles_in : Holder → ℕ
handles_in Handle = 1
handles_in Entry = 0
