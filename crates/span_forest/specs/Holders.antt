-- The holders of a span: so many handles, and so many entries.
use Rattle.std.specs.Prelude.{ℕ, ◌+◌, ◌-◌, ◌<◌, Option, Some, None}
use Rattle.span_forest.specs.declared.span.Holder.{Holder}
use Rattle.span_forest.specs.declared.span.Holder.TheVariants.{Handle, Entry}
use Rattle.span_forest.specs.Node.{Node}
use Rattle.span_slots.specs.Table.{find}
use Rattle.span_forest.specs.Spans.{Spans}

-- how many holders of a kind a span has
abbrev pub held_by : Holder → Node → ℕ
held_by Handle node = node.handles
held_by Entry node = node.entries

-- how many holders of a kind a span has; 0 where there is no span
abbrev pub held_in : Holder → Option Node → ℕ
held_in holder None = 0
held_in holder (Some node) = held_by holder node

-- the span is open and has a holder of this kind
abbrev pub IsHeld : Spans → ℕ → Holder → Type 0
IsHeld spans id holder = 0 < held_in holder (find spans id)

-- the span with one holder of this kind more
abbrev pub with_more : Holder → Node → Node
with_more Handle node = record node { handles = node.handles + 1 }
with_more Entry node = record node { entries = node.entries + 1 }

-- the span with one holder of this kind less, if it has one
abbrev pub with_less : Holder → Node → Node
with_less Handle node = record node { handles = node.handles - 1 }
with_less Entry node = record node { entries = node.entries - 1 }
