-- The open spans: a finite map from ids to spans, as pairs by ascending slot.
use Rattle.std.specs.Prelude.{ℕ, ◌≡◌, ◌==◌, cond, List, map, Option, Some, None, IsSome}
use Rattle.span_id.specs.Id.{slot_of}
pub use Rattle.span_slots.specs.Table.{find, with_entry, AreApart}
use Rattle.span_id.specs.declared.fault.Fault.{Fault}
use Rattle.span_id.specs.declared.fault.Fault.TheVariants.{Unknown, Memory}
use Rattle.span_forest.specs.declared.span.Span.{Span}
use Rattle.span_forest.specs.Node.{Node, node_of}

-- pairs of an id and its span
abbrev pub Spans : Type 0
Spans = List (ℕ × Node)

-- a span is open where it is in the map
abbrev pub IsOpen : Spans → ℕ → Type 0
IsOpen spans id = IsSome (find spans id)

-- some open span has the slot
abbrev pub IsOccupied : Spans → ℕ → Type 0
IsOccupied spans slot = (id : ℕ) × IsOpen spans id × (slot_of id ≡ slot)

-- the parent, where there is a span and it has one
abbrev pub parent_in : Option Node → Option ℕ
parent_in None = None
parent_in (Some node) = node.parent

-- the parent of a span, if it is open and has one
abbrev pub parent_of : Spans → ℕ → Option ℕ
parent_of spans id = parent_in (find spans id)

-- the map with a change of one span
abbrev pub with_change : (Node → Node) → Spans → ℕ → Spans
with_change f spans id = map (λ e. (e.0, cond (e.0 == id) (f e.1) e.1)) spans

-- each id with its span as plain values
abbrev pub nodes_of : List (ℕ × Span) → Spans
nodes_of entries = map (λ e. (e.0, node_of e.1)) entries

-- why a call on an open span is refused: the span isn't open, else there was no memory
abbrev pub WhyNotFound : Spans → ℕ → Fault → Type 0
WhyNotFound spans id Unknown = find spans id ≡ None
WhyNotFound spans id Memory = IsOpen spans id
WhyNotFound spans id _ = ⊥
