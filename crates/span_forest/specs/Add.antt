-- A new span.
use Rattle.std.specs.Prelude.{ℕ, ◌≡◌, ◌<◌, Option, None, IsSomeAnd, MatchOption, drop}
use Rattle.span_slots.specs.Table.{issue, find, with_entry}
use Rattle.span_id.specs.Id.{slot_of}
use Rattle.span_id.specs.declared.fault.Fault.{Fault}
use Rattle.span_id.specs.declared.fault.Fault.TheVariants.{Unknown, CountFull, Full}
use Rattle.span_forest.specs.Node.{Node}
use Rattle.span_forest.specs.Spans.{Spans, IsOpen}
use Rattle.span_forest.specs.Count.{reference_count}
use Rattle.span_forest.specs.Forest.{ForestView, next_span_id}

-- the parent, if there is one, is open and its count may rise
abbrev pub CanHaveChild : Spans → ℕ → Option ℕ → Type 0
CanHaveChild spans max_count parent =
    MatchOption parent (Unit {0}) (λ p. IsOpen spans p × (reference_count spans p < max_count))

-- the forest with one span more under this id, whose slot has given one id more
abbrev pub with_span : ForestView → ℕ → Node → ForestView
with_span forest id node = record forest {
  spans = with_entry forest.spans id node;
  given = issue forest.given (slot_of id);
  freed = drop 1 forest.freed;
}

-- why no span is added: the parent isn't open, else its count is at its greatest, else no slot is free
abbrev pub WhyNotAdded : ForestView → Option ℕ → Fault → Type 0
WhyNotAdded forest parent Unknown = IsSomeAnd parent (λ p. find forest.spans p ≡ None)
WhyNotAdded forest parent CountFull =
    IsSomeAnd parent (λ p. IsOpen forest.spans p × (reference_count forest.spans p ≡ forest.max_count))
WhyNotAdded forest parent Full = CanHaveChild forest.spans forest.max_count parent × (next_span_id forest ≡ None)
WhyNotAdded forest parent _ = ⊥
