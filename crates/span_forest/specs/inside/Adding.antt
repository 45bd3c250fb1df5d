-- How a new span comes in, for the functions inside this crate: no public clause cites it.
use Rattle.std.specs.Prelude.{ℕ, ◌≡◌, ◌<◌, List, Option, None, IsSomeAnd, MatchOption}
use Rattle.span_slots.specs.Table.{find}
use Rattle.span_id.specs.declared.fault.Fault.{Fault}
use Rattle.span_id.specs.declared.fault.Fault.TheVariants.{Unknown, CountFull}
use Rattle.span_forest.specs.declared.span.Span.{Span}
use Rattle.span_forest.specs.Spans.{Spans, IsOpen}
use Rattle.span_forest.specs.Count.{reference_count}

-- the first two reasons why no span is added: the parent isn't open, else its count is at its greatest
abbrev pub WhyNoChild : Spans → ℕ → Option ℕ → Fault → Type 0
WhyNoChild spans max_count parent Unknown = IsSomeAnd parent (λ p. find spans p ≡ None)
WhyNoChild spans max_count parent CountFull =
    IsSomeAnd parent (λ p. IsOpen spans p × (reference_count spans p ≡ max_count))
WhyNoChild spans max_count parent _ = ⊥

-- the parent, if there is one, is among the code's spans and its count may rise
abbrev pub HasRoomAbove : List (ℕ × Span) → ℕ → Option ℕ → Type 0
HasRoomAbove entries max_count parent =
    MatchOption parent (Unit {0}) (λ p. IsSomeAnd (find entries p) (λ above. above.count < max_count))

-- one handle alone holds the span
pub record IsNew (span : Span) : Type 0 where
  pub handles : span.handles ≡ 1
  pub entries : span.entries ≡ 0
  pub count : span.count ≡ 1
