-- One more holder of a span is written down.
use Rattle.std.specs.Prelude.{ℕ, ◌≡◌, ◌<◌}
use Rattle.span_id.specs.declared.fault.Fault.{Fault}
use Rattle.span_id.specs.declared.fault.Fault.TheVariants.{Unknown, CountFull}
use Rattle.span_forest.specs.declared.span.Holder.{Holder}
use Rattle.span_forest.specs.declared.span.Holder.TheVariants.{Handle}
use Rattle.span_forest.specs.Spans.{Spans, with_change}
use Rattle.span_forest.specs.Count.{reference_count}
use Rattle.span_forest.specs.Holders.{IsHeld, with_more}

-- the spans, where the one of this id has one holder of this kind more
abbrev pub with_holder : Spans → ℕ → Holder → Spans
with_holder spans id holder = with_change (with_more holder) spans id

-- a holder may come in where the span has a handle and its count isn't at its greatest
abbrev pub CanKeep : Spans → ℕ → ℕ → Type 0
CanKeep spans max_count id = IsHeld spans id Handle × (reference_count spans id < max_count)

-- why no holder comes in: the span has no handle, else its count is at its greatest
abbrev pub WhyNotKept : Spans → ℕ → ℕ → Fault → Type 0
WhyNotKept spans max_count id Unknown = IsHeld spans id Handle → ⊥
WhyNotKept spans max_count id CountFull = IsHeld spans id Handle × (reference_count spans id ≡ max_count)
WhyNotKept spans max_count id _ = ⊥
