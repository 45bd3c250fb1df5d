-- The release of one holder: it is taken out, and the spans that are no longer live are gone.
use Rattle.std.specs.Prelude.{ℕ, not, List, filter, fold}
use Rattle.span_id.specs.declared.fault.Fault.{Fault}
use Rattle.span_id.specs.declared.fault.Fault.TheVariants.{Unknown, Memory}
use Rattle.span_slots.specs.Table.{freed_with}
use Rattle.span_forest.specs.declared.span.Holder.{Holder}
use Rattle.span_forest.specs.Spans.{Spans, with_change}
use Rattle.span_forest.specs.Walk.{walk}
use Rattle.span_forest.specs.Live.{is_live, live_part}
use Rattle.span_forest.specs.Holders.{IsHeld, with_less}

-- the forest with one holder taken out once
abbrev pub without_holder : Spans → ℕ → Holder → Spans
without_holder spans id holder = with_change (with_less holder) spans id

-- what a release leaves: the spans that are live without the holder
abbrev pub spans_left : Spans → ℕ → Holder → Spans
spans_left spans id holder = live_part (without_holder spans id holder)

-- the spans on the walk of an id that are not live, in the order of the walk
abbrev pub gone_on_walk : Spans → ℕ → List ℕ
gone_on_walk spans id = filter (λ s. not (is_live spans s)) (walk spans id)

-- the closing list: the spans that the release makes go, in the order of the walk, so child first
abbrev pub closing_list : Spans → ℕ → Holder → List ℕ
closing_list spans id holder = gone_on_walk (without_holder spans id holder) id

-- the freed slots after these ids closed one after the other
abbrev pub freed_after : ℕ → List ℕ → List ℕ → List ℕ → List ℕ
freed_after last_generation given freed ids = fold (freed_with last_generation given) freed ids

-- why a release is refused: the span has no holder of this kind, else there was no memory for the list
abbrev pub WhyNotReleased : Spans → ℕ → Holder → Fault → Type 0
WhyNotReleased spans id holder Unknown = IsHeld spans id holder → ⊥
WhyNotReleased spans id holder Memory = IsHeld spans id holder
WhyNotReleased spans id holder _ = ⊥
