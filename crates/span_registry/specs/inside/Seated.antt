-- What the seats see of a core. No public clause cites it.
use Rattle.span_forest.specs.declared.span.Holder.TheVariants.{Handle}
use Rattle.span_forest.specs.Spans.{Spans, find}
use Rattle.span_forest.specs.Holders.{held_in}
use Rattle.span_seats.specs.declared.view.RootView.{RootView}
use Rattle.span_seats.specs.OpenSpans.{OpenSpans, Agree}
use Rattle.span_core.specs.Step.{is_open}
use Rattle.span_core.specs.Core.{CoreView}

-- which ids are open, and how many handles each has
abbrev pub spans_seen : Spans → OpenSpans
spans_seen spans = record { is_open = λ id. is_open spans id; handles = λ id. held_in Handle (find spans id) }

-- the root of the seats and the core agree
abbrev pub AreSeated : RootView → CoreView → Type 0
AreSeated root core = Agree root core.limits.slots (spans_seen core.world.spans)
