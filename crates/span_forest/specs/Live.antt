-- Which spans are live. No count is used: a span is live through some holder at it or below it.
use Rattle.std.specs.Prelude.{ℕ, Bool, ◌&&◌, filter}
use Rattle.std.specs.List.{list_any}
use Rattle.span_id.specs.Ids.{has}
use Rattle.span_forest.specs.Spans.{Spans}
use Rattle.span_forest.specs.Walk.{walk}
use Rattle.span_forest.specs.Count.{is_held}

-- the span stands on the walk of some span that has a holder
abbrev pub is_live : Spans → ℕ → Bool
is_live spans id = list_any (λ e. is_held e.1 && has (walk spans e.0) id) spans

-- the spans that are live
abbrev pub live_part : Spans → Spans
live_part spans = filter (λ e. is_live spans e.0) spans
