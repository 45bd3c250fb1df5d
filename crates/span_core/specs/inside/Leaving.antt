-- What is left of a forest once a holder was given back, for the functions inside this crate: no public clause cites it.
use Rattle.std.specs.Prelude.{ℕ, Bool, if◌then◌else◌, List, []}
use Rattle.span_forest.specs.declared.span.Holder.{Holder}
use Rattle.span_forest.specs.declared.span.Holder.TheVariants.{Entry}
use Rattle.span_forest.specs.Spans.{Spans}
use Rattle.span_forest.specs.Forest.{ForestView}
use Rattle.span_forest.specs.Release.{closing_list, spans_left, freed_after}

-- the forest once a holder of a span was given back, and what nothing holds any longer closed
abbrev pub forest_released : ForestView → ℕ → Holder → ForestView
forest_released forest id holder = record forest {
  spans = spans_left forest.spans id holder;
  freed = freed_after forest.last_generation forest.given forest.freed (closing_list forest.spans id holder);
}

-- the spans that close where a worker leaves a span: none where it stays in its stack
abbrev pub closed_on_exit : Spans → ℕ → Bool → List ℕ
closed_on_exit spans id stays = if stays then [] else closing_list spans id Entry

-- the forest once the worker left it
abbrev pub forest_exited : ForestView → ℕ → Bool → ForestView
forest_exited forest id stays = record forest {
  spans = if stays then forest.spans else spans_left forest.spans id Entry;
  freed = freed_after forest.last_generation forest.given forest.freed (closed_on_exit forest.spans id stays);
}
