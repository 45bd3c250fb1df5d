-- What is told of the spans that are there: which they are, and what holds each.
use Rattle.std.specs.Prelude.{ℕ, List, map}
use Rattle.span_store.specs.declared.details.SpanDetails.{SpanDetails}
use Rattle.span_store.specs.StoredSpan.{StoredSpan}
use Rattle.span_store.specs.StoredSpans.{StoredSpans, children_there, is_closing}

-- its id, its parent, the word that it was made with, its handles, how many spans that are there have it for their
-- parent, and whether it is closing
abbrev pub details_there : StoredSpans → ℕ × StoredSpan → SpanDetails
details_there spans e = record {
  id = e.0;
  parent = e.1.parent;
  word = e.1.word;
  handles = e.1.handles;
  children = children_there spans e.0;
  closing = is_closing spans e.0;
}

-- the same of each span that is there, by ascending slot
abbrev pub all_details : StoredSpans → List SpanDetails
all_details spans = map (details_there spans) spans
