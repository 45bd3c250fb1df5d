-- What the call does that tells which spans are there, and what holds each.
use Rattle.std.specs.Prelude.{◌≡◌, ℕ, List, map}
use Rattle.span_id.specs.declared.fault.Fault.TheVariants.{Memory}
use Rattle.span_store.specs.declared.details.SpanDetails.{SpanDetails}
use Rattle.span_store.specs.Details.{all_details}
use Rattle.span_store.specs.Store.{StoreView}
use Rattle.span_border.specs.declared.status.Status.{Status}
use Rattle.span_border.specs.declared.status.Status.TheVariants.{Refused}
use Rattle.span_border.specs.Numbers.{flag, id_number}
use Rattle.span_border.specs.Buffers.{WritesAll}
use Rattle.span_store_ffi.specs.declared.data.SpanStoreDetails.{SpanStoreDetails}

-- what is known of a span that is there, as it is told
abbrev pub details_as : SpanDetails → SpanStoreDetails
details_as details = record {
  id = details.id;
  parent = id_number details.parent;
  word = details.word;
  handles = details.handles;
  children = details.children;
  closing = flag details.closing;
}

-- What is known of all spans that are there goes into a buffer, or memory is refused; nothing changes.
abbrev pub AnswersDetails : List SpanStoreDetails → List SpanStoreDetails → ℕ → StoreView → Status → StoreView → Type 0
AnswersDetails into into' len old (Refused Memory) new = new ≡ old
AnswersDetails into into' len old status new =
    WritesAll (map details_as (all_details old.table.entries)) into status into' len × (new ≡ old)
