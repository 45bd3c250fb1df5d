-- What is always true of a core's parts. No public clause cites it.
use Rattle.std.specs.Prelude.{◌≡◌, ℕ, ◌<◌, Bool, true, ◌&&◌, List, [], ◌∷◌, ◌++◌, length, slice_index, Option, None}
use Rattle.span_id.specs.declared.limits.Limits.{Limits}
use Rattle.span_id.specs.Id.{slot_of, generation_of, IsId}
use Rattle.span_id.specs.Bits.{has_bit}
use Rattle.span_layers.specs.declared.note.Kind.{Kind}
use Rattle.span_layers.specs.declared.note.Kind.TheVariants.{OnNew}
use Rattle.span_id.specs.Meta.{KeyValue}
use Rattle.span_id.specs.Ids.{has}
use Rattle.span_layers.specs.Note.{PlainNote}
use Rattle.span_layers.specs.Filter.{Filter, layer_wants}
use Rattle.span_forest.specs.Spans.{Spans}
use Rattle.span_forest.specs.Forest.{ForestView}
use Rattle.span_forest.specs.Path.{path_text}
use Rattle.span_core.specs.World.{IsWorld}
use Rattle.span_core.specs.Happening.{path_at}
use Rattle.span_outlet.specs.Batch.{PlainBatch}
use Rattle.span_core.specs.History.{issued, IsLegal}
use Rattle.span_core.specs.NextId.{SlotsUsed, slots_after}

-- the forest of these spans, where so many ids were given and these slots freed
abbrev pub forest_with : Limits → Spans → SlotsUsed → ForestView
forest_with limits spans used = record {
  spans = spans;
  max_count = limits.max_count;
  slots = limits.slots;
  last_generation = limits.last_generation;
  given = used.given;
  freed = used.freed;
}

-- the parts agree: the number of calls is that of the batches sent, the forest has the slots that the
-- history used, each issued id and no other is counted there, each worker has a stack, and the history is
-- legal and leaves this world
pub record IsSound
    (limits : Limits) (forest : ForestView) (stacks : List (List ℕ)) (rules : List Filter) (calls : ℕ)
    (sent : List PlainBatch)
    : Type 0 where
  pub calls_are : calls ≡ length sent
  pub forest_is : forest ≡ forest_with limits forest.spans (slots_after limits.last_generation sent)
  pub counted : (id : ℕ) → has (issued sent) id ≡ true → generation_of id < slice_index forest.given (slot_of id)
  pub given : (id : ℕ) → IsId id → generation_of id < slice_index forest.given (slot_of id)
      → has (issued sent) id ≡ true
  pub stacks_are : length stacks ≡ limits.workers
  pub world : IsWorld (record { spans = forest.spans; stacks = stacks })
  pub legal : IsLegal rules limits.workers sent (record { spans = forest.spans; stacks = stacks })

-- what a layer is told of a new span, as it can be said before the span is there: its path is that of the
-- parent, and its own name
abbrev pub first_note : Spans → ℕ → ℕ → Option ℕ → List ℕ → List KeyValue → ℕ → PlainNote
first_note spans worker id parent name fields layer = record {
  layer = layer;
  kind = OnNew;
  worker = worker;
  id = id;
  path = path_text (path_at layer spans parent ++ name ∷ []);
  fields = fields;
  event = None;
}

-- whether a layer is told: these bits have it, and it wants notes of this kind
abbrev pub hears : List Filter → ℕ → Kind → ℕ → Bool
hears rules bits kind layer = has_bit bits layer && layer_wants rules layer kind
