-- Happenings, and the notes that the layers are told of them.
use Rattle.std.specs.Prelude.{ℕ, Bool, ◌&&◌, List, [], ◌∷◌, length, map, filter, flat_map, Option, Some, None, unwrap_or}
use Rattle.std.specs.List.{range_with_len, find as first_that}
use Rattle.std.specs.Option.{option_map_or}
use Rattle.span_id.specs.Bits.{has_bit}
use Rattle.span_id.specs.declared.level.Level.{Level}
use Rattle.span_layers.specs.declared.note.Kind.{Kind}
use Rattle.span_layers.specs.declared.note.Kind.TheVariants.{OnNew, OnRecord, OnEvent, OnEnter, OnExit, OnClose}
use Rattle.span_id.specs.Meta.{KeyValue, PlainMeta}
use Rattle.span_layers.specs.Note.{EventText, PlainNote}
use Rattle.span_layers.specs.Filter.{Filter, layer_wants, admission_set}
use Rattle.span_forest.specs.Spans.{Spans, find}
use Rattle.span_forest.specs.Path.{path, path_text}
use Rattle.span_stack.specs.Stack.{distinct_from_top}
use Rattle.span_outlet.specs.declared.batch.ParentOf.{ParentOf}
use Rattle.span_core.specs.World.{World, stack_of}
use Rattle.span_core.specs.Parent.{spans_around}
use Rattle.span_outlet.specs.Request.{Request, new_span, enter, exit, try_close, record_fields, event, Answer, made, exited, released}

-- the admission set of an open span; 0 where there is none
abbrev pub bits_in : Spans → ℕ → ℕ
bits_in spans id = option_map_or (λ node. node.bits) (find spans id) 0

-- the fields of an open span as they stand; none where there is no such span
abbrev pub fields_in : Spans → ℕ → List KeyValue
fields_in spans id = option_map_or (λ node. node.fields) (find spans id) []

-- What layers may be told of: its kind, the set of the layers that admit the span (of an event: the
-- event), the fields, an event's level and message, the span where each layer sees it, and the open
-- spans among which paths are read.
pub record Happening : Type 0 where
  pub kind : Kind
  pub admitted : ℕ
  pub fields : List KeyValue
  pub event : Option EventText
  pub place : ℕ → Option ℕ
  pub spans : Spans

-- something happens to a span
abbrev pub at_span : Spans → Kind → ℕ → List KeyValue → Happening
at_span spans kind id fields = record {
  kind = kind;
  admitted = bits_in spans id;
  fields = fields;
  event = None;
  place = λ layer. Some id;
  spans = spans;
}

-- a span closes, with all its fields
abbrev pub close_of : Spans → ℕ → Happening
close_of spans id = at_span spans OnClose id (fields_in spans id)

-- where a layer sees an event: at the topmost of these spans, duplicates skipped, that the layer admits
abbrev pub contextual_span : Spans → List ℕ → ℕ → Option ℕ
contextual_span spans stack layer = first_that (λ id. has_bit (bits_in spans id) layer) (distinct_from_top stack)

-- an event that these layers admit, told among these spans
abbrev pub event_at : Spans → List ℕ → ℕ → Level → List ℕ → List KeyValue → Happening
event_at spans stack admitted level message fields = record {
  kind = OnEvent;
  admitted = admitted;
  fields = fields;
  event = Some (record { level = level; message = message });
  place = contextual_span spans stack;
  spans = spans;
}

-- An event is told; the filters are evaluated for the event itself. With a parent of its own it is told as by a worker
-- that is inside that span alone: a layer that doesn't admit the parent sees the event in no span.
abbrev pub event_told : List Filter → World → ℕ → PlainMeta → List ℕ → List KeyValue → ParentOf → Happening
event_told rules world worker meta message fields parent =
    event_at world.spans (spans_around (stack_of world worker) parent) (admission_set rules meta.target meta.level)
    meta.level message fields

-- The happenings of a call, in order. A new span is seen in the world after the call, all else in the
-- world before it; an exit comes before the closes that it causes, and closes come child first.
abbrev pub happenings : List Filter → World → Request → Answer → World → List Happening
happenings rules old (new_span worker meta fields parent) (made id) new = at_span new.spans OnNew id fields ∷ []
happenings rules old (enter worker id) answer new = at_span old.spans OnEnter id [] ∷ []
happenings rules old (exit worker id) (exited closed) new =
    at_span old.spans OnExit id [] ∷ map (close_of old.spans) closed
happenings rules old (try_close worker id) (released closed) new = map (close_of old.spans) closed
happenings rules old (record_fields worker id fields) answer new = at_span old.spans OnRecord id fields ∷ []
happenings rules old (event worker meta message fields parent) answer new =
    event_told rules old worker meta message fields parent ∷ []
happenings rules old _ _ new = []

-- the layer is told of the happening: it is one of those that admit it, and wants notes of that kind
abbrev pub is_told : List Filter → Happening → ℕ → Bool
is_told rules what layer = has_bit what.admitted layer && layer_wants rules layer what.kind

-- the numbers of the layers that are told, ascending
abbrev pub layers_told : List Filter → Happening → List ℕ
layers_told rules what = filter (is_told rules what) (range_with_len 0 (length rules))

-- a layer's path at a place; where there is none, it is empty
abbrev pub path_at : ℕ → Spans → Option ℕ → List (List ℕ)
path_at layer spans None = []
path_at layer spans (Some id) = path layer spans id

-- what a layer is told of a happening that this worker caused; where it sees no span, the id is 0
abbrev pub note_of : ℕ → Happening → ℕ → PlainNote
note_of worker what layer = record {
  layer = layer;
  kind = what.kind;
  worker = worker;
  id = unwrap_or (what.place layer) 0;
  path = path_text (path_at layer what.spans (what.place layer));
  fields = what.fields;
  event = what.event;
}

-- one note for each layer that is told
abbrev pub notes_of : List Filter → ℕ → Happening → List PlainNote
notes_of rules worker what = map (note_of worker what) (layers_told rules what)

-- the notes of several happenings, one happening after the other
abbrev pub notes_of_all : List Filter → ℕ → List Happening → List PlainNote
notes_of_all rules worker whats = flat_map (notes_of rules worker) whats
