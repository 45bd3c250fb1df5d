-- What the layers are told, as it can be said before the call is done, for the functions inside this
-- crate: no public clause cites it.
use Rattle.std.specs.Prelude.{◌≡◌, ℕ, ◌-◌, List, [], ◌∷◌, ◌++◌, length, map, filter, Option, Some, None, IsTrue, IfSome, All, unwrap_or}
use Rattle.std.specs.Arc.{arc_str_bytes}
use Rattle.std.specs.Borrow.{Bor}
use Rattle.std.specs.List.{range_with_len}
use Rattle.span_id.specs.Bits.{has_bit}
use Rattle.span_layers.specs.Note.{PlainNote, EventText}
use Rattle.span_layers.specs.Filter.{Filter}
use Rattle.span_forest.specs.declared.span.Span.{Span as OpenSpan}
use Rattle.span_forest.specs.Node.{node_of}
use Rattle.span_forest.specs.Spans.{Spans, find, IsOpen}
use Rattle.span_forest.specs.Path.{path_text}
use Rattle.span_core.specs.declared.notes.Happening.{Happening}
use Rattle.span_core.specs.declared.notes.paths.SharedPath.{SharedPath}
use Rattle.span_core.specs.declared.notes.paths.SharedPaths.{SharedPaths}
use Rattle.span_core.specs.declared.notes.Subject.{Subject}
use Rattle.span_core.specs.declared.notes.Subject.TheVariants.{Span, NewSpan, Event}
use Rattle.span_core.specs.declared.notes.events.Around.{Around}
use Rattle.span_core.specs.declared.notes.events.Around.TheVariants.{Stack, Parent, Nothing}
use Rattle.span_core.specs.inside.Sound.{hears}
use Rattle.span_core.specs.inside.Summary.{Summarises}
use Rattle.span_core.specs.Happening.{contextual_span, path_at}

-- the spans among which layers look for that of an event
abbrev pub ids_around : Around → List ℕ
ids_around (Stack stack blocks) = stack.now.ids
ids_around (Parent id) = id ∷ []
ids_around Nothing = []

-- the blocks summarise the stack, where it is a stack
abbrev pub AreSummarised : Spans → Around → Type 0
AreSummarised spans (Stack stack blocks) = Summarises spans stack.now.ids blocks.now
AreSummarised spans _ = Unit {0}

-- the same of an event
abbrev pub IsSummarised : Spans → Subject → Type 0
IsSummarised spans (Span id span) = Unit {0}
IsSummarised spans (NewSpan id parent name) = Unit {0}
IsSummarised spans (Event around level message) = AreSummarised spans around

-- this span stands at the place
abbrev pub IsAt : Spans → Option ℕ → Bor OpenSpan → Type 0
IsAt spans place span = IfSome place (λ id. find spans id ≡ Some (node_of span.now))

-- the span to which something happens is open, and is the one in hand; an event has none of its own, and a new span
-- isn't there yet
abbrev pub IsThere : Spans → Subject → Type 0
IsThere spans (Span id span) = IsOpen spans id × IsAt spans (Some id) span
IsThere spans (NewSpan id parent name) = Unit {0}
IsThere spans (Event around level message) = Unit {0}

-- where the path of a layer is read: that of a new span at its parent
abbrev pub place_told : Spans → Subject → ℕ → Option ℕ
place_told spans (Span id span) layer = Some id
place_told spans (NewSpan id parent name) layer = parent
place_told spans (Event around level message) layer = contextual_span spans (ids_around around) layer

-- a span is open where the path of a span or an event is read, and is the one in hand; that of a new span goes on from
-- its parent's
abbrev pub IsReadable : Spans → Subject → Option ℕ → Type 0
IsReadable spans (Span id span) place = IfSome place (IsOpen spans) × IsAt spans place span
IsReadable spans (NewSpan id parent name) place = Unit {0}
IsReadable spans (Event around level message) place = IfSome place (IsOpen spans)

-- the id that a layer is told, which reads its path at this place; where there is none, 0
abbrev pub id_told : Subject → Option ℕ → ℕ
id_told (Span id span) place = unwrap_or place 0
id_told (NewSpan id parent name) place = id
id_told (Event around level message) place = unwrap_or place 0

-- the text of the path that it is told, which has these names where it is read; a new span has its own name too
abbrev pub text_told : Subject → List (List ℕ) → List ℕ
text_told (Span id span) path = path_text path
text_told (NewSpan id parent name) path = path_text (path ++ name.now ∷ [])
text_told (Event around level message) path = path_text path

-- what is known of a text that was told: these layers read it at its place
abbrev pub KnowsPath : (List (List ℕ) → List ℕ) → Spans → SharedPath → Type 0
KnowsPath told spans path =
    (layer : ℕ) → IsTrue (has_bit path.same.0 layer) → arc_str_bytes path.text ≡ told (path_at layer spans path.place)

-- the same of each text that a call has told so far
pub record Knows (told : List (List ℕ) → List ℕ) (spans : Spans) (paths : SharedPaths) : Type 0 where
  pub first : IfSome paths.first (KnowsPath told spans)
  pub further : All (KnowsPath told spans) paths.further.items

-- what an event says
abbrev pub event_said : Subject → Option EventText
event_said (Event around level message) = Some (record { level = level; message = arc_str_bytes message.now })
event_said _ = None

-- what a layer is told
abbrev pub told_to : Spans → Happening → ℕ → PlainNote
told_to spans what layer = record {
  layer = layer;
  kind = what.kind;
  worker = what.worker;
  id = id_told what.subject (place_told spans what.subject layer);
  path = text_told what.subject (path_at layer spans (place_told spans what.subject layer));
  fields = what.fields.now;
  event = event_said what.subject;
}

-- the layers from this number on that this mask has, ascending
unfoldable pub told_from : ℕ → ℕ → List ℕ
told_from mask from = filter (has_bit mask) (range_with_len from (64 - from))

-- what the layers are told, one note for each that is
abbrev pub notes_told : List Filter → Spans → Happening → List PlainNote
notes_told rules spans what =
    map (told_to spans what) (filter (hears rules what.bits.0 what.kind) (range_with_len 0 (length rules)))
