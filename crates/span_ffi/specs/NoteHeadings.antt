-- What the call does that tells the heading of the next note.
use Rattle.std.specs.Prelude.{◌≡◌, ◌⊎◌, ℕ, ◌≤◌, ◌<◌, true, false, List, [], ◌∷◌, length, slice_get, is_some, unwrap_or, Option, Some, None, IsSomeAnd}
use Rattle.span_id.specs.declared.fault.Fault.TheVariants.{Unknown, CountFull, Memory}
use Rattle.span_id.specs.Level.{verbosity}
use Rattle.span_id.specs.Meta.{PlainMeta, KeyValue}
use Rattle.span_layers.specs.declared.note.Kind.{Kind}
use Rattle.span_layers.specs.declared.note.Kind.TheVariants.{OnRecord, OnEvent}
use Rattle.span_layers.specs.Note.{PlainNote}
use Rattle.span_outlet.specs.LineReader.{LineReaderView, IsNoteOf}
use Rattle.span_border.specs.declared.status.Status.{Status}
use Rattle.span_border.specs.declared.status.Status.TheVariants.{Done, Refused, BadData, NoLine, ShortBuffer}
use Rattle.span_border.specs.Numbers.{flag, id_number}
use Rattle.span_ffi.specs.declared.data.SpanHeading.{SpanHeading}
use Rattle.span_ffi.specs.declared.headings.About.{About}
use Rattle.span_ffi.specs.declared.headings.About.TheVariants.{Span, Event}
use Rattle.span_ffi.specs.declared.headings.Heading.{Heading}
use Rattle.span_ffi.specs.Details.{packed, texts_fit_in_c, Filling, FillsWith}
use Rattle.span_ffi.specs.Lines.{Fills}
use Rattle.span_ffi.specs.HeadingReader.{HeadingReaderView, TakesHeadings, LeavesNone, heading_of, made_by}
use Rattle.span_ffi.specs.Drain.{ReaderView}

-- where a span was made or an event told: what it hangs under (0: nothing), at which callsite, its meta, and of which
-- kinds the values are that it came with
pub record Origin : Type 0 where
  pub parent : ℕ
  pub callsite : Option ℕ
  pub meta : PlainMeta
  pub kinds : List ℕ

-- that of the span which the heading's call made
abbrev pub span_origin : Heading → About → Option Origin
span_origin heading (Span id parent meta) = Some (record {
  parent = id_number parent;
  callsite = heading.callsite;
  meta = meta;
  kinds = heading.kinds.items;
})
span_origin heading _ = None

-- that of the event which the heading's call told, in this span
abbrev pub event_origin : ℕ → Heading → About → Option Origin
event_origin id heading (Event meta) = Some (record {
  parent = id;
  callsite = heading.callsite;
  meta = meta;
  kinds = heading.kinds.items;
})
event_origin id heading _ = None

-- that of the span which this heading's call made, if there is one
abbrev pub origin_in : Option Heading → Option Origin
origin_in None = None
origin_in (Some heading) = span_origin heading heading.about

-- the same origin, but with these kinds of values
abbrev pub of_kinds : List ℕ → Option Origin → Option Origin
of_kinds kinds None = None
of_kinds kinds (Some origin) = Some (record origin { kinds = kinds })

-- The origin of what a note of this kind is about, where this is the heading of its batch: of an event it stands there,
-- of a span in the heading of the call that made it. A record's kinds are those that were recorded. (A close's fields may
-- be more than its kinds.)
abbrev pub origin_of : Kind → ℕ → Heading → List Heading → Option Origin
origin_of OnEvent id heading headings = event_origin id heading heading.about
origin_of OnRecord id heading headings = of_kinds heading.kinds.items (origin_in (made_by id headings))
origin_of _ id heading headings = origin_in (made_by id headings)

-- a heading in numbers
abbrev pub heading_numbers : ℕ → Origin → SpanHeading
heading_numbers stamp origin = record {
  stamp = stamp;
  parent = origin.parent;
  has_callsite = flag (is_some origin.callsite);
  callsite = unwrap_or origin.callsite 0;
  level = verbosity origin.meta.level;
  name_len = length origin.meta.name;
  target_len = length origin.meta.target;
}

-- the texts of a heading, as one pair: the name and the target
abbrev pub heading_texts : Origin → List KeyValue
heading_texts origin = (origin.meta.name, origin.meta.target) ∷ []

-- what is told of a heading: its numbers, the kinds of the values, and its texts one after another; or only its numbers,
-- and how many kinds and bytes these are, where a buffer is too short for them; or nothing, where a number is too small
abbrev pub AnswersOrigin : ℕ → Origin → SpanHeading → Filling ℕ → Filling ℕ → Status → Type 0
AnswersOrigin stamp origin told kinds bytes Done =
    (texts_fit_in_c (heading_texts origin) ≡ true) × (told ≡ heading_numbers stamp origin)
    × FillsWith origin.kinds kinds × FillsWith (packed (heading_texts origin)) bytes
AnswersOrigin stamp origin told kinds bytes ShortBuffer =
    (texts_fit_in_c (heading_texts origin) ≡ true) × (told ≡ heading_numbers stamp origin)
    × (kinds.len ≡ length origin.kinds) × (bytes.len ≡ length (packed (heading_texts origin)))
    × ((length origin.kinds ≤ length kinds.old) × (length (packed (heading_texts origin)) ≤ length bytes.old) → ⊥)
AnswersOrigin stamp origin told kinds bytes (Refused CountFull) = texts_fit_in_c (heading_texts origin) ≡ false
AnswersOrigin stamp origin told kinds bytes _ = ⊥

-- What is told of a note of a batch once the headings up to the batch's own came out. It isn't at hand where the
-- batch's heading isn't there, and no later one. It's unknown where it was lost, so that a later one stands in the ring,
-- or where the heading of the call that made the span was lost.
abbrev pub AnswersHeading
    : ℕ → PlainNote → HeadingReaderView → SpanHeading → Filling ℕ → Filling ℕ → Status → Type 0
AnswersHeading batch note view told kinds bytes NoLine =
    (heading_of batch view.received ≡ None) × (view.standing ≡ [])
AnswersHeading batch note view told kinds bytes (Refused Unknown) =
    ((heading_of batch view.received ≡ None) × IsSomeAnd (slice_get view.standing 0) (λ later. batch < later.batch))
    ⊎ IsSomeAnd (heading_of batch view.received) (λ heading.
    origin_of note.kind note.id heading view.received ≡ None)
AnswersHeading batch note view told kinds bytes status =
    IsSomeAnd (heading_of batch view.received) (λ heading.
    IsSomeAnd (origin_of note.kind note.id heading view.received) (λ origin.
    AnswersOrigin heading.stamp origin told kinds bytes status))

-- the same of the first line that waits
abbrev pub AnswersFirstHeading
    : LineReaderView → HeadingReaderView → SpanHeading → Filling ℕ → Filling ℕ → Status → Type 0
AnswersFirstHeading lines view told kinds bytes status =
    IsSomeAnd (slice_get lines.waiting 0) (λ line.
    (note : PlainNote) × IsNoteOf lines line note × AnswersHeading line.batch note view told kinds bytes status)

-- the same, or no line waits, or memory was refused to what comes before the next heading, which is of a batch that was
-- taken and stays in the ring
abbrev pub AnswersNextHeading
    : LineReaderView → HeadingReaderView → SpanHeading → Filling ℕ → Filling ℕ → Status → Type 0
AnswersNextHeading lines view told kinds bytes NoLine =
    (lines.waiting ≡ []) ⊎ AnswersFirstHeading lines view told kinds bytes NoLine
AnswersNextHeading lines view told kinds bytes (Refused Memory) =
    IsSomeAnd (slice_get view.standing 0) (λ next. next.batch < length lines.taken)
AnswersNextHeading lines view told kinds bytes status = AnswersFirstHeading lines view told kinds bytes status

-- The heading of the next note is told, which stays the next one. Where no line waits, batches are taken as `GivesNote`
-- takes them. The status says so where no headings are kept, and then nothing changes.
abbrev pub TellsHeading : SpanHeading → Filling ℕ → Filling ℕ → ReaderView → Status → ReaderView → Type 0
TellsHeading told kinds bytes old BadData new = (old.headings ≡ None) × (new ≡ old)
TellsHeading told kinds bytes old status new =
    Fills old.lines new.lines
    × IsSomeAnd old.headings (λ before. IsSomeAnd new.headings (λ view.
    TakesHeadings (length new.lines.taken) before view × LeavesNone (length new.lines.taken) view
    × AnswersNextHeading new.lines view told kinds bytes status))
