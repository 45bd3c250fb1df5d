-- How the first line that waits is given out: no public clause cites it.
use Rattle.std.specs.Prelude.{◌≡◌, ℕ, List, [], ◌∷◌, ◌++◌, slice_get, IsSomeAnd}
use Rattle.span_outlet.specs.Lines.{PlainLine}
use Rattle.span_outlet.specs.LineReader.{LineReaderView}
use Rattle.span_border.specs.declared.status.Status.{Status}
use Rattle.span_border.specs.declared.status.Status.TheVariants.{Done, NoLine, ShortBuffer}
use Rattle.span_border.specs.Buffers.{WritesAll}
use Rattle.span_ffi.specs.declared.data.SpanNote.{SpanNote}
use Rattle.span_ffi.specs.declared.data.SpanField.{SpanField}
use Rattle.span_ffi.specs.Details.{Filling}
use Rattle.span_ffi.specs.Notes.{AnswersNoteOf}

-- as `GivesLine`, of the lines that wait already
abbrev pub GivesFirst : ℕ → List ℕ → List ℕ → ℕ → LineReaderView → Status → LineReaderView → Type 0
GivesFirst layer into into' len old Done new =
    (line : PlainLine) × (old ≡ record new { given = old.given; waiting = line ∷ new.waiting })
    × (new.given ≡ old.given ++ line ∷ []) × (layer ≡ line.layer) × WritesAll line.text into Done into' len
GivesFirst layer into into' len old ShortBuffer new =
    (new ≡ old) × IsSomeAnd (slice_get new.waiting 0) (λ line. WritesAll line.text into ShortBuffer into' len)
GivesFirst layer into into' len old NoLine new = (new ≡ old) × (new.waiting ≡ [])
GivesFirst layer into into' len old _ new = ⊥

-- as `GivesNote`, of the lines that wait already
abbrev pub GivesFirstNote : SpanNote → Filling SpanField → Filling ℕ → LineReaderView → Status → LineReaderView → Type 0
GivesFirstNote told fields bytes old Done new =
    (line : PlainLine) × (old ≡ record new { given = old.given; waiting = line ∷ new.waiting })
    × (new.given ≡ old.given ++ line ∷ []) × AnswersNoteOf new line told fields bytes Done
GivesFirstNote told fields bytes old NoLine new = (new ≡ old) × (new.waiting ≡ [])
GivesFirstNote told fields bytes old status new =
    (new ≡ old) × IsSomeAnd (slice_get new.waiting 0) (λ line. AnswersNoteOf new line told fields bytes status)
