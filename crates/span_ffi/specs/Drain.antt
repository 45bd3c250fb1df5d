-- What contracts see of the reader behind a handle, and which part of it a call may change.
use Rattle.std.specs.Prelude.{◌≡◌, ℕ, length, Option, Some, None, IsSomeAnd}
use Rattle.span_outlet.specs.LineReader.{LineReaderView}
use Rattle.span_border.specs.declared.status.Status.{Status}
use Rattle.span_ffi.specs.HeadingReader.{HeadingReaderView, TakesHeadings, LeavesNone}

-- the line reader, and where headings are kept the end that gives them out
pub record ReaderView : Type 0 where
  pub lines : LineReaderView
  pub headings : Option HeadingReaderView

-- where headings are kept, those of batches before this number come out, but for what `LeavesNone` lets stay
abbrev pub TakesOut : ℕ → Option HeadingReaderView → Option HeadingReaderView → Type 0
TakesOut before None new = new ≡ None
TakesOut before (Some old) new = IsSomeAnd new (λ after. TakesHeadings before old after × LeavesNone before after)

-- a call on the line reader; the headings of batches that were taken come out
abbrev pub OnLines : (LineReaderView → Status → LineReaderView → Type 0) → ReaderView → Status → ReaderView → Type 0
OnLines Does old status new =
    Does old.lines status new.lines × TakesOut (length new.lines.taken) old.headings new.headings

-- a question to the line reader
abbrev pub AsksLines : (LineReaderView → Status → LineReaderView → Type 0) → ReaderView → Status → ReaderView → Type 0
AsksLines Does old status new = Does old.lines status new.lines × (new.headings ≡ old.headings)
