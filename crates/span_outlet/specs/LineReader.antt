-- What a contract sees of a line reader, and what it does when it takes batches.
use Rattle.std.specs.Prelude.{◌≡◌, ℕ, ◌+◌, List, [], ◌∷◌, ◌++◌, length, slice_get, All, Some, IsSomeAnd}
use Rattle.span_layers.specs.declared.form.Form.{Form}
use Rattle.span_layers.specs.Note.{PlainNote}
use Rattle.span_outlet.specs.Batch.{PlainBatch}
use Rattle.span_outlet.specs.Outlet.{RingName, one_more}
use Rattle.span_outlet.specs.Lines.{PlainLine, line_of}
use Rattle.span_outlet.specs.Kept.{AreKept, GainsLines, numbered, numbered_from}

-- the name of its ring, how often it asked it for batches, the forms in which it writes, the batches that it took,
-- the lines of their notes that it gave out and those that wait, both in order, and how many notes were missed
pub record LineReaderView : Type 0 where
  pub name : RingName
  pub looks : ℕ
  pub forms : List Form
  pub taken : List PlainBatch
  pub given : List PlainLine
  pub waiting : List PlainLine
  pub missed : ℕ

-- More batches were taken, perhaps none, and all their notes were told or missed: after the lines that waited wait
-- those of the notes that were told, in order, and the ones that were missed are counted.
pub record TakesBatches (old new : LineReaderView) : Type 0 where
  pub batches : List PlainBatch
  pub taken : new.taken ≡ old.taken ++ batches
  pub gains : GainsLines old.forms (numbered_from (length old.taken) batches)
      old.waiting old.missed new.waiting new.missed

-- batches are asked for where no line waits, and this is counted; the number stays at 2^64 - 1
abbrev pub looks_of_fill : List PlainLine → ℕ → ℕ
looks_of_fill [] looks = one_more looks
looks_of_fill (_ ∷ _) looks = looks

-- The lines that wait are what is left of all that was taken: those that were given out and they, in this order, are its
-- lines, but for the notes that were missed.
pub record AreLeft (view : LineReaderView) : Type 0 where
  pub kept : AreKept view.forms (numbered view.taken) (view.given ++ view.waiting) view.missed

-- It has given out the lines of this history, each once and in order, but for the notes that were missed.
pub record HasGiven (history : List PlainBatch) (view : LineReaderView) : Type 0 where
  pub kept : AreKept view.forms (numbered history) view.given view.missed

-- No more waits than one batch brought: each line that waits is of the last batch taken.
abbrev pub AreOfLast : LineReaderView → Type 0
AreOfLast view = All (λ line. line.batch + 1 ≡ length view.taken) view.waiting

-- The note has this line: it stands where the line says in one of the batches that were taken, and the line is what is
-- written of it.
abbrev pub IsNoteOf : LineReaderView → PlainLine → PlainNote → Type 0
IsNoteOf view line note =
    IsSomeAnd (slice_get view.taken line.batch) (λ batch. slice_get batch.notes line.place ≡ Some note)
    × (line_of view.forms line.batch (line.place, note) ≡ Some line)
