-- What the outlet that keeps lines has of a history.
use Rattle.std.specs.Prelude.{◌≡◌, ℕ, ◌+◌, ◌-◌, ◌^◌, ◌≤◌, List, [], ◌∷◌, ◌++◌, map, flat_map, length, min, slice_get, All, Some, None}
use Rattle.std.specs.List.{enumerate_from}
use Rattle.std.specs.declared.alloc.AllocError.{AllocError}
use Rattle.span_layers.specs.declared.form.Form.{Form}
use Rattle.span_layers.specs.Note.{PlainNote}
use Rattle.span_outlet.specs.Batch.{PlainBatch}
use Rattle.span_outlet.specs.Lines.{PlainLine, line_of}

-- a note, with the number of its batch and its place in it, both from 0
pub record NumberedNote : Type 0 where
  pub batch : ℕ
  pub place : ℕ
  pub note : PlainNote

-- the notes of a batch with this number
abbrev pub numbered_in : ℕ → PlainBatch → List NumberedNote
numbered_in number batch =
    map (λ note. record { batch = number; place = note.0; note = note.1 }) (enumerate_from 0 batch.notes)

-- the notes of batches, the first of which has this number, in order
abbrev pub numbered_from : ℕ → List PlainBatch → List NumberedNote
numbered_from first batches = flat_map (λ batch. numbered_in batch.0 batch.1) (enumerate_from first batches)

-- the notes of a history, in order
abbrev pub numbered : List PlainBatch → List NumberedNote
numbered history = numbered_from 0 history

-- Memory was refused for the text or for the line of the note at this place of the batch of this number.
unfoldable pub LacksMemory : ℕ → ℕ → Type 0
LacksMemory batch place = AllocError

-- (No clause of an allocator tells of it. So it is shut: the proofs of the functions that ask for that memory alone open
-- it, where an error is answered.)

-- Why a note is missed: its layer has no form, more than 2^32 - 1 notes stand before it in its batch, or it lacks memory.
pub data WhyMissed (forms : List Form) (note : NumberedNote) : Type 0 where
  no_form : slice_get forms note.note.layer ≡ None → WhyMissed forms note
  no_place : 2 ^ 32 ≤ note.place → WhyMissed forms note
  no_memory : LacksMemory note.batch note.place → WhyMissed forms note

-- Each of these notes was told or missed, in order: of one that was told there is its line, of one that was
-- missed there is none, and a reason.
pub data AreTold (forms : List Form) : List NumberedNote → List PlainLine → List NumberedNote → Type 0 where
  none : AreTold forms [] [] []
  told : (note : NumberedNote) (line : PlainLine)
      {notes : List NumberedNote} {lines : List PlainLine} {missed : List NumberedNote}
      → line_of forms note.batch (note.place, note.note) ≡ Some line → AreTold forms notes lines missed
      → AreTold forms (note ∷ notes) (line ∷ lines) missed
  missed : (note : NumberedNote) {notes : List NumberedNote} {lines : List PlainLine} {missed : List NumberedNote}
      → WhyMissed forms note → AreTold forms notes lines missed
      → AreTold forms (note ∷ notes) lines (note ∷ missed)

-- the lines of these notes, but for those that were missed, which are counted; the count stays at 2^64 - 1
pub record AreKept (forms : List Form) (notes : List NumberedNote) (lines : List PlainLine) (missed : ℕ) : Type 0 where
  pub missed_notes : List NumberedNote
  pub each : AreTold forms notes lines missed_notes
  pub counted : missed ≡ min (2 ^ 64 - 1) (length missed_notes)

-- More notes: after the lines so far stand those of these notes, but for the ones that were missed, which are
-- counted; the count stays at 2^64 - 1.
pub record GainsLines
    (forms : List Form) (notes : List NumberedNote)
    (lines : List PlainLine) (missed : ℕ) (new_lines : List PlainLine) (new_missed : ℕ)
    : Type 0 where
  pub added : List PlainLine
  pub missed_notes : List NumberedNote
  pub each : AreTold forms notes added missed_notes
  pub lines_are : new_lines ≡ lines ++ added
  pub counted : new_missed ≡ min (2 ^ 64 - 1) (missed + length missed_notes)

-- no line has the batch and the place of the note
abbrev pub HasNoLine : List PlainLine → NumberedNote → Type 0
HasNoLine lines note = All (λ line. (line.batch ≡ note.batch) × (line.place ≡ note.place) → ⊥) lines
