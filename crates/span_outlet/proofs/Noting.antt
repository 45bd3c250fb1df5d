-- Each line that waits has its note among those that are kept.
use Rattle.std.proofs.Common.{◌≡◌, ℕ, ◌+◌, ◌<◌, Option, Some, None, List, [], ◌∷◌, ◌++◌, length, map, get_or, inl, inr, refl, sym, ap, ◌∙◌, subst, arith, append_assoc, length-append}
use Rattle.std.specs.Prelude.{All, slice_get, IsSomeAnd}
use Rattle.std.specs.List.{enumerate_from}
use Rattle.std.specs.Option.{option_map}
use Rattle.std.proofs.lemmas.Bool.{cases_lt}
use Rattle.std.proofs.lemmas.List.{length-map, map-append}
use Rattle.std.proofs.lemmas.Option.{slice_get-get_or, slice_get-map, slice_get_within, slice_get_past, slice_get_read, get_or_from_slice_get}
use Rattle.std.proofs.lemmas.List.Elements.{All-nil, All-cons, All-head, All-tail, All-weaker, All-get_or}
use Rattle.std.proofs.Math.Seq.{get_or-append_seam}
use Rattle.span_layers.specs.declared.form.Form.{Form}
use Rattle.span_layers.specs.declared.note.Note.{Note}
use Rattle.span_layers.specs.Note.{PlainNote, plain_note}
use Rattle.span_outlet.specs.declared.posted.Posted.{Posted}
use Rattle.span_outlet.specs.declared.line.Line.{Line}
use Rattle.span_outlet.specs.Batch.{PlainBatch}
use Rattle.span_outlet.specs.Lines.{PlainLine, plain_line, line_of}
use Rattle.span_outlet.specs.Kept.{NumberedNote, numbered_in, AreTold, GainsLines}
use Rattle.span_outlet.specs.Kept.AreTold.{none, told, missed}
use Rattle.span_outlet.specs.LineReader.{LineReaderView, IsNoteOf}
use Rattle.span_outlet.specs.Posted.{plain_posted}
use Rattle.span_outlet.specs.inside.Reading.{HasItsNote, HaveNotes}
use Rattle.span_outlet.proofs.Apart.{stands_there}

-- what stands behind the first ones
pub seam : {X : Type 0} (xs : List X) (y : X) (ys : List X) → slice_get (xs ++ y ∷ ys) (length xs) ≡ Some y
seam xs y ys =
    let size = length-append xs (y ∷ ys) in
    slice_get-get_or (xs ++ y ∷ ys) (length xs) y (omega (arith, size)) ∙ ap Some (get_or-append_seam xs y ys y)

-- ---- the notes of a batch have their places

abbrev numbered_as : ℕ → ℕ × PlainNote → NumberedNote
numbered_as batch note = record { batch = batch; place = note.0; note = note.1 }

abbrev StandsIn : ℕ → List PlainNote → NumberedNote → Type 0
StandsIn batch notes note = (note.batch ≡ batch) × (slice_get notes note.place ≡ Some note.note)

stand_behind : (batch : ℕ) (front notes : List PlainNote) → All (StandsIn batch (front ++ notes)) (map (numbered_as batch) (enumerate_from (length front) notes))
stand_behind batch front [] = All-nil (StandsIn batch (front ++ []))
stand_behind batch front (note ∷ notes) =
    let whole = front ++ note ∷ notes in
    let one_more : length (front ++ note ∷ []) ≡ length front + 1 = (let size = length-append front (note ∷ []) in omega (arith, size)) in
    let later : All (StandsIn batch whole) (map (numbered_as batch) (enumerate_from (length (front ++ note ∷ [])) notes)) =
    subst (λ all. All (StandsIn batch all) (map (numbered_as batch) (enumerate_from (length (front ++ note ∷ [])) notes))) (append_assoc front (note ∷ []) notes)
    (stand_behind batch (front ++ note ∷ []) notes) in
    All-cons (StandsIn batch whole) (numbered_as batch (length front, note)) (map (numbered_as batch) (enumerate_from (length front + 1) notes))
    (refl, seam front note notes)
    (subst (λ n. All (StandsIn batch whole) (map (numbered_as batch) (enumerate_from n notes))) one_more later)

-- ---- each line has a note

abbrev HasOne : List Form → (NumberedNote → Type 0) → PlainLine → Type 0
HasOne forms P line = (note : NumberedNote) × P note × (line_of forms note.batch (note.place, note.note) ≡ Some line)

each_has : (forms : List Form) (P : NumberedNote → Type 0) {notes : List NumberedNote} {lines : List PlainLine} {xs : List NumberedNote} → AreTold forms notes lines xs
    → All P notes → All (HasOne forms P) lines
each_has forms P none each = All-nil (HasOne forms P)
each_has forms P (told note line {notes = notes} {lines = lines} says rest) each =
    All-cons (HasOne forms P) line lines (note, All-head P note notes each, says) (each_has forms P rest (All-tail P note notes each))
each_has forms P (missed note {notes = notes} why rest) each = each_has forms P rest (All-tail P note notes each)

of_its_batch : (forms : List Form) (taken : List PlainBatch) (notes : List PlainNote) (number : ℕ) (batch : PlainBatch) (line : PlainLine)
    → slice_get taken number ≡ Some batch → batch.notes ≡ notes → HasOne forms (StandsIn number notes) line → HasItsNote forms taken notes line
of_its_batch forms taken notes number batch line got brought has =
    let note = has.0 in
    let at = stands_there note.batch (note.place, note.note) (slice_get forms note.note.layer) line has.2 in
    let batch_is : line.batch ≡ number = at.0 ∙ has.1.0 in
    let from_batch : slice_get taken line.batch ≡ Some batch = ap (slice_get taken) batch_is ∙ got in
    let from_place : slice_get notes line.place ≡ Some note.note = ap (slice_get notes) at.1 ∙ has.1.1 in
    let says : line_of forms line.batch (line.place, note.note) ≡ Some line =
    ap (λ b. line_of forms b (line.place, note.note)) at.0 ∙ ap (λ p. line_of forms note.batch (p, note.note)) at.1 ∙ has.2 in (
      subst (λ found. IsSomeAnd found (λ (b : PlainBatch). b.notes ≡ notes)) (sym from_batch) brought,
      subst (λ found. IsSomeAnd found (λ (n : PlainNote). line_of forms line.batch (line.place, n) ≡ Some line)) (sym from_place) says,
    )

-- the notes of the batch that was taken last, where no line waited
pub of_last_batch : (forms same : List Form) (old new : List Posted) (batch : Posted) (number : ℕ) (lines after : List Line) (some more : ℕ) (notes : List Note)
    → same ≡ forms → lines ≡ [] → number ≡ length old → new ≡ old ++ batch ∷ [] → batch.notes.items ≡ notes
    → GainsLines forms (numbered_in number (plain_posted batch)) (map plain_line lines) some (map plain_line after) more
    → HaveNotes same new notes after
of_last_batch forms same old new batch number lines after some more notes same_is nothing number_is is brought gains =
    let taken : map plain_posted new ≡ map plain_posted old ++ plain_posted batch ∷ [] = ap (map plain_posted) is ∙ map-append plain_posted old (batch ∷ []) in
    let number_there : number ≡ length (map plain_posted old) = number_is ∙ sym (length-map old plain_posted) in
    let got : slice_get (map plain_posted new) number ≡ Some (plain_posted batch) =
    ap (λ bs. slice_get bs number) taken ∙ ap (slice_get (map plain_posted old ++ plain_posted batch ∷ [])) number_there ∙ seam (map plain_posted old) (plain_posted batch) [] in
    let all : map plain_line after ≡ gains.added = gains.lines_are ∙ ap (λ ls. map plain_line ls ++ gains.added) nothing in
    let kept : (plain_posted batch).notes ≡ map plain_note notes = ap (map plain_note) brought in
    let stand : All (StandsIn number (map plain_note notes)) (numbered_in number (plain_posted batch)) =
    subst (λ ns. All (StandsIn number ns) (numbered_in number (plain_posted batch))) kept (stand_behind number [] (plain_posted batch).notes) in
    subst (λ fs. HaveNotes fs new notes after) (sym same_is)
    (subst (All (HasItsNote forms (map plain_posted new) (map plain_note notes))) (sym all)
    (All-weaker (HasOne forms (StandsIn number (map plain_note notes))) (HasItsNote forms (map plain_posted new) (map plain_note notes))
    (λ line has. of_its_batch forms (map plain_posted new) (map plain_note notes) number (plain_posted batch) line got kept has)
    gains.added (each_has forms (StandsIn number (map plain_note notes)) gains.each stand)))

pub none_has : (forms : List Form) (taken : List Posted) (notes : List Note) (lines : List Line) → lines ≡ [] → HaveNotes forms taken notes lines
none_has forms taken notes lines nothing =
    subst (HaveNotes forms taken notes) (sym nothing) (All-nil (HasItsNote forms (map plain_posted taken) (map plain_note notes)))

-- the first line was given out
pub rest_have : (forms : List Form) (taken : List Posted) (notes : List Note) (lines rest : List Line) (line : Line) → lines ≡ line ∷ rest → HaveNotes forms taken notes lines → HaveNotes forms taken notes rest
rest_have forms taken notes lines rest line is have =
    All-tail (HasItsNote forms (map plain_posted taken) (map plain_note notes)) (plain_line line) (map plain_line rest) (subst (HaveNotes forms taken notes) is have)

-- ---- the note of the first line

has_at : (notes : List Note) (place : ℕ) (note : Note) → slice_get notes place ≡ Some note → slice_get (map plain_note notes) place ≡ Some (plain_note note)
has_at notes place note is = slice_get-map plain_note notes place ∙ ap (option_map plain_note) is

is_note_of : (view : LineReaderView) (notes : List Note) (line : PlainLine) (note : Note) → HasItsNote view.forms view.taken (map plain_note notes) line
    → slice_get notes line.place ≡ Some note → IsNoteOf view line (plain_note note)
is_note_of view notes line note has is =
    let at = has_at notes line.place note is in (
      in_batch (slice_get view.taken line.batch) has.0,
      subst (λ found. IsSomeAnd found (λ (n : PlainNote). line_of view.forms line.batch (line.place, n) ≡ Some line)) at has.1,
    )
  where
    in_batch : (found : Option PlainBatch) → IsSomeAnd found (λ b. b.notes ≡ map plain_note notes) → IsSomeAnd found (λ b. slice_get b.notes line.place ≡ Some (plain_note note))
    in_batch None has = has
    in_batch (Some batch) has = ap (λ (ns : List PlainNote). slice_get ns line.place) has ∙ has_at notes line.place note is

module _ (view : LineReaderView) (notes : List Note) (line : PlainLine) (first : slice_get view.waiting 0 ≡ Some line) (have : All (HasItsNote view.forms view.taken (map plain_note notes)) view.waiting) where
  has_first : HasItsNote view.forms view.taken (map plain_note notes) line
  has_first =
      subst (HasItsNote view.forms view.taken (map plain_note notes)) (get_or_from_slice_get view.waiting 0 line line first)
      (All-get_or (HasItsNote view.forms view.taken (map plain_note notes)) view.waiting 0 line (slice_get_within view.waiting 0 line first) have)

  note_of_first : (note : Note) → slice_get notes line.place ≡ Some note → IsSomeAnd (slice_get view.waiting 0) (λ l. IsNoteOf view l (plain_note note))
  note_of_first note is =
      subst (λ found. IsSomeAnd found (λ (l : PlainLine). IsNoteOf view l (plain_note note))) (sym first) (is_note_of view notes line note has_first is)

  first_has_one : slice_get notes line.place ≡ None → ⊥
  first_has_one missing =
      subst (λ found. IsSomeAnd found (λ (n : PlainNote). line_of view.forms line.batch (line.place, n) ≡ Some line))
      (slice_get-map plain_note notes line.place ∙ ap (option_map plain_note) missing) has_first.1

  pub first_within : line.place < length notes
  first_within = elim (cases_lt line.place (length notes)) [
    | inl within ↦ within
    | inr past ↦ absurd (first_has_one (slice_get_past notes line.place past))
  ]

  pub note_read : (note : Note) → note ≡ get_or notes line.place note → IsSomeAnd (slice_get view.waiting 0) (λ l. IsNoteOf view l (plain_note note))
  note_read note is = note_of_first note (slice_get_read notes (length notes) line.place note refl first_within is)
