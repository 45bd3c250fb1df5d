-- No line has the place of a note that was missed.
use Rattle.std.proofs.Common.{◌≡◌, ℕ, ◌+◌, ◌≤◌, Option, Some, None, List, [], ◌∷◌, ◌++◌, map, get_or, refl, sym, ap, subst, ◌∙◌, arith}
use Rattle.std.specs.Prelude.{All, slice_get}
use Rattle.std.specs.List.{enumerate_from}
use Rattle.std.specs.Option.{option_map}
use Rattle.std.proofs.lemmas.Option.{none-some, same_Some}
use Rattle.std.proofs.lemmas.List.Elements.{All-nil, All-cons, All-head, All-tail, All-append, All-weaker}
use Rattle.span_layers.specs.declared.form.Form.{Form}
use Rattle.span_layers.specs.Note.{PlainNote}
use Rattle.span_layers.specs.Text.{text_of}
use Rattle.span_outlet.specs.Batch.{PlainBatch}
use Rattle.span_outlet.specs.declared.line.Line.{Line}
use Rattle.span_outlet.specs.Lines.{PlainLine, plain_line, line_of}
use Rattle.span_outlet.specs.Kept.{NumberedNote, numbered_in, numbered_from, numbered, LacksMemory, WhyMissed, AreTold, HasNoLine}
use Rattle.span_outlet.specs.Kept.WhyMissed.{no_memory}
use Rattle.span_outlet.specs.Kept.AreTold.{none, told, missed}

-- another batch or another place
abbrev IsOther : NumberedNote → ℕ → ℕ → Type 0
IsOther note batch place = (batch ≡ note.batch) × (place ≡ note.place) → ⊥

-- no two of the notes have one batch and place
abbrev AreApart : List NumberedNote → Type 0
AreApart [] = Unit {0}
AreApart (note ∷ notes) = All (λ other. IsOther note other.batch other.place) notes × AreApart notes

-- ---- the line of a note has its batch and its place

pub stands_there : (batch : ℕ) (note : ℕ × PlainNote) (form : Option Form) (line : PlainLine)
    → option_map (λ form. record { batch = batch; place = note.0; layer = note.1.layer; text = text_of form note.1 }) form ≡ Some line → (line.batch ≡ batch) × (line.place ≡ note.0)
stands_there batch note None line says = absurd (none-some line says)
stands_there batch note (Some form) line says =
    let same = same_Some (record { batch = batch; place = note.0; layer = note.1.layer; text = text_of form note.1 }) line says in
    (sym (ap (λ (l : PlainLine). l.batch) same), sym (ap (λ (l : PlainLine). l.place) same))

-- where memory for the line was refused, it was refused for the note
pub lacks_line : (forms : List Form) (note : NumberedNote) (line : Line) → line_of forms note.batch (note.place, note.note) ≡ Some (plain_line line)
    → LacksMemory line.batch line.place → WhyMissed forms note
lacks_line forms note line says refused =
    let at = stands_there note.batch (note.place, note.note) (slice_get forms note.note.layer) (plain_line line) says in
    no_memory (subst (λ batch. LacksMemory batch note.place) at.0 (subst (λ place. LacksMemory line.batch place) at.1 refused))

-- what is true of the place of each note is true of the place of each line, and of each note that was missed
at_each : (forms : List Form) (P : ℕ → ℕ → Type 0) {notes : List NumberedNote} {lines : List PlainLine} {xs : List NumberedNote} → AreTold forms notes lines xs
    → All (λ note. P note.batch note.place) notes → All (λ line. P line.batch line.place) lines × All (λ note. P note.batch note.place) xs
at_each forms P none each = (All-nil (λ line. P line.batch line.place), All-nil (λ note. P note.batch note.place))
at_each forms P (told note line {notes = notes} {lines = lines} says rest) each =
    let at = stands_there note.batch (note.place, note.note) (slice_get forms note.note.layer) line says in
    let later = at_each forms P rest (All-tail (λ n. P n.batch n.place) note notes each) in
    (All-cons (λ l. P l.batch l.place) line lines (rw (at.0, at.1) (All-head (λ n. P n.batch n.place) note notes each)) later.0, later.1)
at_each forms P (missed note {notes = notes} {missed = xs} why rest) each =
    let later = at_each forms P rest (All-tail (λ n. P n.batch n.place) note notes each) in
    (later.0, All-cons (λ n. P n.batch n.place) note xs (All-head (λ n. P n.batch n.place) note notes each) later.1)

no_line : (forms : List Form) {notes : List NumberedNote} {lines : List PlainLine} {xs : List NumberedNote} → AreTold forms notes lines xs → AreApart notes → All (HasNoLine lines) xs
no_line forms none apart = All-nil (HasNoLine [])
no_line forms (told note line {lines = lines} {missed = xs} says rest) apart =
    let at = stands_there note.batch (note.place, note.note) (slice_get forms note.note.layer) line says in
    let others = (at_each forms (IsOther note) rest apart.0).1 in
    let later = no_line forms rest apart.1 in
    λ k d below. All-cons (λ l. (l.batch ≡ (get_or xs k d).batch) × (l.place ≡ (get_or xs k d).place) → ⊥) line lines (λ same. others k d below (sym same.0 ∙ at.0, sym same.1 ∙ at.1)) (later k d below)
no_line forms (missed note {lines = lines} {missed = xs} why rest) apart =
    All-cons (HasNoLine lines) note xs (at_each forms (IsOther note) rest apart.0).0 (no_line forms rest apart.1)

-- ---- the notes of a history have each a batch and a place of its own

apart_append : (xs ys : List NumberedNote) → AreApart xs → AreApart ys → All (λ x. All (λ y. IsOther x y.batch y.place) ys) xs → AreApart (xs ++ ys)
apart_append [] ys first second across = second
apart_append (x ∷ xs) ys first second across =
    (All-append (λ y. IsOther x y.batch y.place) xs ys first.0 (All-head (λ x. All (λ y. IsOther x y.batch y.place) ys) x xs across), apart_append xs ys first.1 second (All-tail (λ x. All (λ y. IsOther x y.batch y.place) ys) x xs across))

numbered_as : ℕ → ℕ × PlainNote → NumberedNote
numbered_as batch note = record { batch = batch; place = note.0; note = note.1 }

from_place : (batch least place : ℕ) (notes : List PlainNote) → least ≤ place → All (λ note. (note.batch ≡ batch) × (least ≤ note.place)) (map (numbered_as batch) (enumerate_from place notes))
unfolding numbered_as
from_place batch least place [] above = All-nil (λ note. (note.batch ≡ batch) × (least ≤ note.place))
from_place batch least place (note ∷ notes) above =
    All-cons (λ n. (n.batch ≡ batch) × (least ≤ n.place)) (record { batch = batch; place = place; note = note }) (map (numbered_as batch) (enumerate_from (place + 1) notes)) (refl, above) (from_place batch least (place + 1) notes (omega (arith, above)))

apart_in_batch : (batch place : ℕ) (notes : List PlainNote) → AreApart (map (numbered_as batch) (enumerate_from place notes))
unfolding numbered_as
apart_in_batch batch place [] = tt
apart_in_batch batch place (note ∷ notes) = (
  All-weaker (λ n. (n.batch ≡ batch) × (place + 1 ≤ n.place)) (λ n. (n.batch ≡ batch) × (n.place ≡ place) → ⊥) (λ n at same. (let above = at.1 in let here = same.1 in omega (arith, above, here)))
      (map (numbered_as batch) (enumerate_from (place + 1) notes)) (from_place batch (place + 1) (place + 1) notes (omega arith)),
  apart_in_batch batch (place + 1) notes,
)

from_batch : (least number : ℕ) (history : List PlainBatch) → least ≤ number → All (λ note. least ≤ note.batch) (numbered_from number history)
unfolding numbered_as
from_batch least number [] above = All-nil (λ note. least ≤ note.batch)
from_batch least number (batch ∷ history) above =
    All-append (λ note. least ≤ note.batch) (numbered_in number batch) (numbered_from (number + 1) history)
    (All-weaker (λ note. (note.batch ≡ number) × (0 ≤ note.place)) (λ note. least ≤ note.batch) (λ note at. (let here = at.0 in omega (arith, above, here))) (numbered_in number batch) (from_place number 0 0 batch.notes (omega arith)))
    (from_batch least (number + 1) history (omega (arith, above)))

apart_from : (number : ℕ) (history : List PlainBatch) → AreApart (numbered_from number history)
unfolding numbered_as
apart_from number [] = tt
apart_from number (batch ∷ history) =
    apart_append (numbered_in number batch) (numbered_from (number + 1) history) (apart_in_batch number 0 batch.notes) (apart_from (number + 1) history)
    (All-weaker (λ x. (x.batch ≡ number) × (0 ≤ x.place)) (λ x. All (λ y. IsOther x y.batch y.place) (numbered_from (number + 1) history))
    (λ x at k d below same. (let later = from_batch (number + 1) (number + 1) history (omega arith) k d below in let here = at.0 in let equal = same.0 in omega (arith, later, here, equal)))
    (numbered_in number batch) (from_place number 0 0 batch.notes (omega arith)))

pub elsewhere : (forms : List Form) (history : List PlainBatch) (lines : List PlainLine) (xs : List NumberedNote) → AreTold forms (numbered history) lines xs → All (HasNoLine lines) xs
elsewhere forms history lines xs each = no_line forms each (apart_from 0 history)

-- the lines of a batch have its number
pub of_one_batch : (forms : List Form) (number : ℕ) (batch : PlainBatch) {lines : List PlainLine} {xs : List NumberedNote} → AreTold forms (numbered_in number batch) lines xs → All (λ line. line.batch ≡ number) lines
unfolding numbered_as
of_one_batch forms number batch each =
    (at_each forms (λ b p. b ≡ number) each
    (All-weaker (λ note. (note.batch ≡ number) × (0 ≤ note.place)) (λ note. note.batch ≡ number) (λ note at. at.0) (numbered_in number batch) (from_place number 0 0 batch.notes (omega arith)))).0
