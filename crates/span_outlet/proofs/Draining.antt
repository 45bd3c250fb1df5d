-- Batches that are taken one by one.
use Rattle.std.proofs.Common.{◌≡◌, ℕ, ◌+◌, ◌-◌, ◌≤◌, List, [], ◌∷◌, ◌++◌, length, map, refl, sym, ap, ◌∙◌, subst, arith, append_assoc}
use mathlib.Core.List.{IsPrefix}
use Rattle.std.proofs.lemmas.List.{append-nil, length-append, length-map, map-append}
use Rattle.std.proofs.lemmas.List.FromFn.{length-enumerate_from}
use Rattle.std.specs.List.{enumerate_from}
use Rattle.span_layers.specs.declared.form.Form.{Form}
use Rattle.span_layers.specs.declared.note.Note.{Note}
use Rattle.span_layers.specs.Note.{plain_note}
use Rattle.span_outlet.specs.declared.posted.Posted.{Posted}
use Rattle.span_outlet.specs.declared.line.Line.{Line}
use Rattle.span_outlet.specs.Batch.{PlainBatch}
use Rattle.span_outlet.specs.Outlet.{RingName}
use Rattle.span_outlet.specs.Lines.{PlainLine, plain_line}
use Rattle.span_outlet.specs.Kept.{NumberedNote, numbered_in, AreTold, GainsLines}
use Rattle.span_outlet.specs.Kept.AreTold.{none, told, missed}
use Rattle.span_outlet.specs.Drain.{TakesBatch}
use Rattle.span_outlet.specs.Posted.{plain_posted}
use Rattle.span_outlet.specs.inside.Taking.{numbered_notes}

-- ---- each note is told or missed

each_once : (forms : List Form) {notes : List NumberedNote} {lines : List PlainLine} {xs : List NumberedNote} → AreTold forms notes lines xs → length lines + length xs ≡ length notes
each_once forms none = refl
each_once forms (told note line says rest) = let later = each_once forms rest in omega (arith, later)
each_once forms (missed note why rest) = let later = each_once forms rest in omega (arith, later)

as_many : (number : ℕ) (notes : List Note) → length (numbered_notes number (map plain_note notes)) ≡ length notes
as_many number notes =
    length-map (enumerate_from 0 (map plain_note notes)) (λ note. record { batch = number; place = note.0; note = note.1 })
    ∙ length-enumerate_from 0 (map plain_note notes) ∙ length-map notes plain_note

-- a batch brings no more lines than it has notes
pub most_gained : (forms : List Form) (number : ℕ) (notes : List Note) (lines after : List Line) (misses more : ℕ)
    → GainsLines forms (numbered_notes number (map plain_note notes)) (map plain_line lines) misses (map plain_line after) more
    → length after ≤ length lines + length notes
most_gained forms number notes lines after misses more gains =
    let all = each_once forms gains.each ∙ as_many number notes in
    let now = sym (length-map after plain_line) ∙ ap length gains.lines_are ∙ length-append (map plain_line lines) gains.added in
    let before = length-map lines plain_line in
    omega (arith, all, now, before)

-- ---- a batch more

pub one_more_taken : (old new : List Posted) (batch : Posted) (number : ℕ) → new ≡ old ++ batch ∷ [] → number ≡ length old → number + 1 ≡ length new
one_more_taken old new batch number is number_is = let len = ap length is ∙ length-append old (batch ∷ []) in omega (arith, len, number_is)

pub batch_taken : (name same : RingName) (forms kept : List Form) (old new : List Posted) (batch : Posted) (number : ℕ) (lines after : List Line) (misses more notes fresh : ℕ)
    → same ≡ name → kept ≡ forms → number ≡ length old → new ≡ old ++ batch ∷ []
    → GainsLines forms (numbered_in number (plain_posted batch)) (map plain_line lines) misses (map plain_line after) more
    → notes ≡ length batch.notes.items → length lines + fresh ≡ length after
    → TakesBatch (record { name = name; forms = forms; taken = map plain_posted old; lines = map plain_line lines; missed = misses })
    (record { name = same; forms = kept; taken = map plain_posted new; lines = map plain_line after; missed = more })
    (record { told = fresh; missed = notes - fresh })
batch_taken name same forms kept old new batch number lines after misses more notes fresh name_is forms_are number_is is gains notes_are counted =
    let before = length-map lines plain_line in
    let now = length-map after plain_line in
    let most = most_gained forms number batch.notes.items lines after misses more gains in
    let plain = length-map batch.notes.items plain_note in
    record {
      batch = plain_posted batch;
      taken = ap (map plain_posted) is ∙ map-append plain_posted old (batch ∷ []);
      gains = subst (λ n. GainsLines forms (numbered_in n (plain_posted batch)) (map plain_line lines) misses (map plain_line after) more) (number_is ∙ sym (length-map old plain_posted)) gains;
      told = omega (arith, before, now, counted);
      missed = omega (arith, counted, most, notes_are, plain);
    }

-- ---- the rest of a ring

pub whole_prefix : {A : Type 0} (xs : List A) → IsPrefix xs xs
whole_prefix xs = ([], append-nil xs)

pub prefix_more : {A : Type 0} (xs ys zs more : List A) → IsPrefix xs ys → zs ≡ ys ++ more → IsPrefix xs zs
prefix_more xs ys zs more front is = (front.0 ++ more, sym (append_assoc xs front.0 more) ∙ ap (λ l. l ++ more) front.1 ∙ sym is)

-- a batch goes from those that stand to those that were taken
pub moved_on : (taken standing more left : List Posted) (batch : Posted) (all : List PlainBatch) → more ≡ taken ++ batch ∷ [] → standing ≡ batch ∷ left
    → map plain_posted (taken ++ standing) ≡ all → map plain_posted (more ++ left) ≡ all
moved_on taken standing more left batch all is was fifo =
    ap (map plain_posted) (ap (λ l. l ++ left) is ∙ append_assoc taken (batch ∷ []) left ∙ ap (λ l. taken ++ l) (sym was)) ∙ fifo
