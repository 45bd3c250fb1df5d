-- Notes that are told one by one.
use Rattle.std.proofs.Common.{◌≡◌, ℕ, ◌+◌, ◌-◌, ◌^◌, ◌<◌, ◌≤◌, Option, Some, List, [], ◌∷◌, ◌++◌, length, map, take, get_or, min, refl, sym, ap, ◌∙◌, subst, arith, append_assoc}
use Rattle.std.specs.Prelude.{flat_map}
use Rattle.std.specs.List.{enumerate_from, filter_map, cons_option}
use Rattle.std.proofs.lemmas.List.{append-nil, length-append, length-map, map-append, get_or-map, take_more, take_all, length-take-le}
use Rattle.std.proofs.lemmas.List.Concat.{flat_map-append}
use Rattle.std.proofs.lemmas.List.Elements.{filter_map-append}
use Rattle.span_layers.specs.declared.form.Form.{Form}
use Rattle.span_layers.specs.declared.note.Note.{Note}
use Rattle.span_layers.specs.Note.{PlainNote, plain_note}
use Rattle.span_outlet.specs.Batch.{PlainBatch}
use Rattle.span_outlet.specs.declared.line.Line.{Line}
use Rattle.span_outlet.specs.Lines.{PlainLine, plain_line, line_of, lines_of_batch, lines_of}
use Rattle.span_outlet.specs.Kept.{NumberedNote, numbered_in, numbered, WhyMissed, AreTold, AreKept, GainsLines}
use Rattle.span_outlet.specs.Kept.AreTold.{none, told, missed}
use Rattle.span_outlet.specs.inside.Taking.{numbered_notes}

-- ---- notes, and then others

told_append : (forms : List Form) {first notes : List NumberedNote} {ls ks : List PlainLine} {xs ys : List NumberedNote}
    → AreTold forms first ls xs → AreTold forms notes ks ys → AreTold forms (first ++ notes) (ls ++ ks) (xs ++ ys)
told_append forms none more = more
told_append forms (told note line says rest) more = told note line says (told_append forms rest more)
told_append forms (missed note why rest) more = missed note why (told_append forms rest more)

-- no note more
pub gains_none : (forms : List Form) (lines : List PlainLine) (misses : ℕ) → misses ≤ 2 ^ 64 - 1 → GainsLines forms [] lines misses lines misses
gains_none forms lines misses low = record { added = []; missed_notes = []; each = none; lines_are = sym (append-nil lines); counted = omega (arith, low) }

-- a note more was told
pub gains_told : (forms : List Form) (lines after : List Line) (misses : ℕ) (note : NumberedNote) (line : Line)
    → line_of forms note.batch (note.place, note.note) ≡ Some (plain_line line) → after ≡ lines ++ line ∷ [] → misses ≤ 2 ^ 64 - 1
    → GainsLines forms (note ∷ []) (map plain_line lines) misses (map plain_line after) misses
gains_told forms lines after misses note line says is low = record {
  added = plain_line line ∷ [];
  missed_notes = [];
  each = told note (plain_line line) says none;
  lines_are = ap (map plain_line) is ∙ map-append plain_line lines (line ∷ []);
  counted = omega (arith, low);
}

-- a note more was missed
pub gains_missed : (forms : List Form) (lines after : List Line) (misses more : ℕ) (note : NumberedNote)
    → WhyMissed forms note → after ≡ lines → more ≡ min (2 ^ 64 - 1) (misses + 1)
    → GainsLines forms (note ∷ []) (map plain_line lines) misses (map plain_line after) more
gains_missed forms lines after misses more note why same is = record {
  added = [];
  missed_notes = note ∷ [];
  each = missed note why none;
  lines_are = ap (map plain_line) same ∙ sym (append-nil (map plain_line lines));
  counted = is;
}

-- notes, and then others
pub gains_more : (forms : List Form) (first notes : List NumberedNote) (lines between after : List PlainLine) (misses some more : ℕ)
    → GainsLines forms first lines misses between some → GainsLines forms notes between some after more → GainsLines forms (first ++ notes) lines misses after more
gains_more forms first notes lines between after misses some more a b = record {
  added = a.added ++ b.added;
  missed_notes = a.missed_notes ++ b.missed_notes;
  each = told_append forms a.each b.each;
  lines_are = b.lines_are ∙ ap (λ ls. ls ++ b.added) a.lines_are ∙ append_assoc lines a.added b.added;
  counted = (let before = a.counted in let now = b.counted in let len = length-append a.missed_notes b.missed_notes in omega (arith, before, now, len));
}

-- what was kept, and notes more
pub kept_more : (forms : List Form) (before notes : List NumberedNote) (lines after : List PlainLine) (misses more : ℕ)
    → AreKept forms before lines misses → GainsLines forms notes lines misses after more → AreKept forms (before ++ notes) after more
kept_more forms before notes lines after misses more kept gains = record {
  missed_notes = kept.missed_notes ++ gains.missed_notes;
  each = subst (λ ls. AreTold forms (before ++ notes) ls (kept.missed_notes ++ gains.missed_notes)) (sym gains.lines_are) (told_append forms kept.each gains.each);
  counted = (let before = kept.counted in let now = gains.counted in let len = length-append kept.missed_notes gains.missed_notes in omega (arith, before, now, len));
}

-- ---- the notes of a batch

enumerated_more : {X : Type 0} (n : ℕ) (xs : List X) (x : X) → enumerate_from n (xs ++ x ∷ []) ≡ enumerate_from n xs ++ (n + length xs, x) ∷ []
enumerated_more {X} n [] x = ap {B = List (ℕ × X)} (λ k. (k, x) ∷ []) (omega arith)
enumerated_more {X} n (y ∷ ys) x =
    ap {B = List (ℕ × X)} (λ l. (n, y) ∷ l) (enumerated_more (n + 1) ys x ∙ ap {B = List (ℕ × X)} (λ k. enumerate_from (n + 1) ys ++ (k, x) ∷ []) (omega arith))

first_more : (batch place : ℕ) (notes : List PlainNote) (note : PlainNote) → place < length notes → get_or notes place note ≡ note
    → numbered_notes batch (take (place + 1) notes) ≡ numbered_notes batch (take place notes) ++ (record { batch = batch; place = place; note = note }) ∷ []
first_more batch place notes note within at =
    let len : length (take place notes) ≡ place = length-take-le place notes (omega arith) in
    let next : take (place + 1) notes ≡ take place notes ++ note ∷ [] = take_more notes place note within ∙ ap (λ n. take place notes ++ n ∷ []) at in
    ap (λ ns. numbered_notes batch ns) next
    ∙ ap (λ ns. map (λ n. record { batch = batch; place = n.0; note = n.1 }) ns) (enumerated_more 0 (take place notes) note ∙ ap {B = List (ℕ × PlainNote)} (λ k. enumerate_from 0 (take place notes) ++ (k, note) ∷ []) (omega (arith, len)))
    ∙ map-append (λ n. record { batch = batch; place = n.0; note = n.1 }) (enumerate_from 0 (take place notes)) ((place, note) ∷ [])

-- ---- a history

abbrev pub numbered_pair : ℕ × PlainBatch → List NumberedNote
numbered_pair batch = numbered_in batch.0 batch.1

pub numbered_more : (history : List PlainBatch) (batch : PlainBatch) → numbered (history ++ batch ∷ []) ≡ numbered history ++ numbered_in (length history) batch
numbered_more history batch =
    ap (flat_map numbered_pair) (enumerated_more 0 history batch ∙ ap {B = List (ℕ × PlainBatch)} (λ k. enumerate_from 0 history ++ (k, batch) ∷ []) (omega arith))
    ∙ flat_map-append numbered_pair (enumerate_from 0 history) ((length history, batch) ∷ [])
    ∙ ap (λ ns. numbered history ++ ns) (append-nil (numbered_in (length history) batch))

-- ---- a loop over the notes of a batch

-- a turn
pub next_gains : (forms same : List Form) (batch place : ℕ) (notes : List Note) (note : Note) (lines between after : List PlainLine) (misses some more : ℕ)
    → same ≡ forms → place < length notes → get_or notes place note ≡ note
    → GainsLines forms (numbered_notes batch (take place (map plain_note notes))) lines misses between some
    → GainsLines same ((record { batch = batch; place = place; note = plain_note note }) ∷ []) between some after more
    → GainsLines forms (numbered_notes batch (take (place + 1) (map plain_note notes))) lines misses after more
next_gains forms same batch place notes note lines between after misses some more is within at gains gained =
    let inside : place < length (map plain_note notes) = rw (length-map notes plain_note) within in
    let here : get_or (map plain_note notes) place (plain_note note) ≡ plain_note note = get_or-map plain_note notes place note (plain_note note) within ∙ ap plain_note at in
    subst (λ ns. GainsLines forms ns lines misses after more) (sym (first_more batch place (map plain_note notes) (plain_note note) inside here))
    (gains_more forms _ _ lines between after misses some more gains
    (subst (λ fs. GainsLines fs ((record { batch = batch; place = place; note = plain_note note }) ∷ []) between some after more) is gained))

-- the end
pub all_gained : (forms : List Form) (batch place : ℕ) (notes : List Note) (lines after : List PlainLine) (misses more : ℕ) → length notes ≤ place
    → GainsLines forms (numbered_notes batch (take place (map plain_note notes))) lines misses after more → GainsLines forms (numbered_notes batch (map plain_note notes)) lines misses after more
all_gained forms batch place notes lines after misses more ends gains =
    subst (λ ns. GainsLines forms (numbered_notes batch ns) lines misses after more) (take_all place (map plain_note notes) (rw (length-map notes plain_note) ends)) gains

-- the notes of a batch, as a slice shows them
pub as_shown : (forms : List Form) (number : ℕ) (shown notes : List Note) (lines after : List PlainLine) (misses more : ℕ) → shown ≡ notes
    → GainsLines forms (numbered_notes number (map plain_note shown)) lines misses after more → GainsLines forms (numbered_notes number (map plain_note notes)) lines misses after more
as_shown forms number shown notes lines after misses more is gains = subst (λ ns. GainsLines forms (numbered_notes number (map plain_note ns)) lines misses after more) is gains

-- nothing was sent yet
pub nothing_kept : {B : Type 0} (plain : B → PlainBatch) (forms : List Form) (sent : List B) (lines : List Line) → sent ≡ [] → lines ≡ [] → AreKept forms (numbered (map plain sent)) (map plain_line lines) 0
nothing_kept plain forms sent lines none_sent no_lines = rw (none_sent, no_lines) (record { missed_notes = []; each = none; counted = refl })

-- a batch more was sent
pub batch_kept : {B : Type 0} (plain : B → PlainBatch) (forms same : List Form) (old new : List B) (batch : B) (number : ℕ) (lines : List PlainLine) (misses : ℕ)
    → same ≡ forms → number ≡ length old → new ≡ old ++ batch ∷ []
    → AreKept forms (numbered (map plain old) ++ numbered_in number (plain batch)) lines misses → AreKept same (numbered (map plain new)) lines misses
batch_kept plain forms same old new batch number lines misses is number_is sent kept =
    let number_of : number ≡ length (map plain old) = number_is ∙ sym (length-map old plain) in
    let notes : numbered (map plain old) ++ numbered_in number (plain batch) ≡ numbered (map plain new) =
    (ap (λ n. numbered (map plain old) ++ numbered_in n (plain batch)) number_of
    ∙ sym (ap numbered (ap (map plain) sent ∙ map-append plain old (batch ∷ [])) ∙ numbered_more (map plain old) (plain batch))) in
    subst (λ fs. AreKept fs (numbered (map plain new)) lines misses) (sym is)
    (subst (λ ns. AreKept forms ns lines misses) notes kept)

-- ---- where no note was missed

line_in : List Form → NumberedNote → Option PlainLine
line_in forms note = line_of forms note.batch (note.place, note.note)

all_told : (forms : List Form) {notes : List NumberedNote} {lines : List PlainLine} {xs : List NumberedNote} → AreTold forms notes lines xs → length xs ≡ 0 → lines ≡ filter_map (line_in forms) notes
unfolding line_in
all_told forms none none_missed = refl
all_told forms (told note line says rest) none_missed = rw says (ap (λ ls. line ∷ ls) (all_told forms rest none_missed))
all_told forms (missed note why rest) none_missed = absurd (omega (arith, none_missed))

lines_in_batch : (forms : List Form) (batch : ℕ) (notes : List (ℕ × PlainNote)) → filter_map (line_in forms) (map (λ note. record { batch = batch; place = note.0; note = note.1 }) notes) ≡ filter_map (line_of forms batch) notes
unfolding line_in
lines_in_batch forms batch [] = refl
lines_in_batch forms batch (note ∷ notes) = ap (cons_option (line_of forms batch note)) (lines_in_batch forms batch notes)

lines_in_batches : (forms : List Form) (batches : List (ℕ × PlainBatch)) → filter_map (line_in forms) (flat_map numbered_pair batches) ≡ flat_map (lines_of_batch forms) batches
lines_in_batches forms [] = refl
lines_in_batches forms (batch ∷ batches) =
    filter_map-append (line_in forms) (numbered_pair batch) (flat_map numbered_pair batches)
    ∙ (λ j. lines_in_batch forms batch.0 (enumerate_from 0 batch.1.notes) j ++ lines_in_batches forms batches j)

-- then the lines are those of the history
pub whole : (forms : List Form) (history : List PlainBatch) (lines : List PlainLine) (misses : ℕ) → AreKept forms (numbered history) lines misses → misses ≡ 0 → lines ≡ lines_of forms history
whole forms history lines misses kept none_missed =
    let counted = kept.counted in
    all_told forms kept.each (omega (arith, counted, none_missed)) ∙ lines_in_batches forms (enumerate_from 0 history)

-- the lines that a batch brought, where no note was missed
pub batch_whole : (forms : List Form) (number : ℕ) (batch : PlainBatch) (lines : List PlainLine) (misses more : ℕ) → GainsLines forms (numbered_in number batch) [] misses lines more → more ≡ 0 → lines ≡ lines_of_batch forms (number, batch)
batch_whole forms number batch lines misses more gains none_missed =
    let counted = gains.counted in
    gains.lines_are ∙ all_told forms gains.each (omega (arith, counted, none_missed)) ∙ lines_in_batch forms number (enumerate_from 0 batch.notes)
