-- Worked cases of how a note is told.
use Rattle.std.proofs.Common.{◌≡◌, ℕ, ◌≤◌, true, refl, ap, List, [], ◌∷◌, codes, Some, None, arith}
use Rattle.span_id.specs.declared.fault.Fault.TheVariants.{CountFull}
use Rattle.span_id.specs.declared.level.Level.TheVariants.{Warn}
use Rattle.span_layers.specs.declared.note.Kind.TheVariants.{OnEvent, OnExit}
use Rattle.span_layers.specs.Note.{PlainNote}
use Rattle.span_border.specs.declared.status.Status.TheVariants.{Done, Refused, ShortBuffer}
use Rattle.span_ffi.specs.declared.data.SpanField.{SpanField}
use Rattle.span_ffi.specs.declared.data.SpanNote.{SpanNote}
use Rattle.span_ffi.specs.Details.{packed, texts_fit_in_c, Filling}
use Rattle.span_ffi.specs.Notes.{note_numbers, note_pairs, AnswersNote}

-- an event in an inner span, with a field
abbrev event : PlainNote
event = record {
  layer = 2;
  kind = OnEvent;
  worker = 1;
  id = 5;
  path = codes "ab:c";
  fields = (codes "k", codes "vv") ∷ [];
  event = Some (record { level = Warn; message = codes "hi" });
}

abbrev exit : PlainNote
exit = record { layer = 0; kind = OnExit; worker = 3; id = 5; path = codes "ab"; fields = []; event = None }

abbrev numbers : SpanNote
numbers = record { batch = 7; id = 5; layer = 2; kind = 2; worker = 1; level = 1; path_len = 4; message_len = 2 }

numbers_of_event : note_numbers 7 event ≡ numbers
numbers_of_event = refl

-- it has no level and no message
numbers_of_exit : note_numbers 0 exit ≡ record { batch = 0; id = 5; layer = 0; kind = 4; worker = 3; level = 0; path_len = 2; message_len = 0 }
numbers_of_exit = refl

-- the path, the message, and then the key and its value
texts_of_event : packed (note_pairs event) ≡ codes "ab:chikvv"
texts_of_event = refl

it_fits : texts_fit_in_c (note_pairs event) ≡ true
it_fits = refl

-- ---- into buffers

abbrev field : SpanField
field = record { key_len = 1; value_len = 2 }

abbrev fields_in : List SpanField → List SpanField → ℕ → Filling SpanField
fields_in old new len = record { old = old; new = new; len = len }

abbrev bytes_in : List ℕ → List ℕ → ℕ → Filling ℕ
bytes_in old new len = record { old = old; new = new; len = len }

told : AnswersNote 7 event numbers (fields_in (field ∷ field ∷ []) (field ∷ field ∷ []) 1) (bytes_in (codes ".........+") (codes "ab:chikvv+") 9) Done
told = (refl, refl, (omega arith, refl, refl), (omega arith, refl, refl))

of_another_batch : AnswersNote 8 event numbers (fields_in (field ∷ []) (field ∷ []) 1) (bytes_in (codes ".........") (codes "ab:chikvv") 9) Done → ⊥
of_another_batch tells = let batch : 7 ≡ 8 = ap (λ (note : SpanNote). note.batch) tells.1 in absurd (omega (arith, batch))

short_of_a_byte : AnswersNote 7 event numbers (fields_in (field ∷ []) (field ∷ []) 1) (bytes_in (codes "........") (codes "........") 9) ShortBuffer
short_of_a_byte = (refl, refl, refl, refl, λ fit. let bytes : 9 ≤ 8 = fit.1 in absurd (omega arith))

-- its numbers are told all the same
short_of_another_batch : AnswersNote 8 event numbers (fields_in (field ∷ []) (field ∷ []) 1) (bytes_in (codes "........") (codes "........") 9) ShortBuffer → ⊥
short_of_another_batch tells = let batch : 7 ≡ 8 = ap (λ (note : SpanNote). note.batch) tells.1 in absurd (omega (arith, batch))

short_with_room : AnswersNote 7 event numbers (fields_in (field ∷ []) (field ∷ []) 1) (bytes_in (codes ".........") (codes ".........") 9) ShortBuffer → ⊥
short_with_room tells = tells.4 (omega arith, omega arith)

-- how many bytes there is room for isn't told
room_for_length : AnswersNote 7 event numbers (fields_in [] [] 1) (bytes_in (codes "...") (codes "...") 3) ShortBuffer → ⊥
room_for_length tells = let bytes : 3 ≡ 9 = tells.3 in absurd (omega (arith, bytes))

too_long_for_nothing : AnswersNote 7 event numbers (fields_in [] [] 0) (bytes_in [] [] 0) (Refused CountFull) → ⊥
too_long_for_nothing tells = cc
