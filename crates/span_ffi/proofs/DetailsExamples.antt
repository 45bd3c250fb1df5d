-- Worked cases of what was said of a span, and of how it is told.
use Rattle.std.proofs.Common.{◌≡◌, ℕ, ◌-◌, ◌^◌, true, false, refl, sym, ap, List, [], ◌∷◌, ◌≤◌, length, get_or, codes, None, arith}
use Rattle.std.specs.Char.{encode_utf8}
use Rattle.span_id.specs.declared.fault.Fault.TheVariants.{Unknown, CountFull, Memory}
use Rattle.span_id.specs.declared.level.Level.TheVariants.{Warn}
use Rattle.span_id.specs.Meta.{KeyValue}
use Rattle.span_forest.specs.Node.{Node}
use Rattle.span_core.specs.Core.{CoreView}
use Rattle.span_core.specs.Details.{meta_of}
use Rattle.span_border.specs.declared.status.Status.TheVariants.{Done, Refused, ShortBuffer, BadData}
use Rattle.span_ffi.specs.declared.data.SpanMeta.{SpanMeta}
use Rattle.span_ffi.specs.declared.data.SpanField.{SpanField}
use Rattle.span_ffi.specs.Data.{said_fields, behind_meta}
use Rattle.span_ffi.specs.Details.{text_pairs, packed, are_short, span_fits_in_c, ReadAsSaid, Filling, FillsWith, AnswersSaid, AnswersWhatWasSaid}

-- a name of two bytes, an empty target, and one field
abbrev node : Node
node = record { name = codes "ab"; target = []; level = Warn; fields = (codes "k", codes "v") ∷ []; bits = 0; parent = None; handles = 1; entries = 0 }

meta_of_it : meta_of node ≡ record { name = codes "ab"; target = []; level = Warn }
meta_of_it = refl

-- the name, the target, and then the key and its value
texts_of_it : packed (text_pairs node) ≡ codes "abkv"
texts_of_it = refl

it_fits : span_fits_in_c node ≡ true
it_fits = refl

abbrev meta : SpanMeta
meta = record { level = 1; name_len = 2; target_len = 0 }

abbrev field : SpanField
field = record { key_len = 1; value_len = 1 }

said_again : ReadAsSaid node meta (field ∷ []) (codes "abkv")
unfolding encode_utf8
said_again = record {
  is_span = record {
    kind_is = omega arith;
    meta_is = record { level = omega arith; name = (omega arith, (codes "ab", (refl, refl))); target = (omega arith, ([], (refl, refl))) };
    fields_are = ((omega arith, (codes "k", (refl, refl))), (omega arith, (codes "v", (refl, refl))), refl);
  };
  same_meta = refl;
  same_fields = refl;
}

-- the first byte of the first value
abbrev value_byte : List KeyValue → ℕ
value_byte [] = 0
value_byte (pair ∷ pairs) = get_or pair.1 0 0

-- the key stands in the place of the value
key_for_value : ReadAsSaid node meta (field ∷ []) (codes "abkk") → ⊥
key_for_value read = let byte : 107 ≡ 118 = ap value_byte read.same_fields in absurd (omega (arith, byte))

-- the name stands in the place of the target
name_for_target : ReadAsSaid node (record { level = 1; name_len = 0; target_len = 2 }) (field ∷ []) (codes "abkv") → ⊥
name_for_target read = let said = ap (λ m. m.name) read.same_meta in cc

-- what was recorded is left out
without_fields : ReadAsSaid node meta [] (codes "ab") → ⊥
without_fields read = let fields = read.same_fields in cc

another_level : ReadAsSaid node (record { level = 0; name_len = 2; target_len = 0 }) (field ∷ []) (codes "abkv") → ⊥
another_level read = let said = ap (λ m. m.level) read.same_meta in cc

-- a span with one field more, and its data with the fields in another order
abbrev of_two_fields : Node
of_two_fields = record node { fields = (codes "k", codes "v") ∷ (codes "q", codes "w") ∷ [] }

another_order : ReadAsSaid of_two_fields meta (field ∷ field ∷ []) (codes "abqwkv") → ⊥
another_order read = let byte : 119 ≡ 118 = ap value_byte read.same_fields in absurd (omega (arith, byte))

-- ---- what numbers can tell

longest_text : (text : List ℕ) → length text ≡ 2 ^ 32 - 1 → are_short (text, []) ≡ true
longest_text text long = rw long refl

longer_text : (text : List ℕ) → length text ≡ 2 ^ 32 → are_short (text, []) ≡ false
longer_text text long = rw long refl

longer_value : (text : List ℕ) → length text ≡ 2 ^ 32 → are_short ([], text) ≡ false
longer_value text long = rw long refl

-- ---- into buffers

abbrev fields_in : List SpanField → List SpanField → ℕ → Filling SpanField
fields_in old new len = record { old = old; new = new; len = len }

abbrev bytes_in : List ℕ → List ℕ → ℕ → Filling ℕ
bytes_in old new len = record { old = old; new = new; len = len }

last_stays : FillsWith (1 ∷ 2 ∷ []) (bytes_in (7 ∷ 8 ∷ 9 ∷ []) (1 ∷ 2 ∷ 9 ∷ []) 2)
last_stays = (omega arith, refl, refl)

last_is_lost : FillsWith (1 ∷ 2 ∷ []) (bytes_in (7 ∷ 8 ∷ 9 ∷ []) (1 ∷ 2 ∷ 3 ∷ []) 2) → ⊥
last_is_lost fills = let last : 3 ≡ 9 = ap (λ (bytes : List ℕ). get_or bytes 2 0) fills.1 in absurd (omega (arith, last))

told : AnswersSaid node meta (fields_in (field ∷ field ∷ []) (field ∷ field ∷ []) 1) (bytes_in (codes "....") (codes "abkv") 4) Done
told = (refl, (field ∷ [], codes "abkv", said_again, (omega arith, refl, refl), (omega arith, refl, refl)))

-- there is no room for the field
done_without_room : AnswersSaid node meta (fields_in [] (field ∷ []) 1) (bytes_in (codes "....") (codes "abkv") 4) Done → ⊥
done_without_room tells =
    let lengths = tells.1.0 in
    let room : length lengths ≤ 0 = tells.1.3.0 in
    let many : 1 ≡ length lengths = tells.1.3.2 in
    absurd (omega (arith, room, many))

short_of_a_byte : AnswersSaid node meta (fields_in (field ∷ []) (field ∷ []) 1) (bytes_in (codes "...") (codes "...") 4) ShortBuffer
short_of_a_byte = (refl, refl, refl, λ fit. let bytes : 4 ≤ 3 = fit.1 in absurd (omega arith))

short_of_a_field : AnswersSaid node meta (fields_in [] [] 1) (bytes_in (codes "....") (codes "....") 4) ShortBuffer
short_of_a_field = (refl, refl, refl, λ fit. let fields : 1 ≤ 0 = fit.0 in absurd (omega arith))

short_with_room : AnswersSaid node meta (fields_in (field ∷ []) (field ∷ []) 1) (bytes_in (codes "....") (codes "....") 4) ShortBuffer → ⊥
short_with_room tells = tells.3 (omega arith, omega arith)

-- how many bytes there is room for isn't told
room_for_length : AnswersSaid node meta (fields_in [] [] 1) (bytes_in (codes "...") (codes "...") 3) ShortBuffer → ⊥
room_for_length tells = let bytes : 3 ≡ 4 = tells.2 in absurd (omega (arith, bytes))

-- nor are fewer fields than there are
wrong_count : AnswersSaid node meta (fields_in [] [] 0) (bytes_in (codes "....") (codes "....") 4) ShortBuffer → ⊥
wrong_count tells = let fields : 0 ≡ 1 = tells.1 in absurd (omega (arith, fields))

too_long_for_nothing : AnswersSaid node meta (fields_in [] [] 0) (bytes_in [] [] 0) (Refused CountFull) → ⊥
too_long_for_nothing tells = cc

bad_data : AnswersSaid node meta (fields_in [] [] 0) (bytes_in [] [] 0) BadData → ⊥
bad_data tells = tells

memory_is_not_short : AnswersSaid node meta (fields_in [] [] 0) (bytes_in [] [] 0) (Refused Memory) → ⊥
memory_is_not_short tells = tells

-- ---- of a registry

abbrev empty : CoreView
empty = record {
  limits = record { slots = 9; last_generation = 9; max_count = 9; workers = 1; ring = 1 };
  rules = [];
  world = record { spans = []; stacks = [] ∷ [] };
  sent = [];
  times_full = 0;
  forms = [];
  name = None;
}

-- no span is open
unknown : AnswersWhatWasSaid 5 meta (fields_in [] [] 0) (bytes_in [] [] 0) empty (Refused Unknown) empty
unknown = (refl, refl)

of_nothing : AnswersWhatWasSaid 5 meta (fields_in [] [] 0) (bytes_in [] [] 0) empty Done empty → ⊥
of_nothing tells = tells.0

-- the spans 5 and 9 are open
abbrev of_two : CoreView
of_two = record empty { world = record { spans = (5, node) ∷ (9, of_two_fields) ∷ []; stacks = [] ∷ [] } }

told_of_five : AnswersWhatWasSaid 5 meta (fields_in (field ∷ field ∷ []) (field ∷ field ∷ []) 1) (bytes_in (codes "....") (codes "abkv") 4) of_two Done of_two
told_of_five = (told, refl)

-- what was said of 5 isn't what was said of 9
of_another : AnswersWhatWasSaid 9 meta (fields_in (field ∷ field ∷ []) (field ∷ field ∷ []) 1) (bytes_in (codes "....") (codes "abkv") 4) of_two Done of_two → ⊥
of_another tells =
    let lengths = tells.0.1.0 in
    let behind = behind_meta meta tells.0.1.1 in
    one_of_two lengths behind tells.0.1.3.2 (sym (ap length tells.0.1.2.same_fields))
  where
    one_of_two : (lengths : List SpanField) (bytes : List ℕ) → 1 ≡ length lengths → 2 ≡ length (said_fields lengths bytes) → ⊥
    one_of_two [] bytes one two = absurd (omega (arith, one))
    one_of_two (a ∷ []) bytes one two = absurd (omega (arith, two))
    one_of_two (a ∷ b ∷ rest) bytes one two = absurd (omega (arith, one))

open_is_known : AnswersWhatWasSaid 5 meta (fields_in [] [] 0) (bytes_in [] [] 0) of_two (Refused Unknown) of_two → ⊥
open_is_known tells = let none = tells.0 in cc
