use Rattle.std.proofs.Common.{◌≡◌, true, ◌∷◌, ◌∙◌, List, length, map, take, drop, ap, sym, subst}
use Rattle.std.proofs.lemmas.List.{length-map}
use Rattle.span_id.specs.Meta.{KeyValue, key_value, plain_fields}
use Rattle.span_layers.specs.Note.{plain_note}
use Rattle.span_ffi.specs.Details.{packed, texts_fit_in_c, field_lengths}
use Rattle.span_ffi.specs.Notes.{message_in, note_pairs}
use Rattle.span_ffi.specs.inside.Packing.{WritesAt}
use Rattle.span_ffi.proofs.Packing.{filled}
use Rattle.span_ffi.proofs.exports.notes.tell_note.Goals as goal

pub returns-clause-note : goal.returns-clause-note
returns-clause-note c =
    let note = plain_note c.args.note.now in
    let list = c.as_slice-list.result.now in
    let message = c.message_in-message.result.now in
    let pairs_are : (c.as_str-path.result.now, message) ∷ plain_fields list ≡ note_pairs note =
    ap (λ path. (path, message) ∷ plain_fields list) c.as_str-path.ensures.value
    ∙ (ap (λ text. (note.path, text) ∷ plain_fields list) c.message_in-message.ensures ∙ ap (λ fields. (note.path, message_in note.event) ∷ fields) c.as_slice-list.ensures) in
    let count_is : length list ≡ length (map field_lengths note.fields) =
    sym (length-map list key_value) ∙ (ap length c.as_slice-list.ensures ∙ sym (length-map note.fields field_lengths)) in
    let len_is = c.in-Some.ensures.len ∙ ap (λ ps. length (packed ps)) pairs_are in
    let written =
    subst (λ (ps : List KeyValue). WritesAt (packed ps) 0 c.args.into.now c.write_texts.new.into (length (packed ps))) pairs_are c.write_texts.ensures.written in (
      subst (λ (ps : List KeyValue). texts_fit_in_c ps ≡ true) pairs_are (sym c.in-Some.ensures.exact),
      c.note_numbers.ensures,
      filled c.args.fields.now c.write_lengths.new.into (map field_lengths note.fields) (length list) count_is c.if-list-fields.false
          (c.write_lengths.ensures.lengths ∙ ap (map field_lengths) c.as_slice-list.ensures) c.write_lengths.ensures.behind,
      filled c.args.into.now c.write_texts.new.into (packed (note_pairs note)) c.in-Some.texts len_is c.if-texts-into.false
          (ap (λ n. take n c.write_texts.new.into) len_is ∙ written.1)
          (ap (λ n. drop n c.write_texts.new.into) len_is ∙ (written.2 ∙ ap (λ n. drop n c.args.into.now) (sym len_is))),
    )
