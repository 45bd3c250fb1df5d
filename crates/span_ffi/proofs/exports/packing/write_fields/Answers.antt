use Rattle.std.proofs.Common.{◌≡◌, ◌<◌, ◌++◌, ◌∙◌, List, ℕ, All, length, take, ap, sym, subst, string_bytes, take_all, length-append, arith}
use Rattle.std.specs.Str.{IsUtf8}
use Rattle.span_id.specs.declared.meta.Field.{Field}
use Rattle.span_id.specs.Meta.{plain_fields}
use Rattle.span_ffi.specs.Details.{packed}
use Rattle.span_ffi.specs.inside.Packing.{AreTexts, WritesAt}
use Rattle.span_ffi.proofs.Packing.{writes_then, packed_more, texts_more, len_more}
use Rattle.span_ffi.proofs.exports.packing.write_fields.Goals as goal

pub loop-field-preserved : goal.loop-field-preserved
loop-field-preserved c =
    let xs = c.args.fields.now in
    let k = c.loop-field.field-index in
    let x = c.field-item.result in
    let within : k < length xs = c.loop-field-test.true in
    let is = c.field-item.is in
    let end = c.write_pair-end.result in
    let new = c.write_pair-end.new.into in
    let pair = string_bytes x.key ++ string_bytes x.value in
    let both : c.deref.result.now ++ c.deref-in-loop-field.result.now ≡ pair =
    ap (λ v. v ++ c.deref-in-loop-field.result.now) c.deref.ensures ∙ ap (λ v. string_bytes x.key ++ v) c.deref-in-loop-field.ensures in
    let piece = subst (λ (t : List ℕ). WritesAt t c.loop-field.end c.loop-field.into new end) both c.write_pair-end.ensures.written in
    let texts = c.write_pair-end.ensures.utf8 in
    let room = c.loop-field.invariant.room in
    let size = len_more xs k x within is in
    let pair_size = length-append (string_bytes x.key) (string_bytes x.value) in
    let end_is = piece.0 in
    let same_len = c.write_pair-end.auto.into in
    record {
      written = subst (λ (t : List ℕ). WritesAt t c.args.at c.args.into.now new end) (sym (packed_more xs k x within is))
          (writes_then (packed (plain_fields (take k xs))) pair c.args.into.now c.loop-field.into new c.args.at c.loop-field.end end c.loop-field.invariant.written piece);
      room = omega (arith, room, size, pair_size, end_is, same_len);
      texts = texts_more xs k x within is c.loop-field.invariant.texts (subst IsUtf8 c.deref.ensures texts.0, subst IsUtf8 c.deref-in-loop-field.ensures texts.1);
    }

pub returns-clause-utf8 : goal.returns-clause-utf8
returns-clause-utf8 c =
    subst (λ (xs : List Field). All AreTexts (plain_fields xs)) (take_all c.loop-field.field-index c.args.fields.now c.loop-field-test.false) c.loop-field.invariant.texts
