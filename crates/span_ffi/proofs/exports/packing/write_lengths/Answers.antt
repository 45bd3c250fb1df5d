use Rattle.std.proofs.Common.{◌≡◌, ◌<◌, ◌∙◌, true, length, ap, sym, subst, arith}
use Rattle.std.proofs.lemmas.List.{get_or-map, length-map}
use Rattle.span_id.specs.Meta.{KeyValue, key_value, plain_fields}
use Rattle.span_ffi.specs.Details.{are_short}
use Rattle.span_ffi.proofs.Packing.{short_at}
use Rattle.span_ffi.proofs.exports.packing.write_lengths.Goals as goal

pub lengths_of-requires : goal.lengths_of-requires
lengths_of-requires c =
    let xs = c.args.fields.now in
    let k = c.loop-place.place in
    let x = c.index-fields-place.result in
    let within : k < length xs = c.loop-place-test.true in
    let size = length-map xs key_value in
    subst (λ (p : KeyValue). are_short p ≡ true) (get_or-map key_value xs k x (key_value x) within ∙ ap key_value (sym c.index-fields-place.is))
    (short_at (plain_fields xs) k (key_value x) c.requires.short (omega (arith, size, within)))
