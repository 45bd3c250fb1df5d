use Rattle.std.proofs.Common.{◌≡◌, ◌^◌, ◌∷◌, drop}
use Rattle.span_id.specs.Meta.{plain_fields}
use Rattle.span_ffi.proofs.Packing.{measured}
use Rattle.span_ffi.proofs.exports.packing.texts_len.Given as goal

-- the pass over what is left ends as the pass over all pairs does
abbrev pub invariant-loop-field : goal.invariant-loop-field
invariant-loop-field l = record {
  left : measured (2 ^ 64) l.len (plain_fields (drop l.field-index l.fields)) ≡ measured (2 ^ 64) 0 ((l.first, l.second) ∷ plain_fields l.fields);
}
