use Rattle.std.proofs.Common.{◌≡◌, length, map, take, drop}
use Rattle.span_id.specs.Meta.{plain_fields}
use Rattle.span_ffi.specs.Details.{field_lengths}
use Rattle.span_ffi.proofs.exports.packing.write_lengths.Given as goal

abbrev pub invariant-loop-place : goal.invariant-loop-place
invariant-loop-place l = record {
  head : take l.place l.into ≡ map field_lengths (plain_fields (take l.place l.fields));
  tail : drop l.place l.into ≡ drop l.place l.initial.into;
  len : length l.into ≡ length l.initial.into;
}
