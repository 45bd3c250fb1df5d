use Rattle.std.proofs.Common.{◌≤◌, ◌+◌, length, take, drop, All}
use Rattle.span_id.specs.Meta.{plain_fields}
use Rattle.span_ffi.specs.Details.{packed}
use Rattle.span_ffi.specs.inside.Packing.{AreTexts, WritesAt}
use Rattle.span_ffi.proofs.exports.packing.write_fields.Given as goal

abbrev pub invariant-loop-field : goal.invariant-loop-field
invariant-loop-field l = record {
  written : WritesAt (packed (plain_fields (take l.field-index l.fields))) l.at l.initial.into l.into l.end;
  room : l.end + length (packed (plain_fields (drop l.field-index l.fields))) ≤ length l.into;
  texts : All AreTexts (plain_fields (take l.field-index l.fields));
}
