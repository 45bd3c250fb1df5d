use Rattle.std.proofs.Common.{◌≡◌, length, take, vec_len}
use Rattle.std.specs.Prelude.{vec_capacity}
use Rattle.span_id.specs.Meta.{plain_fields}
use Rattle.span_id.proofs.copies.copy_fields.Given as goal

abbrev pub invariant-loop-field : goal.invariant-loop-field
invariant-loop-field l = record {
  copied : plain_fields l.copies.items ≡ plain_fields (take l.field-index l.fields);
  made : vec_len l.copies ≡ l.field-index;
  reserved : vec_capacity l.copies ≡ length l.fields;
}
