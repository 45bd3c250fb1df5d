use Rattle.std.proofs.Common.{◌≡◌, length, take}
use Rattle.span_id.specs.Meta.{plain_fields}
use Rattle.span_id.proofs.copies.write_fields.Given as goal

abbrev pub invariant-loop-index : goal.invariant-loop-index
invariant-loop-index l = record {
  written : plain_fields (take l.index l.list) ≡ plain_fields (take l.index l.fields);
  as_many : length l.list ≡ length l.fields;
}
