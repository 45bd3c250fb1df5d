use Rattle.std.proofs.Common.{◌≡◌, ◌++◌, drop}
use Rattle.span_id.specs.Meta.{plain_fields}
use Rattle.span_ffi.specs.Data.{AreFields, said_fields}
use Rattle.span_ffi.proofs.reading.add_fields.Given as goal

abbrev pub invariant-loop-item : goal.invariant-loop-item
invariant-loop-item l = record {
  said : plain_fields l.read.items ++ said_fields (drop l.item-index l.fields) l.left
      ≡ plain_fields l.initial.read.items ++ said_fields l.fields l.bytes;
  good : AreFields (drop l.item-index l.fields) l.left → AreFields l.fields l.bytes;
}
