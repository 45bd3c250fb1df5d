use Rattle.std.proofs.Common.{drop}
use Rattle.std.specs.Prelude.{◌↔◌}
use Rattle.span_ffi.specs.Data.{AreFields}
use Rattle.span_ffi.proofs.valid.are_fields.Given as goal

abbrev pub invariant-loop-field : goal.invariant-loop-field
invariant-loop-field l = record { good : AreFields l.fields l.bytes ↔ AreFields (drop l.field-index l.fields) l.left }
