-- The version of the interface, and how many bytes each of its structs takes.
use Rattle.std.specs.Prelude.{ℕ}
use Rattle.span_ffi.specs.declared.data.SpanSizes.{SpanSizes}

-- the version of the interface
abbrev pub abi_version : ℕ
abi_version = 3

-- the sizes of the structs, as C lays them out
abbrev pub struct_sizes : SpanSizes
struct_sizes = record {
  limits = 20;
  layer = 12;
  rule = 8;
  meta = 12;
  field = 8;
  found = 24;
  held = 16;
  counts = 40;
}
