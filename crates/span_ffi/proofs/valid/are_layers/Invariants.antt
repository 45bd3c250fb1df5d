use Rattle.std.proofs.Common.{drop}
use Rattle.std.specs.Prelude.{◌↔◌}
use Rattle.span_ffi.specs.Opening.{AreLayers}
use Rattle.span_ffi.proofs.valid.are_layers.Given as goal

abbrev pub invariant-loop-layer : goal.invariant-loop-layer
invariant-loop-layer l = record {
  good : AreLayers l.layers l.rules l.bytes ↔ AreLayers (drop l.layer-index l.layers) l.rules_left l.left;
}
