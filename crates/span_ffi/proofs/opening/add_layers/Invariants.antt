use Rattle.std.proofs.Common.{◌≡◌, ◌++◌, drop}
use Rattle.span_layers.specs.Layers.{filters_in, forms_in}
use Rattle.span_ffi.specs.Opening.{AreLayers, said_filters, said_forms}
use Rattle.span_ffi.proofs.opening.add_layers.Given as goal

abbrev pub invariant-loop-item : goal.invariant-loop-item
invariant-loop-item l = record {
  filters : filters_in l.read ++ said_filters (drop l.item-index l.layers) l.rules_left l.left
      ≡ filters_in l.initial.read ++ said_filters l.layers l.rules l.bytes;
  forms : forms_in l.read ++ said_forms (drop l.item-index l.layers)
      ≡ forms_in l.initial.read ++ said_forms l.layers;
  good : AreLayers (drop l.item-index l.layers) l.rules_left l.left → AreLayers l.layers l.rules l.bytes;
}
