use Rattle.std.proofs.Common.{◌≡◌, drop, map}
use Rattle.span_layers.specs.Rule.{pair_of}
use Rattle.span_script.specs.Operation.{prefix_in, rule_in}
use Rattle.span_script.specs.inside.Lists.{items_in}
use Rattle.span_script.proofs.ValueLists.{all_in, with_rest}
use Rattle.span_script.proofs.rules.all_pairs.Given as goal

abbrev pub invariant-loop-place : goal.invariant-loop-place
invariant-loop-place g l =
    rule_in (g.V.JsonValue.json l.list) ≡ with_rest (map pair_of l.pairs.items) (all_in prefix_in (drop l.place (items_in (g.V.JsonValue.json l.list))))
