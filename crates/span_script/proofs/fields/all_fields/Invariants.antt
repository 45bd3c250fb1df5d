use Rattle.std.proofs.Common.{◌≡◌, drop, map}
use Rattle.span_id.specs.Meta.{key_value}
use Rattle.span_script.specs.Operation.{field_in, field_list_in}
use Rattle.span_script.specs.inside.Lists.{items_in}
use Rattle.span_script.proofs.ValueLists.{all_in, with_rest}
use Rattle.span_script.proofs.fields.all_fields.Given as goal

abbrev pub invariant-loop-place : goal.invariant-loop-place
invariant-loop-place g l =
    field_list_in (g.V.JsonValue.json l.list) ≡ with_rest (map key_value l.fields.items) (all_in field_in (drop l.place (items_in (g.V.JsonValue.json l.list))))
