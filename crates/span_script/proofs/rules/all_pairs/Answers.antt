use Rattle.std.proofs.Common.{rules, refl}
use Rattle.span_script.specs.Operation.{prefix_in}
use Rattle.span_script.specs.inside.Lists.{items_in}
use Rattle.span_script.proofs.ValueLists.{all_left, one_bad, pushed, all_done}
use Rattle.span_script.proofs.rules.all_pairs.Goals as goal

pub loop-place-init : goal.loop-place-init
loop-place-init g c = rw c.in_ok-pairs.ensures.items (all_left prefix_in (g.V.JsonValue.json c.args.list) _ c.in-Some.ensures)

pub returns-in_default-prefix_and_level : goal.returns-in_default-prefix_and_level
returns-in_default-prefix_and_level g c =
    rw (one_bad _ (items_in (g.V.JsonValue.json c.args.list)) c.loop-place.place _ (g.V.JsonValue.json c.item.result) _ (search rules) c.item.ensures (search rules) c.loop-place.invariant) refl

pub loop-place-preserved : goal.loop-place-preserved
loop-place-preserved g c =
    pushed _ _ (items_in (g.V.JsonValue.json c.args.list)) c.loop-place.place _ _ (g.V.JsonValue.json c.item.result) (c.in_ok-from_str.field-0, c.in-Some-prefix_and_level.level) _ (search rules) c.item.ensures (search rules) (search rules) c.loop-place.invariant

pub returns : goal.returns
returns g c = rw (all_done _ (items_in (g.V.JsonValue.json c.args.list)) c.loop-place.place _ _ (search rules) c.loop-place.invariant) refl
