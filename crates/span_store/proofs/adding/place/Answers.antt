use Rattle.std.proofs.Common.{sym, ap, ◌∙◌}
use Rattle.span_slots.specs.Change.{Insert, after}
use Rattle.span_store.specs.inside.Adding.{child_in}
use Rattle.span_store.proofs.Placed.{parent_stays, placed_above, given_below}
use Rattle.span_store.proofs.adding.place.Goals as goal
use Rattle.span_store.proofs.adding.place.Goals.{in-Some, in_default-parent}

pub add_child-requires : goal.add_child-requires
add_child-requires c =
    parent_stays c.args.slots.now c.insert.new.self c.in-Ok.id c.in-Some.parent c.args.entry c.in-Ok.ensures.id c.in-Ok.ensures.vacant c.insert.ensures.change (rw c.in-Some.is at c.requires)

pub returns-clause-table : goal.returns-clause-table
returns-clause-table c =
    elim c.match-parent.branch [
      | in-Some w ↦ rw w.slots-is (placed_above c.args.slots.now c.insert.new.self w.add_child.new.slots c.in-Ok.id w.in-Some.parent c.args.entry c.in-Ok.ensures.id c.in-Ok.ensures.vacant c.insert.ensures.change w.in-Some.is (rw w.in-Some.is at c.requires) w.add_child.ensures)
      | in_default-parent w ↦ rw w.slots-is (c.insert.ensures.change ∙ ap (child_in (after c.args.slots.now (Insert c.args.entry))) (sym w.in_default-parent.is))
    ]

pub returns-clause-issued : goal.returns-clause-issued
returns-clause-issued c = λ other layout.
    given_below c.args.slots.now c.match-parent.slots c.in-Ok.id other c.args.entry c.in-Ok.ensures.id (returns-clause-table c) (c.insert_issues_its_id_alone.ensures.insert c.args.entry other layout)
