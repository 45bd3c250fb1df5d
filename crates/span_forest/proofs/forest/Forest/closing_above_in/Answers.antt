use Rattle.span_forest.specs.Spans.{nodes_of}
use Rattle.span_forest.specs.Holders.{IsHeld}
use Rattle.span_forest.proofs.Along.{released_by}
use Rattle.span_forest.specs.Forest.{ForestView}
use Rattle.std.proofs.Common.{subst, sym}
use Rattle.span_forest.proofs.forest.Forest.closing_above_in.Goals as goal

pub returns-clause-list : goal.returns-clause-list
returns-clause-list c =
    let i = c.self.inside in
    let held : IsHeld (nodes_of i.slots.entries) c.args.id c.args.holder =
    subst (λ (v : ForestView). IsHeld v.spans c.args.id c.args.holder) (sym c.self.view_is) c.requires.held in
    rw (← c.self.view_is) (released_by i.slots.entries c.args.id c.args.holder c.in_ok-closed.closed.items c.self.invariant.settled held (c.in_ok-closed.ensures)).list
