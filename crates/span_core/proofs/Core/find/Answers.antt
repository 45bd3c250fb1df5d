use Rattle.std.proofs.Common.{ap, subst}
use Rattle.std.specs.Prelude.{IfSome}
use Rattle.span_core.specs.World.{World, IsCounted}
use Rattle.span_core.specs.Core.{CoreView}
use Rattle.span_core.proofs.Counted.{found_counted}
use Rattle.span_core.proofs.Core.find.Goals as goal

pub returns-clause-counted : goal.returns-clause-counted
returns-clause-counted g c =
    subst (λ (w : World). IfSome c.find.result (λ s. IsCounted w c.args.id s.now)) (ap (λ (v : CoreView). v.world) c.self.view_is)
    (found_counted c.self.inside.forest.spans _ c.args.id c.find.result c.find.ensures.found c.find.ensures.count c.self.invariant.0.world c.open_spans_are_counted.ensures.positive c.open_spans_are_counted.ensures.parent)
