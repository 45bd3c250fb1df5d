use Rattle.std.proofs.Common.{◌≡◌, Some, refl, sym, ap, ◌∙◌, subst}
use Rattle.std.specs.Prelude.{IsSomeAnd}
use Rattle.span_layers.specs.Filter.{admission_set}
use Rattle.span_forest.specs.Node.{Node, node_of}
use Rattle.span_forest.specs.Spans.{find}
use Rattle.span_ffi.proofs.exports.queries.layers_of.Goals as goal

pub returns-clause-layers : goal.returns-clause-layers
returns-clause-layers c =
    let core = c.args.core.now in
    let node = node_of c.in-Some-find.span.now in
    let found : find core.world.spans c.args.id ≡ Some node = ap (find core.world.spans) (sym c.in-Some.ensures.id) ∙ c.in-Some-find.ensures.found in (
      subst (λ at. IsSomeAnd at (λ (other : Node). node.bits ≡ admission_set core.rules other.target other.level)) (sym found)
          (c.layers_admit_spans_by_their_rules.ensures c.args.id node found),
      refl,
    )
