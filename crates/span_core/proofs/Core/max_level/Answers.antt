use Rattle.std.proofs.Common.{ap, ◌∙◌, sym, subst}
use Rattle.span_layers.specs.Filter.{layer_admits}
use Rattle.span_core.specs.Core.{CoreView}
use Rattle.span_core.specs.Wanted.{IsMaxLevel}
use Rattle.span_core.proofs.ListenedUpTo.{wanted_up_to, max_of_some}
use Rattle.span_core.proofs.Core.max_level.Goals as goal

pub returns-clause-wanted : goal.returns-clause-wanted
returns-clause-wanted g c =
    let rules = c.args.self.now.rules in
    let some = max_of_some c.self.inside.rules c.max_level.result (sym c.is_empty.ensures ∙ c.if-is_empty.false) c.max_level.ensures.named in
    wanted_up_to rules c.max_level.result (subst (λ (v : CoreView). IsMaxLevel v.rules c.max_level.result) c.self.view_is some)
    (λ layer target level admits. c.max_level.ensures.admitted layer target level (ap (λ v. layer_admits v.rules layer target level) c.self.view_is ∙ admits))
