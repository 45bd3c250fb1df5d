use Rattle.std.proofs.Common.{◌<◌, ◌∙◌, sym, ap, subst}
use Rattle.span_id.specs.declared.limits.Limits.{Limits}
use Rattle.span_registry.specs.Blanks.{BlanksView}
use Rattle.span_registry.proofs.registry.Registry+H+C+S+O+Admitters+F.new.Goals as goal

pub returns-clause-each : goal.returns-clause-each
returns-clause-each g c i d below =
    let same = c.limits.ensures.value ∙ ap (λ (blanks : BlanksView). blanks.limits) (c.blanks.view_is ∙ c.requires.blanks) in
    c.in_ok-workers.ensures.each i d (subst (λ (limits : Limits). i < limits.workers) (sym same) below)
