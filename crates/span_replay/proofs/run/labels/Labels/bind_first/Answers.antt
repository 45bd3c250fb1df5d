use Rattle.std.proofs.Common.{◌∙◌, sym, ap, subst}
use Rattle.span_replay.specs.Labels.{with_label}
use Rattle.span_replay.specs.inside.Lately.{AreBound}
use Rattle.span_replay.proofs.BoundLabels.{bound_label, seen}
use Rattle.span_replay.proofs.run.labels.Labels.bind_first.Goals as goal

pub returns-clause-ok : goal.returns-clause-ok
returns-clause-ok c =
    ap seen c.in_ok-insert.ensures.entries
    ∙ bound_label c.in_ok-text.text c.args.id c.self.inside.ids.entries
    ∙ (λ i. with_label (c.self.view_is i) (c.in_ok-text.ensures.ok i) c.args.id)

pub invariant_of-self-2 : goal.invariant_of-self-2
invariant_of-self-2 c =
    subst (λ labels. AreBound labels c.bind.new.self.newest c.bind.new.self.older)
    (sym (ap seen c.in_ok-insert.ensures.entries
    ∙ bound_label c.in_ok-text.text c.args.id c.self.inside.ids.entries
    ∙ ap (λ bytes. with_label (seen c.self.inside.ids.entries) bytes c.args.id) c.in_ok-text.ensures.ok))
    (c.bind.ensures (seen c.self.inside.ids.entries) c.self.invariant)
