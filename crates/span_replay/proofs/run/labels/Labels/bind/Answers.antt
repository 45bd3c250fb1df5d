use Rattle.std.proofs.Common.{◌∙◌, sym, ap, subst}
use Rattle.std.specs.Option.{option_copied_mut}
use Rattle.span_replay.specs.Labels.{id_in, with_label}
use Rattle.span_replay.specs.inside.Lately.{AreBound}
use Rattle.span_replay.proofs.BoundLabels.{found_label, rebound, seen}
use Rattle.span_replay.proofs.run.labels.Labels.bind.Goals as goal

pub returns-in-Some-clause-ok : goal.returns-in-Some-clause-ok
returns-in-Some-clause-ok c =
    ap seen (c.get_mut.follows.holds c.args.id).0
    ∙ rebound c.args.label.now c.args.id c.in-Some.bound.now c.self.inside.ids.entries c.get_mut.ensures.ordered (sym c.get_mut.ensures.value ∙ ap option_copied_mut c.in-Some.is)
    ∙ ap (λ labels. with_label labels c.args.label.now c.args.id) c.self.view_is

pub invariant_of-self : goal.invariant_of-self
invariant_of-self c =
    subst (λ labels. AreBound labels c.bind.new.self.newest c.bind.new.self.older)
    (sym (ap seen (c.get_mut.follows.holds c.args.id).0
    ∙ rebound c.args.label.now c.args.id c.in-Some.bound.now c.self.inside.ids.entries c.get_mut.ensures.ordered (sym c.get_mut.ensures.value ∙ ap option_copied_mut c.in-Some.is)))
    (c.bind.ensures (seen c.self.inside.ids.entries) c.self.invariant)

pub bind_first-requires : goal.bind_first-requires
bind_first-requires c =
    ap (λ ids. id_in (seen ids.entries) c.args.label.now) c.get_mut.follows.holds-at-none
    ∙ (sym (found_label c.args.label.now c.self.inside.ids.entries) ∙ sym c.get_mut.ensures.value ∙ ap option_copied_mut c.in_default.is)
