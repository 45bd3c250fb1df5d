use Rattle.std.proofs.Common.{◌∙◌, ap}
use Rattle.span_replay.specs.Labels.{id_in}
use Rattle.span_replay.proofs.BoundLabels.{found_label}
use Rattle.span_replay.proofs.run.labels.Labels.get.Goals as goal

pub returns-in-None : goal.returns-in-None
returns-in-None c =
    c.copied.ensures ∙ c.get-in-None.ensures.value ∙ found_label c.args.label.now c.self.inside.ids.entries ∙ ap (λ labels. id_in labels c.args.label.now) c.self.view_is
