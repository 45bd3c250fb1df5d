use Rattle.std.proofs.Common.{◌∙◌, ap, map}
use Rattle.span_replay.specs.Labels.{Bound}
use Rattle.span_replay.proofs.BoundLabels.{bound_ids}
use Rattle.span_replay.proofs.run.labels.Labels.ids.Goals as goal

pub returns : goal.returns
returns c = c.values.ensures.rest ∙ bound_ids c.self.inside.ids.entries ∙ ap (λ (labels : Bound). map (λ entry. entry.1) labels) c.self.view_is
