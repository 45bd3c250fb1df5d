use Rattle.std.proofs.Common.{ap, ◌∙◌}
use Rattle.span_outlet.specs.Lines.{LinesView}
use Rattle.span_replay.specs.inside.Turns.{opened_state}
use Rattle.span_replay.proofs.run.opening.open_with.Goals as goal

pub returns-in-Ok-clause-core : goal.returns-in-Ok-clause-core
returns-in-Ok-clause-core g c = λ stage.
    c.new.ensures.core ∙ c.in-Ok.ensures.empty
    ∙ ap (λ (latest : LinesView). (opened_state c.args.opened.checked c.args.opened.rules latest.forms stage).core) c.with_formatters-latest.ensures
