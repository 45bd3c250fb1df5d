use Rattle.std.proofs.Common.{◌∙◌, ap}
use Rattle.std.proofs.lemmas.Result.{err_from_is_err_and}
use Rattle.span_replay.specs.Explained.{named_by}
use Rattle.span_script.specs.Operation.{running}
use Rattle.span_replay.specs.inside.Running.{labels_in, state_at}
use Rattle.span_replay.proofs.Reachings.{operation_reached, operation_stops}
use Rattle.span_replay.proofs.run.reaching.run_operation.Goals as goal

pub returns-clause-turned : goal.returns-clause-turned
returns-clause-turned g c =
    operation_reached _ _ _ (state_at c.args.reaching.now.script running) _ _ _ _ _ _ _ _ (λ hooks. c.in_ok-run.ensures.turn hooks running) (c.named_by-before.ensures ∙ ap (named_by (labels_in c.args.reaching.now.script)) c.label_of-label.ensures) (c.named_by.ensures ∙ ap (named_by (labels_in c.run.new.self)) c.label_of-label.ensures) c.other_id-made.ensures c.in_ok-note_line.ensures

pub returns-in_err-run-clause-err : goal.returns-in_err-run-clause-err
returns-in_err-run-clause-err g c =
    let p = err_from_is_err_and c.from_residual.result c.from_residual.ensures.1 in
    rw (p.1, p.2) (λ hooks. operation_stops _ (state_at c.args.reaching.now.script running) _ _ _ _ _ (c.in_err-run.ensures.turn hooks running))
