use Rattle.std.proofs.Common.{◌≡◌, ℕ, ap, sym, ◌∙◌, subst}
use Rattle.std.proofs.lemmas.Result.{err_from_is_err_and}
use Rattle.span_json.specs.Seen.{view}
use Rattle.span_replay.specs.Meaning.{value_turn}
use Rattle.span_replay.specs.inside.Progress.{HasHooks, state_of}
use Rattle.span_replay.specs.inside.Running.{state_at}
use Rattle.span_replay.specs.inside.Setup.{hooks_in, setup_state}
use Rattle.span_script.specs.Operation.{running}
use Rattle.span_replay.proofs.LineTurns.{json_stops}
use Rattle.span_replay.proofs.Steps.{begun_same, for_all_hooks, for_its_hooks, line_does, line_stops, stops_for_all, stops_for_its}
use Rattle.span_replay.proofs.run.progress.step.Goals as goal
use Rattle.span_replay.proofs.run.progress.step.Goals.{in-Opening+else-is_setup_line+in-Ok, in_default}

pub returns-in_err-value-clause-err : goal.returns-in_err-value-clause-err
returns-in_err-value-clause-err g c =
    let p = err_from_is_err_and c.from_residual.result c.from_residual.ensures.1 in
    rw (p.1, p.2) (λ hooks has. json_stops hooks _ _ _ c.requires.read c.in_err-value.ensures)

pub returns-then-is_setup_line-clause-turned : goal.returns-then-is_setup_line-clause-turned
returns-then-is_setup_line-clause-turned g c =
    line_does _ (λ hooks. HasHooks hooks c.args.progress.now) (λ hooks. value_turn hooks (setup_state c.in-Opening.setup) (view c.in_ok-value.value)) _ _ _ _ c.requires.read c.in_ok-value.ensures
    (λ hooks has. ap (λ progress. value_turn hooks (state_of progress) (view c.in_ok-value.value)) c.in-Opening.is)
    (for_its_hooks _ _ _ (hooks_in c.in-Opening.setup) (λ hooks has. subst (λ progress. HasHooks hooks progress) c.in-Opening.is has) c.run.ensures.ok)

pub returns-then-is_setup_line-clause-err : goal.returns-then-is_setup_line-clause-err
returns-then-is_setup_line-clause-err g c =
    line_stops _ (λ hooks. HasHooks hooks c.args.progress.now) (λ hooks. value_turn hooks (setup_state c.in-Opening.setup) (view c.in_ok-value.value)) _ _ _ c.requires.read c.in_ok-value.ensures
    (λ hooks has. ap (λ progress. value_turn hooks (state_of progress) (view c.in_ok-value.value)) c.in-Opening.is)
    (stops_for_its _ _ _ (hooks_in c.in-Opening.setup) (λ hooks has. subst (λ progress. HasHooks hooks progress) c.in-Opening.is has) c.run.ensures.err)

pub returns-clause-turned : goal.returns-clause-turned
returns-clause-turned g c =
    let same : (hooks : ℕ) → value_turn hooks (state_of c.args.progress.now) (view c.in_ok-value.value) ≡ value_turn hooks (state_at c.in-Running.script running) (view c.in_ok-value.value) = λ hooks. elim c.match-progress.branch [
      | in-Opening+else-is_setup_line+in-Ok w ↦ ap (λ progress. value_turn hooks (state_of progress) (view c.in_ok-value.value)) w.in-Opening.is ∙ begun_same hooks (setup_state w.in-Opening.setup) _ _ (sym w.if-is_setup_line.ensures) (ap (λ progress. state_of progress) (sym c.in-Running.is ∙ w.progress-is) ∙ w.in-Ok.ensures.state)
      | in_default w ↦ ap (λ progress. value_turn hooks (state_of progress) (view c.in_ok-value.value)) (sym w.progress-is ∙ c.in-Running.is)
    ] in
    line_does _ (λ hooks. HasHooks hooks c.args.progress.now) (λ hooks. value_turn hooks (state_at c.in-Running.script running) (view c.in_ok-value.value)) _ _ _ _ c.requires.read c.in_ok-value.ensures
    (λ hooks has. same hooks)
    (for_all_hooks _ _ _ c.call.ensures.turned)

pub returns-clause-err : goal.returns-clause-err
returns-clause-err g c =
    let same : (hooks : ℕ) → value_turn hooks (state_of c.args.progress.now) (view c.in_ok-value.value) ≡ value_turn hooks (state_at c.in-Running.script running) (view c.in_ok-value.value) = λ hooks. elim c.match-progress.branch [
      | in-Opening+else-is_setup_line+in-Ok w ↦ ap (λ progress. value_turn hooks (state_of progress) (view c.in_ok-value.value)) w.in-Opening.is ∙ begun_same hooks (setup_state w.in-Opening.setup) _ _ (sym w.if-is_setup_line.ensures) (ap (λ progress. state_of progress) (sym c.in-Running.is ∙ w.progress-is) ∙ w.in-Ok.ensures.state)
      | in_default w ↦ ap (λ progress. value_turn hooks (state_of progress) (view c.in_ok-value.value)) (sym w.progress-is ∙ c.in-Running.is)
    ] in
    line_stops _ (λ hooks. HasHooks hooks c.args.progress.now) (λ hooks. value_turn hooks (state_at c.in-Running.script running) (view c.in_ok-value.value)) _ _ _ c.requires.read c.in_ok-value.ensures
    (λ hooks has. same hooks)
    (stops_for_all _ _ _ c.call.ensures.err)
