use Rattle.std.proofs.Common.{ap, sym, ◌∙◌, arith}
use Rattle.json.specs.Word.{is_space}
use Rattle.span_json.specs.inside.Plain.{is_other}
use Rattle.span_json.proofs.PlainRuns.{run_through, run_up_to, within, not_not}
use lib.Count.{count_trailing_zeros}
use Rattle.span_json.proofs.runs.some_spaces_end.Goals as goal

pub returns-then-others-ne0-clause-end : goal.returns-then-others-ne0-clause-end
returns-then-others-ne0-clause-end c =
    let found = c.others_in-others in
    let run = run_up_to is_other is_space (λ x. not_not (is_space x)) c.args.text.now c.loop-at.at 16 (omega arith) (omega arith) (omega (arith, found.ensures)) ∙ ap (count_trailing_zeros 64) (sym found.ensures) in
    omega (arith, run, c.loop-at.invariant.0)

pub returns-then-others-ne0-clause-inside : goal.returns-then-others-ne0-clause-inside
returns-then-others-ne0-clause-inside c =
    let found = c.others_in-others in
    let run = run_up_to is_other is_space (λ x. not_not (is_space x)) c.args.text.now c.loop-at.at 16 (omega arith) (omega arith) (omega (arith, found.ensures)) ∙ ap (count_trailing_zeros 64) (sym found.ensures) in
    omega (arith, run, within is_space c.args.text.now c.loop-at.at c.loop-at.invariant.1)

pub loop-at-preserved : goal.loop-at-preserved
loop-at-preserved c =
    let run = run_through is_other is_space (λ x. not_not (is_space x)) c.args.text.now c.loop-at.at 16 (omega arith) (omega (arith, c.others_in-others.ensures)) in
    (omega (arith, run, c.loop-at.invariant.0), omega arith)
