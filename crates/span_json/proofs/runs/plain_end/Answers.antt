use Rattle.std.proofs.Common.{ap, refl, sym, ◌∙◌, arith}
use Rattle.json.specs.Run.{is_plain, is_stop}
use Rattle.span_json.proofs.PlainRuns.{run_through, run_up_to, within}
use lib.Count.{count_trailing_zeros}
use Rattle.span_json.proofs.runs.plain_end.Goals as goal

pub returns-then-stops-ne0-clause-end : goal.returns-then-stops-ne0-clause-end
returns-then-stops-ne0-clause-end c =
    let found = c.stops_in-stops in
    let run = run_up_to is_stop is_plain (λ x. refl) c.args.text.now c.loop-at.at 16 (omega arith) (omega arith) (omega (arith, found.ensures)) ∙ ap (count_trailing_zeros 64) (sym found.ensures) in
    omega (arith, run, c.loop-at.invariant.0)

pub returns-then-stops-ne0-clause-inside : goal.returns-then-stops-ne0-clause-inside
returns-then-stops-ne0-clause-inside c =
    let found = c.stops_in-stops in
    let run = run_up_to is_stop is_plain (λ x. refl) c.args.text.now c.loop-at.at 16 (omega arith) (omega arith) (omega (arith, found.ensures)) ∙ ap (count_trailing_zeros 64) (sym found.ensures) in
    omega (arith, run, within is_plain c.args.text.now c.loop-at.at c.loop-at.invariant.1)

pub loop-at-preserved : goal.loop-at-preserved
loop-at-preserved c =
    let run = run_through is_stop is_plain (λ x. refl) c.args.text.now c.loop-at.at 16 (omega arith) (omega (arith, c.stops_in-stops.ensures)) in
    (omega (arith, run, c.loop-at.invariant.0), omega arith)
