use Rattle.std.proofs.Common.{rules, codes}
use Rattle.std.specs.Fmt.{decimal}
use Rattle.span_storm.proofs.Lines.{on_err, on_err_then, piece_fails, rest_fails}
use Rattle.span_storm.proofs.numbers.write_line.Goals as goal

pub returns-in_err-write_text-clause-front : goal.returns-in_err-write_text-clause-front
returns-in_err-write_text-clause-front g c = on_err _ (piece_fails _ _ c.args.label.now _ _ c.in_err-write_text.ensures.front (search rules))

pub returns-in_err-write_text-2-clause-front : goal.returns-in_err-write_text-2-clause-front
returns-in_err-write_text-2-clause-front g c = on_err _
    (rest_fails _ _ _ c.args.label.now _ _ c.in_ok-write_text.ensures.ok
    (piece_fails _ _ (codes " ") _ _ c.in_err-write_text-2.ensures.front (search rules)) (search rules))

pub returns-in_err-write_text-3-clause-front : goal.returns-in_err-write_text-3-clause-front
returns-in_err-write_text-3-clause-front g c = on_err _
    (rest_fails _ _ _ c.args.label.now _ _ c.in_ok-write_text.ensures.ok
    (rest_fails _ _ _ (codes " ") _ _ c.in_ok-write_text-2.ensures.ok
    (piece_fails _ _ (decimal c.args.number) _ _ c.in_err-write_text-3.ensures.front (search rules)) (search rules)) (search rules))

pub returns-clause-front : goal.returns-clause-front
returns-clause-front g c = on_err_then _ (λ front.
    rest_fails _ _ _ c.args.label.now _ _ c.in_ok-write_text.ensures.ok
    (rest_fails _ _ _ (codes " ") _ _ c.in_ok-write_text-2.ensures.ok
    (rest_fails _ _ _ (decimal c.args.number) _ _ c.in_ok-write_text-3.ensures.ok front (search rules)) (search rules)) (search rules)) c.write_text-4.ensures.front
