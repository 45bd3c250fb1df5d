use Rattle.std.proofs.Common.{refl}
use Rattle.std.proofs.lemmas.Result.{err_from_is_err_and}
use Rattle.span_replay.proofs.WrittenCalls.{turn_as}
use Rattle.span_replay.proofs.run.script.Script.make.Goals as goal

pub returns-clause-turn : goal.returns-clause-turn
returns-clause-turn g c = λ hooks stage. turn_as _ _ _ _ _ _ _ (c.in_ok-parent.ensures stage) (c.make_under.ensures.turn stage)

pub returns-in_err-parent-clause-turn : goal.returns-in_err-parent-clause-turn
returns-in_err-parent-clause-turn g c =
    let p = err_from_is_err_and c.from_residual.result c.from_residual.ensures.1 in
    rw (p.1, p.2) (λ hooks stage. (c.in_err-parent.ensures stage, refl, refl))
