use Rattle.std.proofs.Common.{refl}
use Rattle.std.proofs.lemmas.Result.{err_from_is_err_and}
use Rattle.span_replay.proofs.WrittenCalls.{made_enough, stops, turn_made}
use Rattle.span_replay.proofs.run.script.Script.tell.Goals as goal

pub answer-requires : goal.answer-requires
answer-requires g c = made_enough _ _ _ _ _ c.in_ok-answer.ensures.made c.requires.written.lines

pub returns-clause-turn : goal.returns-clause-turn
returns-clause-turn g c = λ hooks stage. turn_made _ _ _ _ _ _ _ _ _ _ refl c.in_ok-answer.ensures.made c.requires.written.lines
    (λ i. record { core = c.answer.ensures.core i; labels = c.answer.ensures.labels i; stage = stage }) c.answer.ensures.text c.answer.ensures.memory

pub returns-in_err-answer-clause-turn : goal.returns-in_err-answer-clause-turn
returns-in_err-answer-clause-turn g c =
    let p = err_from_is_err_and c.from_residual.result c.from_residual.ensures.1 in
    rw (p.1, p.2) (λ hooks stage. stops _ _ _ _ _ _ c.in_err-answer.ensures.memory)
