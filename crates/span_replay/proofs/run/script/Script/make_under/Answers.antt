use Rattle.std.proofs.Common.{◌∙◌, refl}
use Rattle.std.proofs.lemmas.Result.{err_from_is_err_and}
use Rattle.span_replay.proofs.WrittenCalls.{made_core, made_enough, still_written, stops, turn_new}
use Rattle.span_replay.proofs.run.script.Script.make_under.Goals as goal

pub answer-requires : goal.answer-requires
answer-requires g c =
    made_enough _ _ _ _ _ (made_core _ _ _ _ _ c.in_ok-give_label.ensures.core c.in_ok-answer.ensures.made) (c.in_ok-give_label.ensures.written ∙ c.requires.written.lines)

pub returns-clause-turn : goal.returns-clause-turn
returns-clause-turn g c = λ stage.
    turn_new _ _ (record { core = c.args.self.now.core; labels = c.args.self.now.labels; stage = stage }) _ _ _ _ _ _ _ _
    refl
    (made_core _ _ _ _ _ c.in_ok-give_label.ensures.core c.in_ok-answer.ensures.made)
    (c.in_ok-give_label.ensures.written ∙ c.requires.written.lines)
    (λ i. record { core = c.answer.ensures.core i; labels = (c.answer.ensures.labels ∙ c.in_ok-give_label.ensures.labels) i; stage = stage })
    c.answer.ensures.text
    c.answer.ensures.memory

pub returns-clause-written : goal.returns-clause-written
returns-clause-written g c =
    still_written _ _ _ _ _ _ _ (made_core _ _ _ _ _ c.in_ok-give_label.ensures.core c.in_ok-answer.ensures.made) c.answer.ensures.core c.requires.written.workers c.requires.written.some c.answer.ensures.written
    (c.answer.ensures.workers ∙ c.in_ok-give_label.ensures.workers)

pub returns-in_err-answer-clause-turn : goal.returns-in_err-answer-clause-turn
returns-in_err-answer-clause-turn g c =
    let p = err_from_is_err_and c.from_residual.result c.from_residual.ensures.1 in
    rw (p.1, p.2) (λ stage. stops _ _ _ _ _ _ c.in_err-answer.ensures.memory)

pub returns-in_err-give_label-clause-turn : goal.returns-in_err-give_label-clause-turn
returns-in_err-give_label-clause-turn g c =
    let p = err_from_is_err_and c.from_residual-in_err-give_label.result c.from_residual-in_err-give_label.ensures.1 in
    rw (p.1, p.2) (λ stage. tt)
