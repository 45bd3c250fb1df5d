use Rattle.std.proofs.Common.{Ok, ap, refl}
use Rattle.std.proofs.lemmas.Result.{err_from_is_err_and}
use Rattle.span_replay.specs.Meaning.{call_turn}
use Rattle.span_script.specs.Reason.{◌>>=◌}
use Rattle.span_replay.specs.Requests.{request_of_call}
use Rattle.span_replay.proofs.WrittenCalls.{made_by, made_enough, still_written, stops, turn_made}
use Rattle.span_replay.proofs.run.script.Script.on_span.Goals as goal

pub answer-requires : goal.answer-requires
answer-requires g c = made_enough _ _ _ _ _ c.in_ok-answer.ensures.made c.requires.written.lines

pub returns-clause-turn : goal.returns-clause-turn
returns-clause-turn g c = λ hooks stage.
    turn_made _ _ _ _ _ _ _ _ _ _
    (ap (λ found. found >>= λ id. Ok (call_turn (record { core = c.args.self.now.core; labels = c.args.self.now.labels; stage = stage }) (request_of_call c.args.call c.args.worker id))) c.in_ok-id.ensures)
    (made_by (λ worker. request_of_call c.args.call worker c.in_ok-id.id) _ _ _ _ _ c.worker_number-worker.ensures c.in_ok-answer.ensures.made)
    c.requires.written.lines
    (λ i. record { core = c.answer.ensures.core i; labels = c.answer.ensures.labels i; stage = stage })
    c.answer.ensures.text c.answer.ensures.memory

pub returns-clause-written : goal.returns-clause-written
returns-clause-written g c =
    still_written _ _ _ _ _ _ _ c.in_ok-answer.ensures.made c.answer.ensures.core c.requires.written.workers c.requires.written.some c.answer.ensures.written c.answer.ensures.workers

pub returns-in_err-answer-clause-turn : goal.returns-in_err-answer-clause-turn
returns-in_err-answer-clause-turn g c =
    let p = err_from_is_err_and c.from_residual-in_err-answer.result c.from_residual-in_err-answer.ensures.1 in
    rw (p.1, p.2) (λ hooks stage. stops _ _ _ _ _ _ c.in_err-answer.ensures.memory)

pub returns-in_err-id-clause-turn : goal.returns-in_err-id-clause-turn
returns-in_err-id-clause-turn g c =
    let p = err_from_is_err_and c.from_residual.result c.from_residual.ensures.1 in
    rw (p.1, p.2) (λ hooks stage.
    (ap (λ found. found >>= λ id. Ok (call_turn (record { core = c.args.self.now.core; labels = c.args.self.now.labels; stage = stage }) (request_of_call c.args.call c.args.worker id))) c.in_err-id.ensures, refl, refl))
