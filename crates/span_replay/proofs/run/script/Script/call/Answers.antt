use Rattle.span_replay.proofs.WrittenCalls.{made_enough, still_written, written_call}
use Rattle.span_replay.proofs.run.script.Script.call.Goals as goal

pub answer-requires : goal.answer-requires
answer-requires g c = made_enough _ _ _ _ _ c.in_ok-answer.ensures.made c.requires.written.lines

pub returns-clause-call : goal.returns-clause-call
returns-clause-call g c = written_call _ _ _ _ _ _ _ _ _ c.in_ok-answer.ensures.made c.requires.written.lines c.answer.ensures.core c.answer.ensures.text

pub returns-clause-written : goal.returns-clause-written
returns-clause-written g c =
    still_written _ _ _ _ _ _ _ c.in_ok-answer.ensures.made c.answer.ensures.core c.requires.written.workers c.requires.written.some c.answer.ensures.written c.answer.ensures.workers
