use Rattle.std.proofs.Common.{ap}
use Rattle.span_script.specs.Views.{operation_seen}
use Rattle.span_replay.proofs.WrittenCalls.{runs_by}
use Rattle.span_replay.proofs.run.script.Script.run.Goals as goal

pub returns-in-New-clause-turn : goal.returns-in-New-clause-turn
returns-in-New-clause-turn g c = λ hooks stage. runs_by _ _ hooks _ _ _ _ _ (ap operation_seen c.in-New.is) (c.make.ensures.turn hooks stage)

pub returns-in-OnSpan-clause-turn : goal.returns-in-OnSpan-clause-turn
returns-in-OnSpan-clause-turn g c = λ hooks stage. runs_by _ _ hooks _ _ _ _ _ (ap operation_seen c.in-OnSpan.is) (c.on_span.ensures.turn hooks stage)

pub returns-in-Event-clause-turn : goal.returns-in-Event-clause-turn
returns-in-Event-clause-turn g c = λ hooks stage. runs_by _ _ hooks _ _ _ _ _ (ap operation_seen c.in-Event.is) (c.tell.ensures.turn hooks stage)

pub returns-in-Find-clause-turn : goal.returns-in-Find-clause-turn
returns-in-Find-clause-turn g c = λ hooks stage. runs_by _ _ hooks _ _ _ _ _ (ap operation_seen c.in-Find.is) (c.find.ensures.turn hooks stage)

pub returns-in-Record-clause-turn : goal.returns-in-Record-clause-turn
returns-in-Record-clause-turn g c = λ hooks stage. runs_by _ _ hooks _ _ _ _ _ (ap operation_seen c.in-Record.is) (c.record.ensures.turn hooks stage)
