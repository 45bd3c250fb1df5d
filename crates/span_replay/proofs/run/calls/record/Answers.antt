use Rattle.span_replay.proofs.CallLemmas.{made_accepted, late_counts, refused_answer}
use Rattle.span_replay.proofs.run.calls.record.Goals as goal

pub returns-in-Ok-clause-made : goal.returns-in-Ok-clause-made
returns-in-Ok-clause-made g c = made_accepted _ _ _ _ c.in-Ok.ensures.accepted tt

pub returns-in-Err-clause-made : goal.returns-in-Err-clause-made
returns-in-Err-clause-made g c = refused_answer _ _ _ _ _ c.in-Err.ensures.refused c.refusal.ensures.judged c.refusal.ensures.answer

pub refusal-requires : goal.refusal-requires
refusal-requires g c = late_counts _ _ _ _ c.in-Err.ensures.refused
