use Rattle.std.proofs.Common.{subst}
use Rattle.span_core.specs.Core.{IsRefused}
use Rattle.span_replay.specs.inside.Calls.{IsMade}
use Rattle.span_replay.specs.declared.run.answer.Answer.TheVariants.{Told}
use Rattle.span_replay.proofs.CallLemmas.{same_event, made_accepted, late_counts, refused_answer}
use Rattle.span_replay.proofs.run.calls.event.Goals as goal

pub returns-in-Ok-clause-made : goal.returns-in-Ok-clause-made
returns-in-Ok-clause-made g c =
    subst (λ request. IsMade c.args.core.now request Told c.event_shared.new.self)
    (same_event _ _ _ _ _ _ c.requires.number)
    (made_accepted _ _ _ _ c.in-Ok.ensures.accepted tt)

pub returns-in-Err-clause-made : goal.returns-in-Err-clause-made
returns-in-Err-clause-made g c =
    refused_answer _ _ _ _ _
    (subst (λ request. IsRefused c.args.core.now request c.in-Err.fault c.event_shared.new.self)
    (same_event _ _ _ _ _ _ c.requires.number) c.in-Err.ensures.refused)
    c.refusal.ensures.judged c.refusal.ensures.answer

pub refusal-requires : goal.refusal-requires
refusal-requires g c = late_counts _ _ _ _ c.in-Err.ensures.refused
