use Rattle.std.proofs.Common.{subst}
use Rattle.span_core.specs.Core.{IsRefused}
use Rattle.span_replay.specs.inside.Calls.{IsMade}
use Rattle.span_replay.specs.declared.run.answer.Answer.TheVariants.{Made, NotWanted}
use Rattle.span_replay.proofs.CallLemmas.{same_new, made_some, made_none, late_counts, refused_answer}
use Rattle.span_replay.proofs.run.calls.new_span.Goals as goal

pub returns-in-Ok-Some-clause-made : goal.returns-in-Ok-Some-clause-made
returns-in-Ok-Some-clause-made g c =
    subst (λ request. IsMade c.args.core.now request (Made c.in-Ok-Some.id) c.new_span_shared.new.self)
    (same_new c.args.core.now.world _ _ _ _ _ _ c.requires.number c.map_or-parent.ensures)
    (made_some _ _ _ _ _ c.in-Ok-Some.field-0-is c.in-Ok-Some.ensures.made c.in-Ok-Some.ensures.next)

pub returns-in-Ok-None-clause-made : goal.returns-in-Ok-None-clause-made
returns-in-Ok-None-clause-made g c =
    subst (λ request. IsMade c.args.core.now request NotWanted c.new_span_shared.new.self)
    (same_new c.args.core.now.world _ _ _ _ _ _ c.requires.number c.map_or-parent.ensures)
    (made_none _ _ _ _ c.in-Ok-None.field-0-is c.in-Ok-None.ensures.not_wanted)

pub returns-in-Err-clause-made : goal.returns-in-Err-clause-made
returns-in-Err-clause-made g c =
    refused_answer _ _ _ _ _
    (subst (λ request. IsRefused c.args.core.now request c.in-Err.fault c.new_span_shared.new.self)
    (same_new c.args.core.now.world _ _ _ _ _ _ c.requires.number c.map_or-parent.ensures) c.in-Err.ensures.refused)
    c.refusal.ensures.judged c.refusal.ensures.answer

pub refusal-requires : goal.refusal-requires
refusal-requires g c = late_counts _ _ _ _ c.in-Err.ensures.refused
