use Rattle.span_slots.proofs.Issued.{slots-after_all, last-after_all}
use Rattle.span_slots.proofs.laws.limits_never_change.Goals as goal

pub returns-clause-slots : goal.returns-clause-slots
returns-clause-slots g c = λ changes. slots-after_all c.args.slots.now changes

pub returns-clause-last_generation : goal.returns-clause-last_generation
returns-clause-last_generation g c = λ changes. last-after_all c.args.slots.now changes
