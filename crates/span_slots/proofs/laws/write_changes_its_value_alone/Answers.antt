use Rattle.span_slots.proofs.Entries.{find-with_value_same, find-with_value_other, ids-with_value}
use Rattle.span_slots.proofs.laws.write_changes_its_value_alone.Goals as goal

pub returns-clause-written : goal.returns-clause-written
returns-clause-written g c = λ id value there. find-with_value_same _ id value there

pub returns-clause-others : goal.returns-clause-others
returns-clause-others g c = λ id other value ne. find-with_value_other _ id other value ne

pub returns-clause-ids : goal.returns-clause-ids
returns-clause-ids g c = λ id value. ids-with_value _ id value
