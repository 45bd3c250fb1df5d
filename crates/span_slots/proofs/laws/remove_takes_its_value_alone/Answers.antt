use Rattle.span_slots.proofs.Issued.{absent-removed}
use Rattle.span_slots.proofs.Promises.{others-removed}
use Rattle.span_slots.proofs.laws.remove_takes_its_value_alone.Goals as goal

pub returns-clause-gone : goal.returns-clause-gone
returns-clause-gone g c = λ id. absent-removed _ id

pub returns-clause-others : goal.returns-clause-others
returns-clause-others g c = λ id other ne. others-removed _ id other ne
