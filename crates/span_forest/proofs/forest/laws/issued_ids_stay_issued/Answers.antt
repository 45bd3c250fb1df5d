use Rattle.span_id.specs.Id.{slot_of, generation_of}
use Rattle.span_forest.proofs.Slotted.{issue_more}
use Rattle.span_forest.proofs.forest.laws.issued_ids_stay_issued.Goals as goal

pub returns : goal.returns
returns c = λ id issued node before. issue_more c.args.forest.now.given (slot_of id) (slot_of issued) (generation_of issued) before
