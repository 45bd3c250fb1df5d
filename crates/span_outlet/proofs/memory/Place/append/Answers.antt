use Rattle.span_outlet.proofs.memory.Refused.{lacks}
use Rattle.span_outlet.proofs.memory.Place.append.Goals as goal

pub returns-clause-refused : goal.returns-clause-refused
returns-clause-refused c = lacks c.extend_from_slice.result c.args.self.batch c.args.self.place
