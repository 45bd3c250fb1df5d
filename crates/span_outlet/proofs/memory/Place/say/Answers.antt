use Rattle.span_outlet.proofs.memory.Refused.{lacks}
use Rattle.span_outlet.proofs.memory.Place.say.Goals as goal

pub returns-clause-refused : goal.returns-clause-refused
returns-clause-refused g c = lacks c.say.result c.args.self.batch c.args.self.place
