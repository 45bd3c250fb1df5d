use Rattle.span_outlet.proofs.memory.Refused.{lacks}
use Rattle.span_outlet.proofs.memory.keep.Goals as goal

pub returns-in_err-push-clause-refused : goal.returns-in_err-push-clause-refused
returns-in_err-push-clause-refused c = lacks c.from_residual.result c.args.line.batch c.args.line.place
