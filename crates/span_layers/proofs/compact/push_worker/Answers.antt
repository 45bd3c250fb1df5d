use Rattle.std.proofs.Common.{rules}
use Rattle.std.proofs.lemmas.Fmt.{decimal_digit}
use Rattle.span_layers.proofs.compact.push_worker.Goals as goal

pub returns-then-worker-lt10 : goal.returns-then-worker-lt10
returns-then-worker-lt10 c = rw (decimal_digit c.args.worker c.if-worker-lt10.true) (search rules)
