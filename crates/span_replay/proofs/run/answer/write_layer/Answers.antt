use Rattle.std.proofs.Common.{rules}
use Rattle.std.proofs.lemmas.Fmt.{decimal_digit}
use Rattle.span_replay.proofs.run.answer.write_layer.Goals as goal

pub returns-then-layer-lt10 : goal.returns-then-layer-lt10
returns-then-layer-lt10 c = rw (decimal_digit c.args.layer c.if-layer-lt10.true) (search rules)
