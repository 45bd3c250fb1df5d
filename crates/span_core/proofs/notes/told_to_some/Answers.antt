use Rattle.span_core.specs.inside.Telling.{text_told}
use Rattle.span_core.proofs.notes.told_to_some.Goals as goal

pub listed-requires-clause-known : goal.listed-requires-clause-known
listed-requires-clause-known c = c.none-paths.ensures (text_told c.args.what.now.subject) c.args.forest.now.spans
