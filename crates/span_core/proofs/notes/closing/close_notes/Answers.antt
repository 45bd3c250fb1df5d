use Rattle.span_forest.specs.Path.{path_text}
use Rattle.span_core.proofs.notes.closing.close_notes.Goals as goal

pub push_closes-requires-clause-known : goal.push_closes-requires-clause-known
push_closes-requires-clause-known c = c.none-paths.ensures path_text c.args.forest.now.spans
