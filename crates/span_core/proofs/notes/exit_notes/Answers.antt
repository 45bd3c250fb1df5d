use Rattle.span_forest.specs.Path.{path_text}
use Rattle.span_core.proofs.notes.exit_notes.Goals as goal

pub push_notes-requires-clause-known : goal.push_notes-requires-clause-known
push_notes-requires-clause-known c = c.none-paths.ensures path_text c.args.forest.now.spans
