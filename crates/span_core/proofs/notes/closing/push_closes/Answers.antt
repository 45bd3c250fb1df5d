use Rattle.span_core.proofs.Telling.{unwanted_closes}
use Rattle.span_core.proofs.notes.closing.push_closes.Goals as goal

pub returns-then-not-is_wanted-clause-notes : goal.returns-then-not-is_wanted-clause-notes
returns-then-not-is_wanted-clause-notes c =
    unwanted_closes c.args.rules.now c.args.first.now.worker c.args.forest.now.spans c.args.closed.now _ (c.is_wanted.ensures c.if-not-is_wanted.true)
