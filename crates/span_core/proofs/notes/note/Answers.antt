use Rattle.std.proofs.Common.{sym, subst}
use Rattle.span_core.specs.inside.Telling.{IsReadable}
use Rattle.span_core.proofs.Readable.{place_readable}
use Rattle.span_core.proofs.notes.note.Goals as goal

pub path_of-requires-clause-open : goal.path_of-requires-clause-open
path_of-requires-clause-open c =
    let spans = c.args.forest.now.spans in
    let subject = c.args.what.now.subject in
    subst (IsReadable spans subject) (sym c.place_of-place.ensures) (place_readable spans subject c.args.layer c.requires.there)
