use Rattle.std.proofs.Common.{◌≡◌, ◌∙◌, None, sym}
use Rattle.std.proofs.lemmas.List.{get_or_default}
use Rattle.span_core.specs.inside.ClosingPaths.{place_in}
use Rattle.span_core.proofs.ClosingPaths.{told_above}
use Rattle.span_core.proofs.notes.closing.push_close_note.Goals as goal

pub close_note-requires-clause-below : goal.close_note-requires-clause-below
close_note-requires-clause-below c =
    let place : place_in c.args.places.now.items c.args.layer ≡ c.index.result.now = get_or_default c.args.places.now.items c.args.layer None c.index.result.now c.requires.there ∙ sym c.index.ensures in
    told_above c.args.forest.now.spans c.as_slice.result.now c.args.notes.now.items c.args.layer c.args.what.now.id _ _ c.note_at-before.result
    c.as_slice.ensures.value place c.requires.below c.note_at-before.ensures
