use Rattle.std.proofs.Common.{◌≡◌, ℕ, List, map, subst}
use Rattle.std.specs.Prelude.{IfOk}
use Rattle.span_id.specs.Meta.{KeyValue, PlainMeta}
use Rattle.span_layers.specs.Note.{plain_note}
use Rattle.span_core.specs.Happening.{notes_of, event_at}
use Rattle.span_core.proofs.notes.events.event_notes.Goals as goal

pub returns-clause-notes : goal.returns-clause-notes
returns-clause-notes c =
    let event = c.args.event.now in
    subst (λ (given : List ℕ × PlainMeta × List ℕ × List KeyValue). IfOk c.told_to_some.result (λ notes. map plain_note notes.items
    ≡ notes_of c.args.rules.now event.worker (event_at c.args.forest.now.spans given.0 event.bits.0 given.1.level given.2 given.3)))
    (λ j. (c.looked_around.ensures.ids j, c.read.ensures j, c.requires.kept.message j, c.requires.kept.fields j)) c.told_to_some.ensures.notes

pub told_to_some-requires-clause-summarised : goal.told_to_some-requires-clause-summarised
told_to_some-requires-clause-summarised c =
    c.looked_around.ensures.summarised c.args.forest.now.spans c.requires.summary
