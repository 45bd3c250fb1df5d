use Rattle.std.proofs.Common.{◌≡◌, ℕ, length, map, subst, sym, ap}
use Rattle.std.specs.Prelude.{IfOk, filter}
use Rattle.std.specs.List.{range_with_len}
use Rattle.std.specs.Option.{option_map_or}
use Rattle.span_layers.specs.Note.{plain_note}
use Rattle.span_core.specs.Happening.{at_span, note_of}
use Rattle.span_core.specs.inside.Sound.{hears}
use Rattle.span_core.proofs.notes.span_notes.Goals as goal

pub returns-clause-notes : goal.returns-clause-notes
returns-clause-notes c =
    let what = at_span c.args.forest.now.spans c.args.kind c.args.found.now.id c.args.fields.now in
    subst
    (λ (bits : ℕ). IfOk c.told.result (λ notes. map plain_note notes.items
    ≡ map (note_of c.args.found.now.worker what) (filter (hears c.args.rules.now bits c.args.kind) (range_with_len 0 (length c.args.rules.now)))))
    (sym (ap (λ o. option_map_or (λ node. node.bits) o 0) c.requires.found)) c.told.ensures.notes
