use Rattle.std.proofs.Common.{◌≡◌, map, take}
use Rattle.std.specs.Prelude.{IfSome}
use Rattle.span_layers.specs.Note.{plain_note}
use Rattle.span_outlet.specs.Lines.{plain_line}
use Rattle.span_outlet.specs.Kept.{GainsLines}
use Rattle.span_outlet.specs.inside.SameText.{EndsWithTextOf}
use Rattle.span_outlet.specs.inside.Taking.{numbered_notes}
use Rattle.span_outlet.proofs.note_lines.NoteLines.tell_all.Given as goal

-- the notes before the place were told or missed; where one is written down, the last line has its text
abbrev pub invariant-loop-place : goal.invariant-loop-place
invariant-loop-place g l = record {
  forms : l.self.forms ≡ l.initial.self.forms;
  so_far : GainsLines l.initial.self.forms (numbered_notes l.number (take l.place (map plain_note l.notes)))
      (map plain_line l.initial.self.lines.items) l.initial.self.missed (map plain_line l.self.lines.items) l.self.missed;
  before : IfSome l.before (λ before. EndsWithTextOf l.self.forms l.self.lines.items before.now);
}
