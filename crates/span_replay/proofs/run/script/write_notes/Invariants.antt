use Rattle.std.proofs.Common.{◌≡◌, ◌++◌, drop, map, flat_map}
use Rattle.span_outlet.specs.Lines.{plain_line}
use Rattle.span_replay.specs.Written.{note_line}
use Rattle.span_replay.proofs.run.script.write_notes.Given as goal

-- what is written, with the lines that are left, is the text of all
abbrev pub invariant-loop-line : goal.invariant-loop-line
invariant-loop-line g l =
    l.text.items ++ flat_map note_line (map plain_line (drop l.line-index l.line-items)) ≡ l.fn.text.items ++ flat_map note_line (map plain_line l.line-items)
