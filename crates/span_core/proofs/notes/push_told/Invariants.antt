use Rattle.std.proofs.Common.{◌≡◌, ◌++◌, map}
use Rattle.span_layers.specs.Note.{plain_note}
use Rattle.span_core.specs.inside.Telling.{told_to, text_told, Knows}
use Rattle.span_core.specs.inside.Remembering.{Remembers}
use Rattle.span_core.proofs.notes.push_told.Given as goal

-- the notes so far, with those of the layers that are left, are those of all
abbrev pub invariant-loop-layer : goal.invariant-loop-layer
invariant-loop-layer l = record {
  told : map plain_note l.notes.items ++ map (told_to l.forest.spans l.what) l.layer-iterator
      ≡ map plain_note l.initial.notes.items ++ map (told_to l.forest.spans l.what) l.initial.layer-iterator;
  known : Knows (text_told l.what.subject) l.forest.spans l.paths;
  remembers : Remembers l.forest l.recent.paths;
}
