use Rattle.std.proofs.Common.{◌≡◌, ◌++◌, map}
use Rattle.span_layers.specs.Note.{plain_note}
use Rattle.span_forest.specs.Path.{path_text}
use Rattle.span_core.specs.inside.Telling.{Knows}
use Rattle.span_core.specs.Happening.{close_of, note_of}
use Rattle.span_core.specs.inside.ClosingPaths.{AreInTurn}
use Rattle.span_core.specs.inside.Remembering.{Remembers}
use Rattle.span_core.proofs.notes.closing.push_close.Given as goal

-- the notes so far, with those of the layers that are left, are those of all; the places of the other layers are at
-- the parent
abbrev pub invariant-loop-layer : goal.invariant-loop-layer
invariant-loop-layer l = record {
  told : map plain_note l.notes.items ++ map (note_of l.what.worker (close_of l.forest.spans l.what.id)) l.layer-iterator
      ≡ map plain_note l.initial.notes.items ++ map (note_of l.what.worker (close_of l.forest.spans l.what.id)) l.initial.layer-iterator;
  turn : AreInTurn l.rules l.forest.spans l.what.id l.layer-iterator (map plain_note l.notes.items) l.places.items;
  known : Knows path_text l.forest.spans l.paths;
  remembers : Remembers l.forest l.recent.paths;
}
