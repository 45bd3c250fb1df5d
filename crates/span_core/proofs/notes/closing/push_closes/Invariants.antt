use Rattle.std.proofs.Common.{◌≡◌, ◌++◌, length, map, drop}
use Rattle.std.specs.Prelude.{flat_map}
use Rattle.span_layers.specs.Note.{plain_note}
use Rattle.span_forest.specs.Path.{path_text}
use Rattle.span_core.specs.inside.Telling.{Knows}
use Rattle.span_core.specs.Happening.{close_of, notes_of}
use Rattle.span_core.specs.inside.ClosingPaths.{IsChain, AreBelowFirst}
use Rattle.span_core.specs.inside.Remembering.{Remembers}
use Rattle.span_core.proofs.notes.closing.push_closes.Given as goal

-- the notes so far, with those of the spans that are left, are those of all; the places are at the next span
abbrev pub invariant-loop-id : goal.invariant-loop-id
invariant-loop-id l = record {
  told : map plain_note l.notes.items ++ flat_map (notes_of l.rules l.first.worker) (map (close_of l.forest.spans) (drop l.id-index l.closed))
      ≡ map plain_note l.initial.notes.items ++ flat_map (notes_of l.rules l.first.worker) (map (close_of l.forest.spans) l.closed);
  length : length l.places.items ≡ length l.rules;
  chain : IsChain l.forest.spans (drop l.id-index l.closed);
  below : AreBelowFirst l.rules l.forest.spans (map plain_note l.notes.items) (drop l.id-index l.closed) l.places.items;
  known : Knows path_text l.forest.spans l.paths;
  remembers : Remembers l.forest l.recent.paths;
}
