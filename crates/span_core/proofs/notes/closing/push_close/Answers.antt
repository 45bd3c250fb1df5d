use Rattle.std.proofs.Common.{◌≡◌, ◌∙◌, ◌++◌, length, map, filter, refl, sym, ap}
use Rattle.std.specs.Prelude.{is_some}
use Rattle.std.specs.List.{range_with_len}
use Rattle.std.proofs.lemmas.List.{length-map}
use Rattle.span_layers.specs.Note.{plain_note}
use Rattle.span_forest.specs.Path.{path_text}
use Rattle.span_core.specs.Happening.{close_of, is_told, note_of}
use Rattle.span_core.proofs.Telling.{layer_more, layers_end}
use Rattle.span_core.proofs.ClosingPaths.{turn_start, turn_more, turn_end, turn_there, turn_below, told_closes}
use Rattle.span_core.proofs.notes.closing.push_close.Goals as goal
use Rattle.span_core.proofs.notes.closing.push_close.Goals.{After-into_iter-layer-iterator}

-- the layers that the loop goes through
layers : (c : After-into_iter-layer-iterator) → c.into_iter-layer-iterator.result
    ≡ filter (is_told c.args.rules.now (close_of c.args.forest.now.spans c.args.what.now.id)) (range_with_len 0 (length c.args.rules.now))
layers c =
    c.into_iter-layer-iterator.ensures.into_iter_gives ∙ c.told_layers-layer-items.ensures
    ∙ told_closes c.args.rules.now c.args.forest.now.spans c.args.what.now.id _ c.requires.found

pub loop-layer-init : goal.loop-layer-init
loop-layer-init c =
    let ends = c.walks_end.ensures c.args.what.now.id (ap is_some c.requires.found) in
    record {
      told = refl;
      turn = turn_start c.args.rules.now c.args.forest.now.spans c.args.what.now.id _ _ _ _ c.requires.found ends c.requires.length (layers c) c.requires.below;
      known = c.requires.known;
      remembers = c.requires.remembers;
    }

pub loop-layer-preserved : goal.loop-layer-preserved
loop-layer-preserved c =
    let what = close_of c.args.forest.now.spans c.args.what.now.id in
    let ends = c.walks_end.ensures c.args.what.now.id (ap is_some c.requires.found) in
    let next = c.in-Some.ensures.steps in
    let was = c.loop-layer.invariant in
    record {
      told = layer_more (note_of c.args.what.now.worker what) c.in-Some.layer _ _ _ _ _ next was.told c.in_ok-push_close_note.ensures.notes;
      turn = turn_more c.args.rules.now c.args.forest.now.spans c.args.what.now.id c.in-Some.layer c.args.what.now.worker _ _ _ _ _ _ _ _
          c.requires.found ends (sym (length-map c.loop-layer.notes.items plain_note)) next was.turn
          c.in_ok-push_close_note.ensures.notes c.in_ok-push_close_note.ensures.places;
      known = c.in_ok-push_close_note.ensures.known;
      remembers = c.in_ok-push_close_note.ensures.remembers;
    }

pub push_close_note-requires-clause-there : goal.push_close_note-requires-clause-there
push_close_note-requires-clause-there c =
    turn_there c.args.rules.now c.args.forest.now.spans c.args.what.now.id c.in-Some.layer _ _ _ _ c.in-Some.ensures.steps c.loop-layer.invariant.turn

pub push_close_note-requires-clause-below : goal.push_close_note-requires-clause-below
push_close_note-requires-clause-below c =
    turn_below c.args.rules.now c.args.forest.now.spans c.args.what.now.id c.in-Some.layer _ _ _ _ c.in-Some.ensures.steps c.loop-layer.invariant.turn

pub returns-clause-length : goal.returns-clause-length
returns-clause-length c = c.loop-layer.invariant.turn.count

pub returns-clause-notes : goal.returns-clause-notes
returns-clause-notes c =
    let told = note_of c.args.what.now.worker (close_of c.args.forest.now.spans c.args.what.now.id) in
    layers_end told _ _ _ c.in-None.ensures.steps.0 c.loop-layer.invariant.told
    ∙ ap (λ layers. map plain_note c.args.notes.now.items ++ map told layers) (layers (goal.at.returns-clause-notes c).After-into_iter-layer-iterator)

pub returns-clause-below : goal.returns-clause-below
returns-clause-below c = turn_end c.args.rules.now c.args.forest.now.spans c.args.what.now.id _ _ _ c.in-None.ensures.steps.0 c.loop-layer.invariant.turn

pub returns-clause-known : goal.returns-clause-known
returns-clause-known c = c.clear.ensures path_text c.args.forest.now.spans
