use Rattle.std.proofs.Common.{◌∙◌, [], ◌∷◌, ◌++◌, map, ap}
use Rattle.std.proofs.lemmas.List.{map-append}
use Rattle.span_layers.specs.Note.{plain_note}
use Rattle.span_core.specs.inside.Telling.{told_to}
use Rattle.span_core.proofs.Telling.{layer_more, layers_end}
use Rattle.span_core.proofs.notes.push_told.Goals as goal

pub loop-layer-preserved : goal.loop-layer-preserved
loop-layer-preserved c =
    let before = map plain_note c.loop-layer.notes.items in
    record {
      told = layer_more (told_to c.args.forest.now.spans c.args.what.now) c.in-Some.layer _ _ _ before _ c.in-Some.ensures.steps c.loop-layer.invariant.told
          (ap (map plain_note) c.in_ok-push.ensures.items ∙ map-append plain_note c.loop-layer.notes.items (c.in_ok-note.note ∷ [])
          ∙ ap (λ note. before ++ note ∷ []) c.in_ok-note.ensures.note);
      known = c.in_ok-note.ensures.known;
      remembers = c.in_ok-note.ensures.remembers;
    }

pub returns-clause-notes : goal.returns-clause-notes
returns-clause-notes c =
    let told = told_to c.args.forest.now.spans c.args.what.now in
    let layers = c.into_iter-layer-iterator.ensures.into_iter_gives ∙ c.told_layers-layers.ensures in
    layers_end told _ _ _ c.in-None.ensures.steps.0 c.loop-layer.invariant.told
    ∙ (λ j. map plain_note (c.reserve_exact.ensures.items j) ++ map told (layers j))
