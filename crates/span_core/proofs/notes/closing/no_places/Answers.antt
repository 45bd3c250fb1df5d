use Rattle.std.proofs.Common.{◌∙◌, List, [], ◌∷◌, ◌++◌, Option, None, ap}
use Rattle.std.proofs.lemmas.List.{replicate-append-replicate}
use Rattle.span_core.specs.declared.notes.closing.Place.{Place}
use Rattle.span_core.proofs.notes.closing.no_places.Goals as goal

pub loop-preserved : goal.loop-preserved
loop-preserved c =
    c.push_reserved.ensures.items
    ∙ ap (λ (places : List (Option Place)). places ++ None ∷ []) c.loop.invariant
    ∙ replicate-append-replicate c.loop.counter 1 None
