use Rattle.std.proofs.Common.{map, ap, ◌∙◌}
use Rattle.std.specs.Prelude.{reverse}
use Rattle.span_forest.proofs.Paths.{map-reverse}
use Rattle.span_forest.proofs.path_text.path_seen.Goals as goal

pub returns-clause-names : goal.returns-clause-names
returns-clause-names c =
    ap (map (λ name. name.now)) c.reverse.ensures.items
    ∙ (map-reverse (λ name. name.now) c.in_ok-seen.seen.names.items
    ∙ ap reverse c.in_ok-seen.ensures.names)
