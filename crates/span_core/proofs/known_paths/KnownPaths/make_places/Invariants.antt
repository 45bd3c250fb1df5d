use Rattle.span_forest.specs.Forest.{ForestView}
use Rattle.span_core.specs.inside.Remembering.{Remembers}
use Rattle.span_core.proofs.known_paths.KnownPaths.make_places.Given as goal

abbrev pub invariant-loop : goal.invariant-loop
invariant-loop l = (forest : ForestView) → Remembers forest l.initial.self → Remembers forest l.self
