use Rattle.span_forest.specs.Forest.{ForestView}
use Rattle.span_core.specs.inside.Remembering.{Remembers}
use Rattle.span_core.proofs.known_paths.KnownPaths.forget.Given as goal

abbrev pub invariant-loop-id : goal.invariant-loop-id
invariant-loop-id l = (forest : ForestView) → Remembers forest l.initial.self → Remembers forest l.self

abbrev pub invariant-loop-way : goal.invariant-loop-way
invariant-loop-way l = (forest : ForestView) → Remembers forest l.initial.self → Remembers forest l.self
