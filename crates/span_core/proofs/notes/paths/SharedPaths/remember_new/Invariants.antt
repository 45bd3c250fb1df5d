use Rattle.std.specs.Prelude.{ℕ, List}
use Rattle.span_forest.specs.Spans.{Spans}
use Rattle.span_forest.specs.Forest.{ForestView}
use Rattle.span_core.specs.inside.Telling.{Knows}
use Rattle.span_core.specs.inside.Remembering.{ReadsOn, Remembers}
use Rattle.span_core.proofs.notes.paths.SharedPaths.remember_new.Given as goal

abbrev pub invariant-loop-path : goal.invariant-loop-path
invariant-loop-path l = (told : List (List ℕ) → List ℕ) (before : Spans) (forest : ForestView)
    → ReadsOn told before l.parent l.bits forest l.id → Knows told before l.fn.self
    → Remembers forest l.fn.known → Remembers forest l.known
