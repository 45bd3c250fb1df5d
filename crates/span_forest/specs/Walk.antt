-- The walk of a span: the span, its parent, that one's parent, and so on up to a root.
use Rattle.std.specs.Prelude.{ℕ, zero, suc, List, [], ◌∷◌, length, Option, Some, None}
use Rattle.span_forest.specs.Spans.{Spans, parent_of}

-- the first so many spans of a walk
abbrev pub walk_within : ℕ → Spans → Option ℕ → List ℕ
walk_within n spans None = []
walk_within zero spans (Some id) = []
walk_within (suc n) spans (Some id) = id ∷ walk_within n spans (parent_of spans id)

-- the walk of a span: no walk is longer than there are open spans
abbrev pub walk : Spans → ℕ → List ℕ
walk spans id = walk_within (length spans) spans (Some id)

-- a walk ends at a root within so many steps
abbrev pub Ends : ℕ → Spans → Option ℕ → Type 0
Ends n spans None = Unit {0}
Ends zero spans (Some id) = ⊥
Ends (suc n) spans (Some id) = Ends n spans (parent_of spans id)
