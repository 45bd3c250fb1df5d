-- The path of a layer at a span.
use Rattle.std.specs.Prelude.{ℕ, List, [], ◌∷◌, ◌++◌, cond, Option, Some, None, reverse, codes}
use Rattle.std.specs.List.{join_with_byte}
use Rattle.span_id.specs.Bits.{has_bit}
use Rattle.span_forest.specs.Node.{Node}
use Rattle.span_slots.specs.Table.{find}
use Rattle.span_forest.specs.Spans.{Spans}
use Rattle.span_forest.specs.Walk.{walk}

-- the name of a span that the layer admits, else nothing
abbrev pub name_for : ℕ → Option Node → List (List ℕ)
name_for layer None = []
name_for layer (Some node) = cond (has_bit node.bits layer) (node.name ∷ []) []

-- the names of those of the spans that the layer admits, in their order
abbrev pub names_for : ℕ → Spans → List ℕ → List (List ℕ)
names_for layer spans [] = []
names_for layer spans (id ∷ ids) = name_for layer (find spans id) ++ names_for layer spans ids

-- the names on the walk of a span of those spans that the layer admits, root first
abbrev pub path : ℕ → Spans → ℕ → List (List ℕ)
path layer spans id = reverse (names_for layer spans (walk spans id))

-- the names joined by `:`; of no names `-`
abbrev pub path_text : List (List ℕ) → List ℕ
path_text [] = codes "-"
path_text (name ∷ names) = join_with_byte 58 (name ∷ names)
