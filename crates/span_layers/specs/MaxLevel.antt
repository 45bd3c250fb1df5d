-- The most verbose level that rules name.
use Rattle.std.specs.Prelude.{◌≡◌, ◌≤◌, List, [], map, flat_map, All, Contains, Option, Some, None}
use Rattle.span_id.specs.declared.level.Level.{Level}
use Rattle.span_id.specs.Level.{verbosity}
use Rattle.span_layers.specs.Filter.{Filter}
use Rattle.span_layers.specs.Rule.{Pair}

-- the levels of pairs, in their order
abbrev pub pair_levels : List Pair → List Level
pair_levels pairs = map (λ p. p.1) pairs

-- the levels of the pairs of all layers, in their order
abbrev pub levels_named : List Filter → List Level
levels_named filters = flat_map (λ f. pair_levels f.pairs) filters

-- the most verbose of some levels: it is one of them, and none is more verbose; there is none where there are no levels
abbrev pub IsMostVerbose : List Level → Option Level → Type 0
IsMostVerbose levels None = levels ≡ []
IsMostVerbose levels (Some most) = Contains levels most × All (λ level. verbosity level ≤ verbosity most) levels
