-- Whether anything listens, and above which level nothing does.
use Rattle.std.specs.Prelude.{◌≡◌, ℕ, Bool, List, [], ◌∷◌, Option, Some}
use Rattle.std.specs.List.{list_any}
use Rattle.span_id.specs.declared.level.Level.{Level}
use Rattle.span_id.specs.declared.level.Level.TheVariants.{Trace}
use Rattle.span_layers.specs.Filter.{Filter}
use Rattle.span_layers.specs.MaxLevel.{levels_named, IsMostVerbose}
use Rattle.span_layers.specs.Rule.{is_admitted}

-- some layer's rule admits a target at a level
abbrev pub some_rule_admits : List Filter → List ℕ → Level → Bool
some_rule_admits rules target level = list_any (λ f. is_admitted f.pairs target level) rules

-- no span and no event is wanted at a level above this one: TRACE where there is no layer, since then everything is,
-- else the most verbose one that a rule names, also in a pair that a later one of the same prefix overrides; there is
-- none where no rule names one
abbrev pub IsMaxLevel : List Filter → Option Level → Type 0
IsMaxLevel [] most = most ≡ Some Trace
IsMaxLevel (rule ∷ rules) most = IsMostVerbose (levels_named (rule ∷ rules)) most
