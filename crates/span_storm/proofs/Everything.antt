-- The rule that admits everything wants a storm.
use Rattle.std.proofs.Common.{◌≡◌, true, List, [], ◌∷◌, ◌++◌, refl, ap, ◌∙◌, ℕ}
use Rattle.span_id.specs.declared.level.Level.TheVariants.{Trace}
use Rattle.span_layers.specs.Filter.{Filter}
use Rattle.span_layers.specs.Rule.{is_admitted}
use Rattle.span_storm.specs.Storm.{wants_jobs}

one_layer : (spans : ℕ) → wants_jobs (record { pairs = ([], Trace) ∷ []; spans = spans } ∷ []) ≡ true
unfolding is_admitted
one_layer spans = refl

-- one layer more than none, whose rule has the empty prefix at the lowest level
pub wants_all : (filters before : List Filter) (filter : Filter) → filters ≡ before ++ filter ∷ [] → before ≡ [] → filter.pairs ≡ ([], Trace) ∷ [] → wants_jobs filters ≡ true
wants_all filters before filter is none pairs =
    ap wants_jobs (is ∙ ap (λ l. l ++ filter ∷ []) none) ∙ ap (λ p. wants_jobs (record { pairs = p; spans = filter.spans } ∷ [])) pairs ∙ one_layer filter.spans
