-- One or two layers that are told of everything want a storm.
use Rattle.std.proofs.Common.{◌≡◌, true, List, [], ◌∷◌, ◌++◌, refl, ap, ◌∙◌}
use Rattle.span_layers.specs.Filter.{Filter}
use Rattle.span_layers.specs.Rule.{is_admitted}
use Rattle.span_storm.specs.Storm.{wants_jobs}
use Rattle.span_benchmark.specs.Told.{told_of_all}

wanted_by_one : wants_jobs (told_of_all ∷ []) ≡ true
unfolding is_admitted
wanted_by_one = refl

wanted_by_two : wants_jobs (told_of_all ∷ told_of_all ∷ []) ≡ true
unfolding is_admitted
wanted_by_two = refl

-- the only layer
pub wants_one : (filters before : List Filter) (filter : Filter) → filters ≡ before ++ filter ∷ [] → before ≡ [] → filter ≡ told_of_all → wants_jobs filters ≡ true
wants_one filters before filter is none told =
    ap wants_jobs (is ∙ ap (λ l. l ++ filter ∷ []) none ∙ ap (λ f. f ∷ []) told) ∙ wanted_by_one

-- one after another
pub wants_two : (filters between before : List Filter) (filter other : Filter) → filters ≡ between ++ other ∷ [] → between ≡ before ++ filter ∷ [] → before ≡ [] → filter ≡ told_of_all → other ≡ told_of_all → wants_jobs filters ≡ true
wants_two filters between before filter other is then none told other_told =
    ap wants_jobs (is ∙ ap (λ l. l ++ other ∷ []) then ∙ ap (λ l. (l ++ filter ∷ []) ++ other ∷ []) none
    ∙ ap (λ f. f ∷ other ∷ []) told ∙ ap (λ f. told_of_all ∷ f ∷ []) other_told) ∙ wanted_by_two
