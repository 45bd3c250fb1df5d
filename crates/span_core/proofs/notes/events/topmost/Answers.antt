use Rattle.std.proofs.Common.{◌≡◌, ◌∙◌, ℕ, Bool, Option, Some, None, option_map, refl, rules, tests}
use Rattle.std.specs.List.{find as first_that}
use Rattle.std.proofs.lemmas.Iterator.Search.{find_from_yields_List}
use Rattle.std.proofs.lemmas.Iterator.Consumers.{YieldsList-from_first}
use Rattle.span_id.specs.Bits.{has_bit}
use Rattle.span_core.specs.Happening.{bits_in}
use Rattle.span_core.proofs.Summaries.{seen_some, seen_none}
use Rattle.span_core.proofs.notes.events.topmost.Goals as goal
use Rattle.span_core.proofs.notes.events.topmost.Goals.{After-find}

as_it_is : (o : Option ℕ) → o ≡ option_map (λ x. x) o
as_it_is None = refl
as_it_is (Some x) = refl

abbrev test : (c : After-find) → ℕ → Bool
test c id = has_bit (bits_in c.args.forest.now.spans id) c.args.layer

found : (c : After-find) → c.find.result ≡ first_that (test c) c.walk_between.result
found c =
    as_it_is c.find.result
    ∙ find_from_yields_List (test c) _ _ c.find.result c.find.ensures.ran
    (YieldsList-from_first (λ x. x) (λ rest. rest) c.walk_between.result refl)
    (λ x b q k. search (rules, tests))

pub returns-clause-some : goal.returns-clause-some
returns-clause-some c = seen_some (test c) c.find.result _ _ _ (found c) c.walk_between.ensures.ids

pub returns-clause-none : goal.returns-clause-none
returns-clause-none c = seen_none (test c) c.find.result _ _ _ (found c) c.walk_between.ensures.ids
