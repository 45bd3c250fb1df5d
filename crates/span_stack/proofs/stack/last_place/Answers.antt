use Rattle.std.proofs.Common.{rules}
use borrow.Author.Tests.{tests}
use Rattle.span_stack.proofs.Searches.{last_place_found}
use Rattle.span_stack.proofs.stack.last_place.Goals as goal

pub returns : goal.returns
returns c =
    last_place_found c.args.entries.now c.args.id _ _ _ c.rposition.result c.iter.ensures.rest
    (λ x b g turn. search (rules, tests)) c.rposition.ensures.ran
