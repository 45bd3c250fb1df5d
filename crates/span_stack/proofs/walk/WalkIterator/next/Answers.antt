use Rattle.std.proofs.Common.{rules}
use borrow.Author.Tests.{tests}
use Rattle.span_stack.proofs.Searches.{unflagged_found, steps_mapped, makes_progress}
use Rattle.span_stack.proofs.walk.WalkIterator.next.Goals as goal

pub returns-clause-steps : goal.returns-clause-steps
returns-clause-steps c =
    let found = unflagged_found _ _ _ c.rfind.result (λ x b g turn. search (rules, tests)) c.rfind.ensures.ran in
    steps_mapped _ c.rfind.result c.map.result c.args.self.now _ _ c.self.view_is found c.map.ensures.cases (λ x y reads. search (rules, tests))

pub returns-clause-goes : goal.returns-clause-goes
returns-clause-goes c = makes_progress _ _ c.map.result (returns-clause-steps c)
