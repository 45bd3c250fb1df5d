use Rattle.std.proofs.Common.{rules}
use borrow.Author.Tests.{tests}
use Rattle.span_outlet.proofs.OfLayer.{found_of_layer, one_less}
use Rattle.span_outlet.proofs.layer_lines.LayerLinesIterator.next.Goals as goal

pub returns-clause-steps : goal.returns-clause-steps
returns-clause-steps c =
    rw (← c.self.view_is) (found_of_layer c.self.inside.layer _ _ _ c.find.result (λ x b g turn. search (rules, tests)) c.find.ensures.ran)

pub returns-clause-goes : goal.returns-clause-goes
returns-clause-goes c = one_less _ _ c.find.result (returns-clause-steps c)
