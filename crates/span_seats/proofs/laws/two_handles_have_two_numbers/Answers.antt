use Rattle.std.proofs.Common.{subst}
use Rattle.span_seats.specs.inside.WellFormed.{IsWellFormed}
use Rattle.span_seats.proofs.WellFormed.{shown_apart}
use Rattle.span_seats.proofs.laws.two_handles_have_two_numbers.Goals as goal

pub returns-clause-numbers : goal.returns-clause-numbers
returns-clause-numbers g c =
    shown_apart c.args.root.now _ _ _ _ _ _ (subst IsWellFormed c.root.view_is c.root.invariant.6) c.join.ensures.in_set c.join.ensures.root c.split-first.ensures.root c.join-2.ensures.in_set
