use Rattle.std.proofs.Common.{arith}
use Rattle.span_forest.proofs.Upheld.{empty_from_no_holder}
use Rattle.span_core.proofs.Legal.{whole}
use Rattle.span_core.proofs.Empties.{empty_from_no_entry}
use Rattle.span_core.proofs.laws.empty_where_nothing_is_held.Goals as goal

pub returns-clause-total : goal.returns-clause-total
returns-clause-total g c =
    let w = whole _ _ _ _ c.what_was_sent_is_legal.ensures.legal in
    λ none. empty_from_no_holder c.args.core.now.world.spans w.settled.upheld none

pub returns-clause-stacks : goal.returns-clause-stacks
returns-clause-stacks g c =
    let w = whole _ _ _ _ c.what_was_sent_is_legal.ensures.legal in
    λ handles stacks. empty_from_no_entry c.args.core.now.world w.settled.upheld c.entries_are_the_workers_inside.ensures handles stacks

pub returns-clause-counted : goal.returns-clause-counted
returns-clause-counted g c =
    let w = whole _ _ _ _ c.what_was_sent_is_legal.ensures.legal in
    λ handles entries. empty_from_no_holder c.args.core.now.world.spans w.settled.upheld (let counted = c.entries_are_counted_once.ensures in omega (arith, counted, handles, entries))
