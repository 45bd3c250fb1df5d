use Rattle.span_core.proofs.Legal.{whole}
use Rattle.span_core.proofs.Entries.{counted_once}
use Rattle.span_core.proofs.laws.entries_are_counted_once.Goals as goal

pub returns : goal.returns
returns g c =
    counted_once c.args.core.now.world (whole _ _ _ _ c.what_was_sent_is_legal.ensures.legal).settled.upheld.forest.ids_apart c.entries_are_the_workers_inside.ensures
