use Rattle.std.proofs.Common.{[]}
use Rattle.span_core.proofs.Legal.{whole}
use Rattle.span_core.proofs.Follows.{found_new, found_other}
use Rattle.span_core.proofs.laws.new_id_finds_its_span.Goals as goal

pub returns-clause-new : goal.returns-clause-new
returns-clause-new g c =
    let w = whole _ _ _ _ c.what_was_sent_is_legal.ensures.legal in
    λ worker id meta fields parent new accepted. found_new _ _ _ _ worker id meta fields parent new.world accepted.step.changes w.settled

pub returns-clause-others : goal.returns-clause-others
returns-clause-others g c =
    λ worker id other meta fields parent new accepted apart. found_other _ _ [] _ worker id meta fields parent new.world accepted.step.changes other apart
