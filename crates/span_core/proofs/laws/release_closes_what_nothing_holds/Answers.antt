use Rattle.span_core.proofs.Legal.{whole}
use Rattle.span_core.proofs.Released.{closes_exactly, closes_dead, closes_no_other, closes_once, closes_child_first}
use Rattle.span_core.proofs.laws.release_closes_what_nothing_holds.Goals as goal

pub returns-clause-exact : goal.returns-clause-exact
returns-clause-exact g c =
    let w = whole _ _ _ _ c.what_was_sent_is_legal.ensures.legal in
    λ request answer new id accepted. closes_exactly _ _ _ _ request answer new.world accepted.step.changes w.settled c.entries_are_the_workers_inside.ensures id

pub returns-clause-not_live : goal.returns-clause-not_live
returns-clause-not_live g c =
    let w = whole _ _ _ _ c.what_was_sent_is_legal.ensures.legal in
    λ request answer new id accepted o. closes_dead _ _ _ _ request answer new.world accepted.step.changes w.settled id o

pub returns-clause-others : goal.returns-clause-others
returns-clause-others g c =
    let w = whole _ _ _ _ c.what_was_sent_is_legal.ensures.legal in
    λ request answer new id accepted gives unlisted. closes_no_other _ _ _ _ request answer new.world accepted.step.changes w.settled id gives unlisted

pub returns-clause-once : goal.returns-clause-once
returns-clause-once g c =
    let w = whole _ _ _ _ c.what_was_sent_is_legal.ensures.legal in
    λ request answer new accepted. closes_once _ _ _ _ request answer new.world accepted.step.changes w.settled

pub returns-clause-child_first : goal.returns-clause-child_first
returns-clause-child_first g c =
    let w = whole _ _ _ _ c.what_was_sent_is_legal.ensures.legal in
    λ request answer new accepted. closes_child_first _ _ _ _ request answer new.world accepted.step.changes w.settled
