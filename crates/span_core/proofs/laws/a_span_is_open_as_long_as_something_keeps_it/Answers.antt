use Rattle.std.proofs.Common.{refl}
use Rattle.span_core.specs.History.{more}
use Rattle.span_core.proofs.Legal.{whole}
use Rattle.span_core.proofs.Released.{closes_exactly}
use Rattle.span_core.proofs.KeptOpen.{closed_exactly}
use Rattle.span_core.proofs.laws.a_span_is_open_as_long_as_something_keeps_it.Goals as goal

pub returns-clause-next : goal.returns-clause-next
returns-clause-next g c =
    let legal = c.what_was_sent_is_legal.ensures.legal in
    let w = whole _ _ _ _ legal in
    λ request answer new id accepted o.
    (let after = whole _ _ _ new.world (more (record { request = request; answer = answer; notes = accepted.notes }) legal accepted.step refl) in
    let closes = closes_exactly _ _ _ _ request answer new.world accepted.step.changes w.settled c.entries_are_the_workers_inside.ensures id in
    let left = closed_exactly new.world.spans id after.settled.upheld in
    (λ listed. left.0 (closes.0 listed).1, λ none. closes.1 (o, left.1 none)))
