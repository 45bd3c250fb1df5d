use Rattle.std.proofs.Common.{ap, ◌∙◌}
use Rattle.span_outlet.specs.Request.{worker_of}
use Rattle.span_core.specs.ClosedSpans.{closed_by, tells_close}
use Rattle.span_core.proofs.Legal.{whole}
use Rattle.span_core.proofs.Released.{closes_once}
use Rattle.span_core.proofs.Announcing.{tally, tally_is, closes_counted, call_counted}
use Rattle.span_core.proofs.laws.closes_are_announced_once.Goals as goal

pub returns : goal.returns
returns g c =
    let old = c.args.core.now in
    let w = whole _ _ _ _ c.what_was_sent_is_legal.ensures.legal in
    λ request answer new layer id accepted.
    tally_is (tells_close layer id) accepted.notes
    ∙ ap (tally (tells_close layer id)) accepted.step.notes_are
    ∙ call_counted old.rules _ (worker_of request) layer id old.world request answer new.world accepted.step.changes
    ∙ closes_counted old.rules (worker_of request) layer id old.world.spans (closed_by answer) (closes_once _ _ _ _ request answer new.world accepted.step.changes w.settled)
