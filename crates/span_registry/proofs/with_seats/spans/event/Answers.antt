use Rattle.std.proofs.lemmas.Result.{IfOk-weaker}
use Rattle.span_outlet.specs.Request.{told}
use Rattle.span_registry.proofs.Seats.{seated_done, seated_told}
use Rattle.span_registry.proofs.Totals.{counted_of}
use Rattle.span_registry.proofs.with_seats.spans.event.Goals as goal

pub returns-clause-seated : goal.returns-clause-seated
returns-clause-seated g c =
    seated_done c.event_in-done.result c.args.core.now c.event_in-done.new.self _ (λ _. told) _ (λ _ accepted a. seated_told _ _ _ _ _ _ _ _ accepted a) c.event_in-done.ensures.accepted c.event_in-done.ensures.refused c.requires.seated

pub returns-clause-accepted : goal.returns-clause-accepted
returns-clause-accepted g c =
    IfOk-weaker c.event_in-done.result _ _ (λ _ accepted. counted_of _ _ _ _ c.what_was_sent_is_legal.ensures.legal c.what_was_sent_is_legal-2.ensures.legal c.what_was_sent_is_legal-2.ensures.fits accepted) c.event_in-done.ensures.accepted
