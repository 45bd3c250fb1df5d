-- What each accepted call does to the number of batches, and to the number of handles that all spans have.
use Rattle.std.proofs.Common.{◌^◌, ◌<◌, length, ap, ◌∙◌}
use Rattle.std.proofs.lemmas.List.{length-append}
use Rattle.span_outlet.specs.Request.{Request, Answer}
use Rattle.span_core.specs.History.{IsLegal}
use Rattle.span_core.specs.Core.{CoreView, IsAccepted}
use Rattle.span_core.proofs.Legal.{whole}
use Rattle.span_core.proofs.Follows.{handles_step}
use Rattle.span_registry.specs.inside.Called.{MayBeCounted}

-- an accepted call is one more batch, of which a core that shows its number knows that it fits
pub counted_of : (old new : CoreView) (request : Request) (answer : Answer) → IsLegal old.rules old.limits.workers old.sent old.world → IsLegal new.rules new.limits.workers new.sent new.world
    → length new.sent < 2 ^ 64 → IsAccepted old request answer new → MayBeCounted old request answer new
counted_of old new request answer before legal fits accepted = record {
  accepted = accepted;
  legal = legal;
  handles = handles_step _ _ _ request answer new.world accepted.step.changes (whole _ _ _ _ before).settled.upheld.forest;
  calls = ap length accepted.sent ∙ length-append old.sent _;
  fits = fits;
}
