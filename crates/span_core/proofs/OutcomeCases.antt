-- What holds of each way in which a call can end holds of its outcome.
use Rattle.std.proofs.Common.{◌≡◌, refl}
use Rattle.span_id.specs.declared.fault.Fault.{Fault}
use Rattle.span_outlet.specs.Request.{Request}
use Rattle.span_core.specs.Core.{CoreView, Judgement, refuses, unwanted, due, judged, IsDue}
use Rattle.span_core.specs.Outcome.{Outcome, refused, not_wanted, done, outcome_of, outcome}

-- a call is refused, or not wanted, or done where nothing stands against it
pub by_outcome : (P : Outcome → Type 0) (core : CoreView) (request : Request) → ((fault : Fault) → P (refused fault)) → P not_wanted → (IsDue core request → P (done core request)) → P (outcome core request)
by_outcome P core request stopped undone finished = by_judgement (judged core request) refl
  where
    by_judgement : (j : Judgement) → judged core request ≡ j → P (outcome_of core request j)
    by_judgement (refuses fault) is = stopped fault
    by_judgement unwanted is = undone
    by_judgement due is = finished is
