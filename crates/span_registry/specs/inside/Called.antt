-- What a call leaves, of which the books may be moved. No public clause cites it.
use Rattle.std.specs.Prelude.{◌≡◌, ◌≢◌, ℕ, ◌+◌, ◌^◌, ◌<◌, List, [], ◌∷◌, ◌++◌, length}
use Rattle.span_id.specs.declared.limits.Limits.{Limits}
use Rattle.span_layers.specs.Filter.{Filter}
use Rattle.span_outlet.specs.Batch.{PlainBatch}
use Rattle.span_id.specs.declared.fault.Fault.{Fault}
use Rattle.span_id.specs.declared.fault.Fault.TheVariants.{Unknown}
use Rattle.span_forest.specs.Count.{total_handles}
use Rattle.span_outlet.specs.Request.{Request, Answer, worker_of}
use Rattle.span_core.specs.History.{IsLegal}
use Rattle.span_core.specs.Handles.{handles_given_out, handles_given_back}
use Rattle.span_core.specs.Core.{CoreView, IsAccepted, IsRefused}

-- the call was accepted and may be counted: the history is legal, has one batch more and fits, and all spans have the
-- handles more or fewer that the call gives out or back
pub record MayBeCounted (old : CoreView) (request : Request) (answer : Answer) (new : CoreView) : Type 0 where
  pub accepted : IsAccepted old request answer new
  pub legal : IsLegal new.rules new.limits.workers new.sent new.world
  pub handles : total_handles new.world.spans + handles_given_back request ≡ total_handles old.world.spans + handles_given_out request
  pub calls : length new.sent ≡ length old.sent + 1
  pub fits : length new.sent < 2 ^ 64

-- the call was refused, and the span of its handle was there
pub record IsRefusedWhereHeld (old : CoreView) (request : Request) (fault : Fault) (new : CoreView) : Type 0 where
  pub refused : IsRefused old request fault new
  pub never_unknown : fault ≢ Unknown

-- the core is that of a registry with these limits and rules, and what it sent is this history
pub record IsAsLong (limits : Limits) (rules : List Filter) (history : List PlainBatch) (core : CoreView) : Type 0 where
  pub limits_are : core.limits ≡ limits
  pub rules_are : core.rules ≡ rules
  pub sent : core.sent ≡ history

-- the same, and what it sent is this history and one batch more, of a call of this worker
pub record IsOneLonger
    (limits : Limits) (rules : List Filter) (worker : ℕ) (history : List PlainBatch) (core : CoreView)
    : Type 0 where
  pub limits_are : core.limits ≡ limits
  pub rules_are : core.rules ≡ rules
  pub batch : PlainBatch
  pub by : worker_of batch.request ≡ worker
  pub sent : core.sent ≡ history ++ batch ∷ []
