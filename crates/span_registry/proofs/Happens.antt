-- What a call did where the lock was free happened in the registry's one history.
use Rattle.std.proofs.Common.{◌≡◌, ℕ, Option, List, subst}
use Rattle.span_id.specs.declared.limits.Limits.{Limits}
use Rattle.span_layers.specs.Filter.{Filter}
use Rattle.span_layers.specs.declared.form.Form.{Form}
use Rattle.span_history.specs.Own.{IsFront}
use Rattle.span_outlet.specs.Outlet.{RingName}
use Rattle.span_outlet.specs.Batch.{PlainBatch}
use Rattle.span_core.specs.History.{IsLegal}
use Rattle.span_core.specs.Core.{CoreView}
use Rattle.span_seats.specs.declared.view.RootView.{RootView}
use Rattle.span_registry.specs.Worker.{WorkerView, front_of}
use Rattle.span_registry.specs.Locked.{HoldsWhenFree}
use Rattle.span_registry.specs.Report.{IsWithin}
use Rattle.span_registry.specs.Happened.{Happened}
use Rattle.span_registry.proofs.Free.{free_legal}

-- A call told its worker what the core has sent: of the history that the keeper had before, the worker had seen a
-- beginning with all its own calls; then it has seen all that was sent, which is legal, of a core within the limits.
pub record HasTold
    (limits : Limits) (rules : List Filter) (history : List PlainBatch) (before after : WorkerView) (new : CoreView)
    : Type 0 where
  pub seen_before : IsFront (front_of before) history
  pub seen_after : after.seen ≡ new.sent
  pub legal : IsLegal rules limits.workers new.sent new.world
  pub within : IsWithin limits new

-- where the lock was free, and the call told its worker, this step of the locked core happened
pub happened_here : {limits : Limits} {rules : List Filter} {forms : List Form} {ring : Option RingName} {handle_parts call_parts handles calls : ℕ} {history : List PlainBatch} {root : RootView} {core : CoreView} {before after : WorkerView} {step : CoreView → CoreView → Type 0} {new : CoreView}
    → HoldsWhenFree limits rules forms ring handle_parts call_parts handles calls history root core
    → HasTold limits rules history before after new → step core new → Happened limits rules before after step
happened_here {core = core} {before = before} {new = new} free told did = record {
  old = core;
  new = new;
  limits_are = free.limits_are;
  rules_are = free.rules_are;
  legal = free_legal free;
  seen_before = subst (λ (h : List PlainBatch). IsFront (front_of before) h) free.history_is told.seen_before;
  step_is = did;
  seen_after = told.seen_after;
  legal_after = told.legal;
  within_after = told.within;
}
