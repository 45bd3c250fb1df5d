-- What a call tells its worker of the registry's one history.
use Rattle.std.specs.Prelude.{◌≡◌, ℕ, List}
use Rattle.span_id.specs.declared.limits.Limits.{Limits}
use Rattle.span_layers.specs.Filter.{Filter}
use Rattle.span_history.specs.Own.{IsFront}
use Rattle.span_forest.specs.declared.span.Holder.TheVariants.{Handle}
use Rattle.span_forest.specs.Release.{closing_list}
use Rattle.span_core.specs.World.{World}
use Rattle.span_core.specs.History.{IsLegal}
use Rattle.span_core.specs.Core.{CoreView}
use Rattle.span_registry.specs.Worker.{WorkerView, front_of}
use Rattle.span_registry.specs.Report.{IsWithin}

-- It happened, in a registry that was made with these limits and rules, and the worker was so before and is so after:
-- there was a core, with a legal history that begins with all that the worker had seen and has no other calls of its
-- own, and this step left a core, within the limits, whose legal history is all that the worker has then seen.
pub record Happened
    (limits : Limits) (rules : List Filter) (before after : WorkerView) (step : CoreView → CoreView → Type 0)
    : Type 0 where
  pub old : CoreView
  pub new : CoreView
  pub limits_are : old.limits ≡ limits
  pub rules_are : old.rules ≡ rules
  pub legal : IsLegal rules limits.workers old.sent old.world
  pub seen_before : IsFront (front_of before) old.sent
  pub step_is : step old new
  pub seen_after : after.seen ≡ new.sent
  pub legal_after : IsLegal rules limits.workers new.sent new.world
  pub within_after : IsWithin limits new

-- the spans that close where a handle is given back
abbrev pub closed_by_close : World → ℕ → List ℕ
closed_by_close world id = closing_list world.spans id Handle
