-- What a storm is made with, and how it ends.
use Rattle.std.specs.Prelude.{◌≡◌, ℕ, ◌+◌, ◌*◌, ◌%◌, ◌<◌, Bool, List, [], ◌∷◌, ◌++◌, length, Option, None, IsSomeAnd, codes}
use Rattle.span_id.specs.declared.fault.Fault.{Fault}
use Rattle.span_id.specs.declared.fault.Fault.TheVariants.{TooManyLayers, BadName, BadLimits}
use Rattle.span_id.specs.declared.limits.Limits.{Limits}
use Rattle.span_id.specs.declared.level.Level.TheVariants.{Info}
use Rattle.span_id.specs.Meta.{PlainMeta}
use Rattle.span_layers.specs.Filter.{Filter}
use Rattle.span_layers.specs.declared.form.Form.{Form}
use Rattle.span_outlet.specs.declared.batch.ParentOf.TheVariants.{Current}
use Rattle.span_outlet.specs.Request.{Request, new_span, clone_span, enter, exit, try_close, record_fields, event}
use Rattle.span_outlet.specs.Batch.{PlainBatch}
use Rattle.span_core.specs.World.{empty_world}
use Rattle.span_core.specs.Step.{is_wanted_meta}
use Rattle.span_core.specs.History.{IsLegal}
use Rattle.span_core.specs.Core.{CoreView, WhyRefused}
use Rattle.span_history.specs.Own.{own}
use Rattle.span_registry.specs.declared.report.Report.{Report}
use Rattle.span_registry.specs.Report.{IsWithin, IsReportOf}
use Rattle.span_storm.specs.declared.fault.StormFault.{StormFault}
use Rattle.span_storm.specs.declared.fault.StormFault.TheVariants.{Memory, Refused, Held}

-- what has this name is of the target `app`, at the level of information
abbrev pub app_meta : List ℕ → PlainMeta
app_meta name = record { name = name; target = codes "app"; level = Info }

-- there are no layers, or one admits the spans of a storm: their target and their level
abbrev pub wants_jobs : List Filter → Bool
wants_jobs rules = is_wanted_meta rules (app_meta (codes "job"))

-- the limits of a storm with so many workers
abbrev pub storm_limits : ℕ → Limits
storm_limits workers = record {
  slots = 1024;
  last_generation = 4294967295;
  max_count = 4294967295;
  workers = workers;
  ring = 65536;
}

-- ---- the calls of a round

-- a round begins with a root span `job`, and makes a span `step` under the current one after four calls
pub data IsSpanOfRound (place : ℕ) (meta : PlainMeta) (parent : Option ℕ) : Type 0 where
  job : place ≡ 0 → meta ≡ app_meta (codes "job") → parent ≡ None → IsSpanOfRound place meta parent
  step : place ≡ 4 → meta ≡ app_meta (codes "step") → IsSpanOfRound place meta parent

-- handles are given back by the sixth call of a round, and by the last two
pub data IsPlaceOfClose (place : ℕ) : Type 0 where
  of_step : place ≡ 5 → IsPlaceOfClose place
  of_job : 6 < place → IsPlaceOfClose place

-- this worker makes the call in a round, after so many calls of the round
abbrev pub IsCallOfRound : ℕ → ℕ → Request → Type 0
IsCallOfRound worker place (new_span caller meta fields parent) =
    (caller ≡ worker) × (fields ≡ []) × IsSpanOfRound place meta parent
IsCallOfRound worker place (clone_span caller id) = (caller ≡ worker) × (place ≡ 1)
IsCallOfRound worker place (enter caller id) = (caller ≡ worker) × (place ≡ 2)
IsCallOfRound worker place (exit caller id) = (caller ≡ worker) × (place ≡ 6)
IsCallOfRound worker place (try_close caller id) = (caller ≡ worker) × IsPlaceOfClose place
IsCallOfRound worker place (record_fields caller id fields) = ⊥
IsCallOfRound worker place (event caller meta message fields parent) =
    (caller ≡ worker) × (place ≡ 3) × (meta ≡ app_meta (codes "event")) × (message ≡ codes "tick") × (fields ≡ [])
    × (parent ≡ Current)

-- These calls of a worker are the first of its rounds, in their order: a round has nine.
pub data AreOfRounds (worker : ℕ) : List PlainBatch → Type 0 where
  none : AreOfRounds worker []
  more : {before : List PlainBatch} (batch : PlainBatch) {calls : List PlainBatch}
      → AreOfRounds worker before → IsCallOfRound worker (length before % 9) batch.request
      → calls ≡ before ++ batch ∷ [] → AreOfRounds worker calls

-- ---- how it ends

-- The report of a storm of so many rounds with these limits and layers: it tells of a core which had them, kept the
-- limits, and put its batches into a ring of as many places as they say. The batches are a legal history, in
-- which each worker's own are its rounds, and which leaves the world as it was before any call: no span is open, and no
-- worker is inside one. The lines are those of that history in the layers' forms, but for the notes that were missed.
pub record IsStormEnd
    (limits : Limits) (rounds : ℕ) (rules : List Filter) (forms : List Form) (report : Report)
    : Type 0 where
  pub core : CoreView
  pub limits_are : core.limits ≡ limits
  pub rules_are : core.rules ≡ rules
  pub places : IsSomeAnd core.name (λ ring. ring.places ≡ limits.ring)
  pub legal : IsLegal rules limits.workers core.sent core.world
  pub within : IsWithin limits core
  pub each : (worker : ℕ) → worker < limits.workers → length (own worker core.sent) ≡ 9 * rounds
  pub rounds_are : (worker : ℕ) → worker < limits.workers → AreOfRounds worker (own worker core.sent)
  pub emptied : core.world ≡ empty_world limits.workers
  pub report_is : IsReportOf core forms report

-- ---- where it ends early

-- the call of a storm may meet this refusal: its names, its layers and its limits are good ones
abbrev pub MayCome : Fault → Type 0
MayCome BadName = ⊥
MayCome TooManyLayers = ⊥
MayCome BadLimits = ⊥
MayCome _ = Unit {0}

-- one of so many workers, which has a call of its rounds to make after so many
abbrev pub IsOneOf : ℕ → ℕ → ℕ → ℕ → Type 0
IsOneOf workers rounds worker calls = (worker < workers) × (calls < 9 * rounds)

-- A call of one of these workers was refused so: there was a core of these limits and rules, which kept the limits, and
-- in whose legal history the worker's own calls, so many, were the first of its rounds. The call is the next one, and
-- this is why the core refuses it.
pub record WasRefused (limits : Limits) (rules : List Filter) (is_one : ℕ → ℕ → Type 0) (fault : Fault) : Type 0 where
  pub may_come : MayCome fault
  pub worker : ℕ
  pub core : CoreView
  pub limits_are : core.limits ≡ limits
  pub rules_are : core.rules ≡ rules
  pub legal : IsLegal rules limits.workers core.sent core.world
  pub within : IsWithin limits core
  pub own_are : AreOfRounds worker (own worker core.sent)
  pub worker_is : is_one worker (length (own worker core.sent))
  pub request : Request
  pub call : IsCallOfRound worker (length (own worker core.sent) % 9) request
  pub why : WhyRefused core request fault

-- the party is one of these, after so many calls, and the gate, of which this is known where it holds a party at a call,
-- held it at the next
pub record WasHeld (holds : ℕ → ℕ → Type 0) (is_one : ℕ → ℕ → Type 0) (party : ℕ) : Type 0 where
  pub calls : ℕ
  pub party_is : is_one party calls
  pub held : holds party (calls + 1)

-- the party is one of so many workers, or the drain, whose number is that of all workers and which asks once
pub data IsParty (workers rounds party calls : ℕ) : Type 0 where
  is_worker : IsOneOf workers rounds party calls → IsParty workers rounds party calls
  is_drain : party ≡ workers → calls ≡ 0 → IsParty workers rounds party calls

-- A storm of so many rounds with these limits and layers ends early for want of memory, for a call of a worker that was
-- refused, or for a party that the gate held: a worker by its number, or the drain by the number after theirs.
abbrev pub IsStormFault : Limits → ℕ → List Filter → (ℕ → ℕ → Type 0) → StormFault → Type 0
IsStormFault limits rounds rules holds Memory = Unit {0}
IsStormFault limits rounds rules holds (Refused fault) = WasRefused limits rules (IsOneOf limits.workers rounds) fault
IsStormFault limits rounds rules holds (Held party) = WasHeld holds (IsParty limits.workers rounds) party
