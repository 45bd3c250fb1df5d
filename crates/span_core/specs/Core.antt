-- What contracts see of a core, and what a call does to it: it is accepted as one step, or refused and changes
-- nothing but how often the outlet lacked a place.
use Rattle.std.specs.Prelude.{◌≡◌, ℕ, ◌-◌, ◌^◌, Bool, true, ◌&&◌, ◌||◌, not, if◌then◌else◌, nat_lt, List, [], ◌∷◌, ◌++◌, length, Option, Some, None, is_some}
use Rattle.std.specs.List.{list_all}
use Rattle.span_id.specs.declared.fault.Fault.{Fault}
use Rattle.span_id.specs.declared.fault.Fault.TheVariants.{Unknown, CountFull, Full, NotEntered, BadName, Backlog, Memory}
use Rattle.span_id.specs.declared.limits.Limits.{Limits}
use Rattle.span_id.specs.Name.{is_name}
use Rattle.span_id.specs.Meta.{KeyValue}
use Rattle.span_id.specs.Ids.{has}
use Rattle.span_layers.specs.Note.{PlainNote}
use Rattle.span_layers.specs.Filter.{Filter}
use Rattle.span_layers.specs.declared.form.Form.{Form}
use Rattle.span_forest.specs.Spans.{Spans}
use Rattle.span_forest.specs.Count.{reference_count}
use Rattle.span_core.specs.World.{World, stack_of}
use Rattle.span_outlet.specs.Request.{Request, new_span, clone_span, enter, record_fields, event, Answer}
use Rattle.span_outlet.specs.Batch.{PlainBatch}
use Rattle.span_outlet.specs.Outlet.{RingName, one_more}
use Rattle.span_core.specs.Step.{IsStep, is_wanted_call, is_known, is_inside}
use Rattle.span_core.specs.History.{issued}
use Rattle.span_core.specs.NextId.{next_id_after}

-- the limits, the filters of the layers, the world, and of the outlet the batches that were sent to it,
-- how often it had no place for one, the forms in which it writes notes, and the ring that it puts them into, if
-- there is one
pub record CoreView : Type 0 where
  pub limits : Limits
  pub rules : List Filter
  pub world : World
  pub sent : List PlainBatch
  pub times_full : ℕ
  pub forms : List Form
  pub name : Option RingName

-- ---- the conditions of a call, as tests

-- the keys of the fields are names
abbrev pub are_keys : List KeyValue → Bool
are_keys fields = list_all (λ field. is_name field.0) fields

-- the name of a span or an event and all keys are names
abbrev pub is_named : Request → Bool
is_named (new_span worker meta fields parent) = is_name meta.name && are_keys fields
is_named (record_fields worker id fields) = are_keys fields
is_named (event worker meta message fields parent) = is_name meta.name && are_keys fields
is_named _ = true

-- the count of a span is below its greatest value
abbrev pub is_below_max : ℕ → Spans → ℕ → Bool
is_below_max max_count spans id = nat_lt (reference_count spans id) max_count

-- a parent is none, or its count is below its greatest value
abbrev pub is_parent_below_max : ℕ → Spans → Option ℕ → Bool
is_parent_below_max max_count spans None = true
is_parent_below_max max_count spans (Some id) = is_below_max max_count spans id

-- the count that would rise may rise: that of a parent, of the span that is cloned, of the span that is
-- entered where the entry is no duplicate
abbrev pub may_count : CoreView → Request → Bool
may_count core (new_span worker meta fields parent) =
    is_parent_below_max core.limits.max_count core.world.spans parent
may_count core (clone_span worker id) = is_below_max core.limits.max_count core.world.spans id
may_count core (enter worker id) =
    has (stack_of core.world worker) id || is_below_max core.limits.max_count core.world.spans id
may_count core _ = true

-- one more call may be accepted
abbrev pub may_send : CoreView → Bool
may_send core = nat_lt (length core.sent) (2 ^ 64 - 1)

-- the id that the next new span gets
abbrev pub id_after : CoreView → Option ℕ
id_after core = next_id_after core.limits.slots core.limits.last_generation core.sent

-- a slot is free for a new span
abbrev pub has_slot : CoreView → Request → Bool
has_slot core (new_span worker meta fields parent) = is_some (id_after core)
has_slot core _ = true

-- ---- how a call is judged

-- what a core says of a call by itself: it refuses it for a fault, no layer wants the span, or the call is due
pub data Judgement : Type 0 where
  refuses : Fault → Judgement
  unwanted : Judgement
  due : Judgement

-- A call is judged by the first of these tests that fails, in this order; it is due where none does.
abbrev pub judged : CoreView → Request → Judgement
judged core request =
    if not (is_named request) then refuses BadName else
    (if not (is_wanted_call core.rules request) then unwanted else
    (if not (is_known core.world.spans request) then refuses Unknown else
    (if not (may_count core request && may_send core) then refuses CountFull else
    (if not (has_slot core request) then refuses Full else
    (if not (is_inside core.world request) then refuses NotEntered else
    due)))))

-- nothing that the core itself decides stands against the call
abbrev pub IsDue : CoreView → Request → Type 0
IsDue core request = judged core request ≡ due

-- ---- what the calls' contracts say of a call

-- why a call is refused: the core judged so; or the call was due, and the outlet had no place or memory was refused
abbrev pub WhyRefused : CoreView → Request → Fault → Type 0
WhyRefused core request Backlog = IsDue core request
WhyRefused core request Memory = IsDue core request
WhyRefused core request fault = judged core request ≡ refuses fault

-- the two refusals that the outlet and memory decide
abbrev pub IsLate : Fault → Type 0
IsLate Backlog = Unit {0}
IsLate Memory = Unit {0}
IsLate _ = ⊥

-- only a refusal for want of a place is counted
abbrev pub times_after : Fault → ℕ → ℕ
times_after Backlog times = one_more times
times_after _ times = times

-- the call was refused, for the first reason that applies, and changed nothing but how often the outlet lacked a place
pub record IsRefused (old : CoreView) (request : Request) (fault : Fault) (new : CoreView) : Type 0 where
  pub why : WhyRefused old request fault
  pub unchanged : new ≡ record old { times_full = times_after fault old.times_full }

-- the call was accepted: it is one step, and one batch was sent
pub record IsAccepted (old : CoreView) (request : Request) (answer : Answer) (new : CoreView) : Type 0 where
  pub due : IsDue old request
  pub limits : new.limits ≡ old.limits
  pub rules : new.rules ≡ old.rules
  pub notes : List PlainNote
  pub step : IsStep old.rules (issued old.sent) old.world request answer notes new.world
  pub sent : new.sent ≡ old.sent ++ (record { request = request; answer = answer; notes = notes }) ∷ []
  pub times_full : new.times_full ≡ old.times_full
  pub forms : new.forms ≡ old.forms
  pub name : new.name ≡ old.name

-- a span was not wanted: the core judged so, and nothing changed
pub record IsNotWanted (old : CoreView) (request : Request) (new : CoreView) : Type 0 where
  pub not_wanted : judged old request ≡ unwanted
  pub same : new ≡ old
