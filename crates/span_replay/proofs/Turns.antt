-- What each line of a script keeps.
use Rattle.std.proofs.Common.{◌≡◌, ℕ, ◌+◌, ◌<◌, ◌≤◌, Bool, true, false, ◌&&◌, if◌then◌else◌, List, [], length, Option, Ok, Err, refl, sym, ap, subst, arith}
use Rattle.std.specs.Prelude.{nat_lt, ⊤}
use Rattle.std.proofs.lemmas.Bool.{and_parts, leb-true}
use Rattle.std.proofs.lemmas.List.Folds.{sum_by-replicate}
use Rattle.span_id.specs.declared.limits.Limits.{Limits}
use Rattle.span_stack.specs.Stack as stack
use Rattle.span_core.specs.World.{stack_of}
use Rattle.span_outlet.specs.Request as call
use Rattle.span_core.specs.Core.{CoreView}
use Rattle.span_core.specs.Outcome.{outcome}
use Rattle.span_core.proofs.Steady.{steady_start}
use Rattle.span_core.proofs.Weights.{weight, most_more}
use Rattle.span_replay.specs.Faults.{id_of_key, parent_of_key, free_label, is_taken}
use Rattle.span_replay.specs.Labels.{Bound}
use Rattle.span_script.specs.Operation.{NewLayer, NewSpan, at_start, Operation, set_limits, add_layer, make, on_span, record_fields, tell, find, json_of, operation_of}
use Rattle.span_replay.specs.Requests.{request_of_call, request_of_new, request_of_event}
use Rattle.span_script.specs.Script.{is_skipped}
use Rattle.span_replay.specs.State.{State, default_limits, empty_core, first_state}
use Rattle.span_replay.specs.Written.{core_left}
use Rattle.span_replay.specs.Meaning.{Turn, are_in_range, limits_turn, layer_turn, call_turn, made_turn, new_turn, turn_of, stage_after, value_turn, read_turn, line_turn}
use Rattle.span_script.specs.declared.reason.Reason.TheVariants.{LabelTaken}
use Rattle.span_script.specs.declared.operations.SpanCall.{SpanCall}
use Rattle.span_script.specs.declared.operations.SpanCall.TheVariants.{Clone, Close, Enter, Exit}
use Rattle.span_script.proofs.Fits.{IsFit, WhereOk, then_ok, then_ok_with, operation_fits}
use Rattle.span_replay.proofs.Tracked.{IsTracked, Leads, MakesNone, call_leads, made_leads}

-- between two lines: there is a worker, and before the first line nothing has happened
pub record IsGood (state : State) : Type 0 where
  pub tracked : IsTracked state.core state.labels
  pub some_worker : 0 < state.core.limits.workers
  pub first : state.stage ≡ at_start → state ≡ first_state

-- after an operation, before its stage is noted
record Follows (old new : State) : Type 0 where
  tracked : IsTracked new.core new.labels
  some_worker : 0 < new.core.limits.workers
  weight : weight new.core ≤ weight old.core + 3

-- after a line
pub record Next (old new : State) : Type 0 where
  pub good : IsGood new
  pub weight : weight new.core ≤ weight old.core + 3

-- ---- the lines before the first call

-- a core of which no call was made
no_weight : (limits : Limits) → weight (empty_core limits) ≡ 0
no_weight limits = let none = sum_by-replicate (λ (s : List ℕ). length s) limits.workers [] in omega (arith, none)

pub tracked_start : (limits : Limits) → limits.slots ≤ 16777216 → IsTracked (empty_core limits) []
tracked_start limits high = record {
  steady = steady_start limits (empty_core limits) high refl refl refl;
  named = λ id held. absurd (omega (arith, held));
}

starts_light : (limits : Limits) → weight (empty_core limits) ≤ weight first_state.core + 3
starts_light limits = let light = no_weight limits in omega (arith, light)

-- `limits` comes first, so it changes a core of which no call was made
limits_first : (limits : Limits) (b : Bool) → are_in_range limits ≡ b → Follows first_state (limits_turn first_state limits).state
limits_first limits true is =
    let all = and_parts _ _ is in
    let slots = and_parts _ _ all.0 in
    let workers = and_parts _ _ (and_parts _ _ (and_parts _ _ (and_parts _ _ all.1).1).1).0 in
    rw is (record { tracked = tracked_start limits (leb-true limits.slots 16777216 slots.1); some_worker = leb-true 1 limits.workers workers.0; weight = starts_light limits })
limits_first limits false is = rw is (record { tracked = tracked_start default_limits (omega arith); some_worker = omega arith; weight = omega arith })

-- a line that changes nothing
stays : (state : State) → IsGood state → Follows state state
stays state good = record { tracked = good.tracked; some_worker = good.some_worker; weight = omega arith }

-- a layer more changes neither the spans nor the stacks nor the calls so far
layer_follows : (hooks : ℕ) (state : State) (layer : NewLayer) → IsGood state → Follows state (layer_turn hooks state layer).state
layer_follows hooks state layer good = by_case (nat_lt (length state.core.rules) 64 && nat_lt (length state.core.rules) hooks) refl
  where
    by_case : (b : Bool) → (nat_lt (length state.core.rules) 64 && nat_lt (length state.core.rules) hooks) ≡ b → Follows state (layer_turn hooks state layer).state
    by_case true is =
        rw is (let was = good.tracked in let steady = was.steady in record {
          tracked = record {
            steady = record { upheld = steady.upheld; world = steady.world; stacks = steady.stacks; slots = steady.slots };
            named = was.named;
          };
          some_worker = good.some_worker;
          weight = omega arith;
        })
    by_case false is = rw is (stays state good)

-- ---- calls

-- the state after a call has the core and the labels that the call leaves
leads_follow : (state : State) (core : CoreView) (labels : Bound) (more : ℕ) (new : State) → 0 < state.core.limits.workers → Leads state.core core labels more → more ≤ 3 → new.core ≡ core → new.labels ≡ labels → Follows state new
leads_follow state core labels more new some leads few core_is labels_are = record {
  tracked = rw (core_is, labels_are) leads.tracked;
  some_worker = (let same = ap (λ limits. limits.workers) leads.limits in rw core_is (omega (arith, some, same)));
  weight = (let heavier = leads.weight in rw core_is (omega (arith, heavier, few)));
}

few_more : (request : call.Request) → most_more request ≤ 3
few_more (call.new_span worker meta fields parent) = omega arith
few_more (call.clone_span worker id) = omega arith
few_more (call.enter worker id) = omega arith
few_more (call.exit worker id) = omega arith
few_more (call.try_close worker id) = omega arith
few_more (call.record_fields worker id fields) = omega arith
few_more (call.event worker meta message fields parent) = omega arith

call_follows : (state : State) (request : call.Request) → IsGood state → call.worker_of request < state.core.limits.workers → MakesNone state.core request → Follows state (call_turn state request).state
call_follows state request good low none =
    leads_follow state (core_left state.core (outcome state.core request)) state.labels (most_more request) (call_turn state request).state good.some_worker
    (call_leads state.core state.labels request good.tracked low none) (few_more request) refl refl

span_call_follows : (state : State) (span_call : SpanCall) (worker id : ℕ) → IsGood state → worker < state.core.limits.workers → Follows state (call_turn state (request_of_call span_call worker id)).state
span_call_follows state Clone worker id good low = call_follows state (call.clone_span worker id) good low (λ j e. cc)
span_call_follows state Close worker id good low = call_follows state (call.try_close worker id) good low (λ j e. cc)
span_call_follows state Enter worker id good low = call_follows state (call.enter worker id) good low (λ j e. cc)
span_call_follows state Exit worker id good low = call_follows state (call.exit worker id) good low (λ j e. cc)

made_follows : (state : State) (new : NewSpan) (parent : Option ℕ) → IsGood state → new.worker < state.core.limits.workers → is_taken state.core.world.spans state.labels new.label ≡ false
    → Follows state (made_turn state new.label (request_of_new new parent)).state
made_follows state new parent good low free =
    leads_follow state _ _ 3 (made_turn state new.label (request_of_new new parent)).state good.some_worker
    (made_leads state.core state.labels new.label new.worker (record { name = new.name; target = new.target; level = new.level }) new.fields parent good.tracked low free) (omega arith) refl refl

-- where the label is taken the script is at fault
label_free : (state : State) (label : List ℕ) (b : Bool) → is_taken state.core.world.spans state.labels label ≡ b
    → WhereOk (if b then Err LabelTaken else Ok tt) (λ (u : ⊤). is_taken state.core.world.spans state.labels label ≡ false)
label_free state label true is = record { is = tt }
label_free state label false is = record { is = is }

new_follows : (state : State) (new : NewSpan) → IsGood state → new.worker < state.core.limits.workers → WhereOk (new_turn state new) (λ (turn : Turn). Follows state turn.state)
unfolding new_turn
new_follows state new good low =
    then_ok (parent_of_key state.labels (stack.current (stack_of state.core.world new.worker)) new.parent) _ (λ parent.
    then_ok_with (free_label state.core.world.spans state.labels new.label) _ (label_free state new.label (is_taken state.core.world.spans state.labels new.label) refl) (λ u free.
    record { is = made_follows state new parent good low free }))

-- ---- any operation

turn_follows : (hooks : ℕ) (state : State) (operation : Operation) → IsGood state → IsFit state.core.limits.workers state.stage operation → WhereOk (turn_of hooks state operation) (λ (turn : Turn). Follows state turn.state)
turn_follows hooks state (set_limits limits) good fit =
    record { is = subst (λ (s : State). Follows s (limits_turn s limits).state) (sym (good.first fit)) (limits_first limits (are_in_range limits) refl) }
turn_follows hooks state (add_layer layer) good fit = record { is = layer_follows hooks state layer good }
turn_follows hooks state (make new) good fit = new_follows state new good fit
turn_follows hooks state (on_span span_call key worker) good fit =
    then_ok (id_of_key state.labels key) _ (λ id. record { is = span_call_follows state span_call worker id good fit })
turn_follows hooks state (record_fields key fields worker) good fit =
    then_ok (id_of_key state.labels key) _ (λ id. record { is = call_follows state (call.record_fields worker id fields) good fit (λ j e. cc) })
turn_follows hooks state (tell event) good fit = record { is = call_follows state (request_of_event event) good fit (λ j e. cc) }
turn_follows hooks state (find key) good fit = then_ok (id_of_key state.labels key) _ (λ id. record { is = stays state good })

-- no stage after an operation is the start
started : (operation : Operation) → stage_after operation ≡ at_start → ⊥
started (set_limits limits) is = cc
started (add_layer layer) is = cc
started (make new) is = cc
started (on_span span_call key worker) is = cc
started (record_fields key fields worker) is = cc
started (tell event) is = cc
started (find key) is = cc

-- a line that is read
read_next : (hooks : ℕ) (state : State) (line : List ℕ) → IsGood state → WhereOk (read_turn hooks state line) (λ (turn : Turn). Next state turn.state)
unfolding read_turn value_turn
read_next hooks state line good =
    then_ok (json_of line) _ (λ value.
    then_ok_with (operation_of state.core.limits.workers state.stage value) _ (operation_fits state.core.limits.workers good.some_worker state.stage value) (λ operation fit.
    then_ok_with (turn_of hooks state operation) _ (turn_follows hooks state operation good fit) (λ turn follows.
    record {
      is = record {
        good = record { tracked = follows.tracked; some_worker = follows.some_worker; first = λ is. absurd (started operation is) };
        weight = follows.weight;
      };
    })))

-- any line
pub line_next : (hooks : ℕ) (state : State) (line : List ℕ) → IsGood state → WhereOk (line_turn hooks state line) (λ (turn : Turn). Next state turn.state)
line_next hooks state line good = by_case (is_skipped line)
  where
    by_case : (b : Bool) → WhereOk (if b then Ok (record { text = []; state = state }) else read_turn hooks state line) (λ (turn : Turn). Next state turn.state)
    by_case true = record { is = record { good = good; weight = omega arith } }
    by_case false = read_next hooks state line good

pub good_start : IsGood first_state
good_start = record { tracked = tracked_start default_limits (omega arith); some_worker = omega arith; first = λ is. refl }

pub light_start : weight first_state.core ≡ 0
light_start = no_weight default_limits
