-- What is true of every core between calls, for the definitions alone, and that each call that is done keeps it.
use Rattle.std.proofs.Common.{◌≡◌, ℕ, ◌<◌, ◌≤◌, Bool, true, false, cond, not, List, [], length, get_or, set, Option, Some, None, refl, sym, ap, ◌∙◌, subst, arith, length-set}
use Rattle.std.specs.Prelude.{is_some, unwrap_or}
use Rattle.std.proofs.lemmas.List.{length-replicate}
use Rattle.span_id.specs.declared.limits.Limits.{Limits}
use Rattle.span_id.specs.Ids.{has}
use Rattle.span_layers.specs.Note.{PlainNote}
use Rattle.span_layers.specs.Filter.{admission_set}
use Rattle.span_forest.specs.declared.span.Holder.{Holder}
use Rattle.span_forest.specs.declared.span.Holder.TheVariants.{Handle, Entry}
use Rattle.span_forest.specs.Node.{Node, new_node, with_fields}
use Rattle.span_forest.specs.Spans.{Spans, IsOpen, with_change}
use Rattle.span_forest.specs.Live.{is_live}
use Rattle.span_forest.specs.Holders.{with_more}
use Rattle.span_forest.specs.Keep.{with_holder}
use Rattle.span_forest.specs.Release.{without_holder, spans_left, closing_list}
use Rattle.span_forest.proofs.Nodes.{IsOpen-changed}
use Rattle.span_forest.proofs.Spared.{kept_passes, passing_kept, listed_open}
use Rattle.span_forest.proofs.Upheld.{IsUpheld, upheld_empty, upheld_with, upheld_changed, upheld_released}
use Rattle.span_stack.specs.Stack.{without_last}
use Rattle.span_core.specs.World.{World, IsWorld, empty_world, stack_of}
use Rattle.span_outlet.specs.Request.{Request, new_span, clone_span, enter, exit, try_close, record_fields, event, Answer, worker_of}
use Rattle.span_core.specs.Step.{is_open_parent, stays_inside, answer_to, world_after}
use Rattle.span_core.specs.NextId.{SlotsUsed, slots_after, with_answer}
use Rattle.span_core.specs.Core.{CoreView, id_after, IsDue}
use Rattle.span_core.specs.Outcome.{core_after}
use Rattle.span_core.proofs.Deciding.{held_from}
use Rattle.span_core.proofs.Judging.{tests_of}
use Rattle.span_core.proofs.Soundness.{slots_more}
use Rattle.span_core.proofs.Worlds.{nobody_inside, world_kept_handle, world_changed, world_released_handle, world_entered}
use Rattle.span_core.proofs.NewSpans.{world_new}
use Rattle.span_core.proofs.Accepting.{held_open, inside_held, world_after_exit}
use Rattle.span_core.proofs.UsedSlots.{Agrees, agrees_empty, agrees_fewer, agrees_closed, agrees_made}

-- something holds each span, the entries are those of the stacks, each worker has a stack, and the slots
-- that the history used agree with the spans
pub record IsSteady (core : CoreView) : Type 0 where
  pub upheld : IsUpheld core.world.spans
  pub world : IsWorld core.world
  pub stacks : length core.world.stacks ≡ core.limits.workers
  pub slots : Agrees core.limits.slots core.world.spans (slots_after core.limits.last_generation core.sent)

-- the answer of a call that is done, and the core after it, with some notes
abbrev pub answer_in : CoreView → Request → Answer
answer_in core request = answer_to core.world (unwrap_or (id_after core) 0) request

abbrev pub world_then : CoreView → Request → World
world_then core request = world_after core.rules core.world request (answer_in core request)

abbrev pub core_then : CoreView → Request → List PlainNote → CoreView
core_then core request notes = core_after core request (answer_in core request) notes (world_then core request)

abbrev pub used_in : CoreView → SlotsUsed
used_in core = slots_after core.limits.last_generation core.sent

-- before any call
pub steady_start : (limits : Limits) (core : CoreView) → limits.slots ≤ 16777216 → core.limits ≡ limits → core.world ≡ empty_world limits.workers → core.sent ≡ [] → IsSteady core
steady_start limits core high limits_are world_is nothing =
    rw (limits_are, world_is, nothing) (record {
      upheld = upheld_empty;
      world = record { entered = λ id. sym (nobody_inside limits.workers id) };
      stacks = length-replicate limits.workers [];
      slots = agrees_empty limits.slots high;
    })

-- the spans that are open after a release were open before it
left_open : (spans : Spans) (id : ℕ) (holder : Holder) (j : ℕ) → IsOpen (spans_left spans id holder) j → IsOpen spans j
left_open spans id holder j there =
    let left = without_holder spans id holder in
    let live = kept_passes (is_live left) left j there in
    IsOpen-changed _ spans id j (subst (λ (o : Option Node). is_some o ≡ true) (passing_kept (is_live left) left j live) there)

parent_open : (spans : Spans) (parent : Option ℕ) → is_open_parent spans parent ≡ true → (p : ℕ) → parent ≡ Some p → IsOpen spans p
parent_open spans None there p is = cc
parent_open spans (Some q) there p is = let same : q ≡ p = cc in subst (λ (k : ℕ). IsOpen spans k) same there

-- the parts after a call, put together
then_steady : (core : CoreView) (request : Request) (notes : List PlainNote)
    → IsUpheld (world_then core request).spans → IsWorld (world_then core request) → length (world_then core request).stacks ≡ core.limits.workers
    → Agrees core.limits.slots (world_then core request).spans (with_answer core.limits.last_generation (used_in core) (answer_in core request))
    → IsSteady (core_then core request notes)
then_steady core request notes upheld world stacks slots = record {
  upheld = upheld;
  world = world;
  stacks = stacks;
  slots = subst (λ (used : SlotsUsed). Agrees core.limits.slots (world_then core request).spans used) (sym (slots_more core.limits.last_generation core.sent (record { request = request; answer = answer_in core request; notes = notes }))) slots;
}

-- an exit of a span that stands in the worker's stack
exit_steady : (core : CoreView) (worker id : ℕ) (notes : List PlainNote) → IsSteady core → worker < core.limits.workers → has (stack_of core.world worker) id ≡ true → IsSteady (core_then core (exit worker id) notes)
exit_steady core worker id notes steady low inside = by_case (stays_inside core.world worker id) refl
  where
    spans : Spans
    spans = core.world.spans

    stacks : List (List ℕ)
    stacks = core.world.stacks

    within : worker < length stacks
    within = omega (arith, low, steady.stacks)

    lengths : length (set stacks worker (without_last (get_or stacks worker []) id)) ≡ core.limits.workers
    lengths = length-set stacks worker _ ∙ steady.stacks

    by_case : (b : Bool) → stays_inside core.world worker id ≡ b → IsSteady (core_then core (exit worker id) notes)
    by_case true stays =
        then_steady core (exit worker id) notes
        (rw stays steady.upheld)
        (rw stays (world_after_exit spans stacks worker id true within inside stays steady.world))
        lengths
        (rw stays steady.slots)
    by_case false stays =
        then_steady core (exit worker id) notes
        (rw stays (upheld_released spans id Entry steady.upheld.forest))
        (rw stays (world_after_exit spans stacks worker id false within inside stays steady.world))
        lengths
        (rw stays (agrees_closed core.limits.slots core.limits.last_generation spans (spans_left spans id Entry) (used_in core) (closing_list spans id Entry) (left_open spans id Entry)
        (listed_open spans steady.upheld.forest steady.upheld.positive id Entry (ap is_some (held_open spans id Entry (inside_held spans stacks worker id steady.world within inside)).1))
        steady.slots))

-- what is done keeps a core steady
pub steady_then : (core : CoreView) (request : Request) (notes : List PlainNote) → IsSteady core → worker_of request < core.limits.workers → IsDue core request → IsSteady (core_then core request notes)
steady_then core (new_span worker meta fields parent) notes steady low due =
    let spans = core.world.spans in
    let node = new_node meta fields parent (admission_set core.rules meta.target meta.level) in
    let next = agrees_made core.limits.slots core.limits.last_generation spans (used_in core) steady.slots (tests_of core (new_span worker meta fields parent) due).slot in
    then_steady core (new_span worker meta fields parent) notes
    (upheld_with spans (unwrap_or (id_after core) 0) node steady.upheld next.0 (parent_open spans parent (tests_of core (new_span worker meta fields parent) due).known) (omega arith))
    (world_new spans (unwrap_or (id_after core) 0) node core.world.stacks next.0 refl steady.world)
    steady.stacks
    (next.1 node)
steady_then core (clone_span worker id) notes steady low due =
    let spans = core.world.spans in
    then_steady core (clone_span worker id) notes
    (upheld_changed (with_more Handle) (λ node. refl) (λ node. omega arith) spans id steady.upheld)
    (world_kept_handle spans id core.world.stacks steady.world)
    steady.stacks
    (agrees_fewer core.limits.slots spans (with_holder spans id Handle) (used_in core) (λ j there. IsOpen-changed _ spans id j there) steady.slots)
steady_then core (enter worker id) notes steady low due =
    let spans = core.world.spans in
    let there = held_open spans id Handle (held_from spans id (tests_of core (enter worker id) due).known) in
    let within : worker < length core.world.stacks = omega (arith, low, steady.stacks) in
    let stands = has (stack_of core.world worker) id in
    then_steady core (enter worker id) notes
    (upheld_if (not stands))
    (world_entered spans core.world.stacks worker id (stack_of core.world worker) stands there.0 within refl refl there.1 steady.world)
    (length-set core.world.stacks worker _ ∙ steady.stacks)
    (slots_if (not stands))
  where
    upheld_if : (first : Bool) → IsUpheld (cond first (with_holder core.world.spans id Entry) core.world.spans)
    upheld_if true = upheld_changed (with_more Entry) (λ node. refl) (λ node. omega arith) core.world.spans id steady.upheld
    upheld_if false = steady.upheld

    slots_if : (first : Bool) → Agrees core.limits.slots (cond first (with_holder core.world.spans id Entry) core.world.spans) (used_in core)
    slots_if true = agrees_fewer core.limits.slots core.world.spans (with_holder core.world.spans id Entry) (used_in core) (λ j there. IsOpen-changed _ core.world.spans id j there) steady.slots
    slots_if false = steady.slots
steady_then core (exit worker id) notes steady low due = exit_steady core worker id notes steady low (tests_of core (exit worker id) due).inside
steady_then core (try_close worker id) notes steady low due =
    let spans = core.world.spans in
    then_steady core (try_close worker id) notes
    (upheld_released spans id Handle steady.upheld.forest)
    (world_released_handle spans id core.world.stacks steady.world)
    steady.stacks
    (agrees_closed core.limits.slots core.limits.last_generation spans (spans_left spans id Handle) (used_in core) (closing_list spans id Handle) (left_open spans id Handle)
    (listed_open spans steady.upheld.forest steady.upheld.positive id Handle (ap is_some (held_open spans id Handle (held_from spans id (tests_of core (try_close worker id) due).known)).1))
    steady.slots)
steady_then core (record_fields worker id fields) notes steady low due =
    let spans = core.world.spans in
    then_steady core (record_fields worker id fields) notes
    (upheld_changed (with_fields fields) (λ node. refl) (λ node. omega arith) spans id steady.upheld)
    (world_changed (with_fields fields) (λ node. refl) spans id core.world.stacks steady.world)
    steady.stacks
    (agrees_fewer core.limits.slots spans (with_change (with_fields fields) spans id) (used_in core) (λ j there. IsOpen-changed _ spans id j there) steady.slots)
steady_then core (event worker meta message fields parent) notes steady low due =
    then_steady core (event worker meta message fields parent) notes steady.upheld steady.world steady.stacks steady.slots
