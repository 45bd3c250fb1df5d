-- How many calls, holders and entries of stacks there are: a bound that no exit and no close raises. And which
-- handles there are after a call.
use Rattle.std.proofs.Common.{◌≡◌, ℕ, ◌+◌, ◌<◌, ◌≤◌, Bool, true, false, cond, not, List, [], ◌∷◌, ◌++◌, length, get_or, set, refl, sym, ap, subst, inl, inr, arith, length-append}
use Rattle.std.specs.Prelude.{sum_by, ◌⊎◌, unwrap_or}
use Rattle.std.proofs.lemmas.Bool.{cases_Bool, false≢true}
use Rattle.std.proofs.lemmas.Bool.Decides.{eqb_tells}
use Rattle.std.proofs.lemmas.List.Sums.{sum_by-set}
use Rattle.span_id.specs.Ids.{has}
use Rattle.span_layers.specs.Note.{PlainNote}
use Rattle.span_layers.specs.Filter.{admission_set}
use Rattle.span_forest.specs.declared.span.Holder.TheVariants.{Handle, Entry}
use Rattle.span_forest.specs.Node.{new_node, with_fields}
use Rattle.span_forest.specs.Spans.{find}
use Rattle.span_forest.specs.Count.{total_held}
use Rattle.span_forest.specs.Holders.{IsHeld, held_in, with_more}
use Rattle.span_forest.specs.Keep.{with_holder}
use Rattle.span_forest.specs.Release.{spans_left}
use Rattle.span_forest.proofs.Totals.{total-with}
use Rattle.span_slots.proofs.Entries.{find-with_other}
use Rattle.span_stack.specs.Stack.{without_last}
use Rattle.span_core.specs.World.{World, stack_of}
use Rattle.span_outlet.specs.Request.{Request, new_span, clone_span, enter, exit, try_close, record_fields, event, made, worker_of}
use Rattle.span_core.specs.Step.{stays_inside}
use Rattle.span_core.specs.Core.{CoreView, id_after, IsDue}
use Rattle.span_core.proofs.Deciding.{held_from}
use Rattle.span_core.proofs.Judging.{tests_of}
use Rattle.span_core.proofs.Accepting.{held_open, inside_held}
use Rattle.span_core.proofs.Holds.{held-changed, handles-released, handles-left, handles-kept_other, total-released, total-kept, total-same}
use Rattle.span_core.proofs.Steady.{IsSteady, answer_in, world_then, core_then}

-- the entries of all stacks, with the duplicates
abbrev pub all_entries_in : List (List ℕ) → ℕ
all_entries_in stacks = sum_by length stacks

abbrev pub weight_in : World → ℕ
weight_in world = total_held world.spans + all_entries_in world.stacks

-- the calls so far, the holders and the entries of stacks
abbrev pub weight : CoreView → ℕ
weight core = weight_in core.world + length core.sent

-- a call that gives nothing back makes one call, at most one holder and at most one entry
abbrev pub most_more : Request → ℕ
most_more (exit worker id) = 0
most_more (try_close worker id) = 0
most_more _ = 3

pub length-without_last : (stack : List ℕ) (id : ℕ) → has stack id ≡ true → length (without_last stack id) + 1 ≡ length stack
length-without_last [] id inside = cc
length-without_last (lowest ∷ above) id inside =
    elim (cases_Bool (has above id)) [
      | inl t ↦ (let rest = length-without_last above id t in rw t (omega (arith, rest)))
      | inr t ↦ elim (eqb_tells lowest id) [
        | inl u ↦ rw (t, u.0) (omega arith)
        | inr u ↦ absurd (let h = rw (t, u.0) at inside in false≢true h)
      ]
    ]

-- the weight once one batch more was sent
sent_more : (core : CoreView) (request : Request) (notes : List PlainNote) (more : ℕ) → weight_in (world_then core request) + 1 ≤ weight_in core.world + more → weight (core_then core request notes) ≤ weight core + more
sent_more core request notes more h = let sent = length-append core.sent (record { request = request; answer = answer_in core request; notes = notes } ∷ []) in omega (arith, h, sent)

-- a stack more or less
entries-set : (stacks : List (List ℕ)) (worker : ℕ) (stack : List ℕ) → worker < length stacks → all_entries_in (set stacks worker stack) + length (get_or stacks worker []) ≡ all_entries_in stacks + length stack
entries-set stacks worker stack within = sum_by-set length stacks worker stack [] within

exit_weight : (core : CoreView) (worker id : ℕ) → IsSteady core → worker < length core.world.stacks → has (stack_of core.world worker) id ≡ true → weight_in (world_then core (exit worker id)) + 1 ≤ weight_in core.world
exit_weight core worker id steady within inside =
    let entries = entries-set core.world.stacks worker (without_last (stack_of core.world worker) id) within in
    let shorter = length-without_last (stack_of core.world worker) id inside in
    let fewer = fewer_if (stays_inside core.world worker id) in
    omega (arith, entries, shorter, fewer)
  where
    fewer_if : (b : Bool) → total_held (cond b core.world.spans (spans_left core.world.spans id Entry)) ≤ total_held core.world.spans
    fewer_if true = omega arith
    fewer_if false =
        let less = total-released core.world.spans id Entry steady.upheld.forest.ids_apart (inside_held core.world.spans core.world.stacks worker id steady.world within inside) in
        omega (arith, less)

enter_weight : (core : CoreView) (worker id : ℕ) → IsSteady core → worker < length core.world.stacks → IsHeld core.world.spans id Handle → weight_in (world_then core (enter worker id)) ≤ weight_in core.world + 2
enter_weight core worker id steady within held =
    let stack = stack_of core.world worker in
    let entries = entries-set core.world.stacks worker (stack ++ id ∷ []) within in
    let longer = length-append stack (id ∷ []) in
    let more = more_if (not (has stack id)) in
    omega (arith, entries, longer, more)
  where
    more_if : (b : Bool) → total_held (cond b (with_holder core.world.spans id Entry) core.world.spans) ≤ total_held core.world.spans + 1
    more_if true = (let there = held_open core.world.spans id Handle held in let is = total-kept core.world.spans id Entry there.0 steady.upheld.forest.ids_apart there.1 in omega (arith, is))
    more_if false = omega arith

pub weight_then : (core : CoreView) (request : Request) (notes : List PlainNote) → IsSteady core → worker_of request < core.limits.workers → IsDue core request → weight (core_then core request notes) ≤ weight core + most_more request
weight_then core (new_span worker meta fields parent) notes steady low due =
    sent_more core (new_span worker meta fields parent) notes 3
    (let is = total-with core.world.spans (unwrap_or (id_after core) 0) (new_node meta fields parent (admission_set core.rules meta.target meta.level)) in omega (arith, is))
weight_then core (clone_span worker id) notes steady low due =
    sent_more core (clone_span worker id) notes 3
    (let there = held_open core.world.spans id Handle (held_from core.world.spans id (tests_of core (clone_span worker id) due).known) in let is = total-kept core.world.spans id Handle there.0 steady.upheld.forest.ids_apart there.1 in omega (arith, is))
weight_then core (enter worker id) notes steady low due =
    sent_more core (enter worker id) notes 3 (let more = enter_weight core worker id steady (omega (arith, low, steady.stacks)) (held_from core.world.spans id (tests_of core (enter worker id) due).known) in omega (arith, more))
weight_then core (exit worker id) notes steady low due =
    sent_more core (exit worker id) notes 0 (let less = exit_weight core worker id steady (omega (arith, low, steady.stacks)) (tests_of core (exit worker id) due).inside in omega (arith, less))
weight_then core (try_close worker id) notes steady low due =
    sent_more core (try_close worker id) notes 0 (let less = total-released core.world.spans id Handle steady.upheld.forest.ids_apart (held_from core.world.spans id (tests_of core (try_close worker id) due).known) in omega (arith, less))
weight_then core (record_fields worker id fields) notes steady low due =
    sent_more core (record_fields worker id fields) notes 3 (let same = total-same (with_fields fields) (λ node. refl) core.world.spans id in omega (arith, same))
weight_then core (event worker meta message fields parent) notes steady low due =
    sent_more core (event worker meta message fields parent) notes 3 (omega arith)

-- a span that has a handle after a call had one before it, or was made by the call
pub handle_before : (core : CoreView) (request : Request) → IsDue core request → (j : ℕ) → IsHeld (world_then core request).spans j Handle → IsHeld core.world.spans j Handle ⊎ (answer_in core request ≡ made j)
handle_before core (new_span worker meta fields parent) due j held =
    elim (eqb_tells j (unwrap_or (id_after core) 0)) [
      | inl t ↦ inr (ap made (sym t.1))
      | inr t ↦ inl (let same = ap (held_in Handle) (find-with_other core.world.spans (unwrap_or (id_after core) 0) j (new_node meta fields parent (admission_set core.rules meta.target meta.level)) t.1) in omega (arith, held, same))
    ]
handle_before core (clone_span worker id) due j held =
    elim (eqb_tells j id) [
      | inl t ↦ inl (subst (λ (k : ℕ). IsHeld core.world.spans k Handle) (sym t.1) (held_from core.world.spans id (tests_of core (clone_span worker id) due).known))
      | inr t ↦ inl (let same = handles-kept_other core.world.spans id j t.1 in omega (arith, held, same))
    ]
handle_before core (enter worker id) due j held = inl (let same = same_if (not (has (stack_of core.world worker) id)) in omega (arith, held, same))
  where
    same_if : (b : Bool) → held_in Handle (find (cond b (with_holder core.world.spans id Entry) core.world.spans) j) ≡ held_in Handle (find core.world.spans j)
    same_if true = held-changed Handle (with_more Entry) (λ node. refl) core.world.spans id j
    same_if false = refl
handle_before core (exit worker id) due j held = inl (let same = handles_if (stays_inside core.world worker id) in omega (arith, held, same))
  where
    handles_if : (b : Bool) → held_in Handle (find (cond b core.world.spans (spans_left core.world.spans id Entry)) j) ≡ held_in Handle (find core.world.spans j)
    handles_if true = refl
    handles_if false = handles-left core.world.spans id j
handle_before core (try_close worker id) due j held = inl (let fewer = handles-released core.world.spans id j in omega (arith, held, fewer))
handle_before core (record_fields worker id fields) due j held = inl (let same = held-changed Handle (with_fields fields) (λ node. refl) core.world.spans id j in omega (arith, held, same))
handle_before core (event worker meta message fields parent) due j held = inl held
