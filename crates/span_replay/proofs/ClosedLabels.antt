-- The second part of the tidying: after it no span that a label names has a handle, so no span is open.
use Rattle.std.proofs.Common.{◌≡◌, ℕ, zero, suc, ◌-◌, ◌^◌, ◌<◌, ◌≤◌, true, List, [], ◌∷◌, length, map, replicate, refl, sym, ap, ◌∙◌, subst, inl, inr, arith}
use Rattle.std.proofs.lemmas.Bool.{cases_lt, false≢true, lt-ltb}
use Rattle.std.proofs.lemmas.Bool.Decides.{eqb_tells}
use Rattle.span_id.specs.Ids.{has}
use Rattle.span_forest.specs.declared.span.Holder.{Holder}
use Rattle.span_forest.specs.declared.span.Holder.TheVariants.{Handle, Entry}
use Rattle.span_forest.specs.Spans.{find}
use Rattle.span_forest.specs.Holders.{IsHeld, held_in}
use Rattle.span_forest.proofs.Upheld.{empty_from_no_holder}
use Rattle.span_core.specs.World.{workers_inside}
use Rattle.span_outlet.specs.Request as call
use Rattle.span_core.specs.Core.{CoreView, IsDue}
use Rattle.span_core.specs.Outcome.{Outcome}
use Rattle.span_core.proofs.Deciding.{handle_from}
use Rattle.span_core.proofs.Judging.{due_from}
use Rattle.span_core.proofs.Outcomes.{due_outcome}
use Rattle.span_core.proofs.Holds.{handles-released_same, handles-released, total-none}
use Rattle.span_core.proofs.Steady.{IsSteady}
use Rattle.span_core.proofs.Weights.{weight}
use Rattle.span_replay.specs.Labels.{Bound}
use Rattle.span_replay.specs.Written.{core_left, call_written, calls_written, each_written, closes}
use Rattle.span_replay.specs.State.{State}
use Rattle.span_replay.specs.Meaning.{left_by_workers, closed_by_labels}
use Rattle.span_replay.proofs.Bindings.{id_listed}
use Rattle.span_replay.proofs.Tracked.{IsTracked, Leads, leads_nowhere, leads_on, done_leads}
use Rattle.span_replay.proofs.Exits.{HasLeft, all_leave}

abbrev handles : CoreView → ℕ → ℕ
handles core id = held_in Handle (find core.world.spans id)

-- one close of a span that has a handle
record Closes (core : CoreView) (labels : Bound) (new : CoreView) : Type 0 where
  leads : Leads core new labels 0
  fewer : (j : ℕ) → handles new j ≤ handles core j
  stacks : new.world.stacks ≡ core.world.stacks

close_done : (core : CoreView) (labels : Bound) (id : ℕ) → IsTracked core labels → 0 < core.limits.workers → weight core < 2 ^ 64 - 1 → IsHeld core.world.spans id Handle
    → Closes core labels (call_written core (call.try_close 0 id)).core × (handles (call_written core (call.try_close 0 id)).core id ≡ handles core id - 1)
close_done core labels id tracked low light held =
    subst (λ (o : Outcome). Closes core labels (core_left core o) × (handles (core_left core o) id ≡ handles core id - 1))
    (sym (due_outcome core (call.try_close 0 id) due))
    (record { leads = done_leads core labels (call.try_close 0 id) tracked low (λ j e. cc) due; fewer = handles-released core.world.spans id; stacks = refl }, handles-released_same core.world.spans id)
  where
    due : IsDue core (call.try_close 0 id)
    due = due_from core (call.try_close 0 id) (record { named = refl; wanted = refl; known = handle_from core.world.spans id held; counts = lt-ltb (length core.sent) (2 ^ 64 - 1) (omega (arith, light)); slot = refl; inside = refl })

closes_nowhere : (core : CoreView) (labels : Bound) → IsTracked core labels → Closes core labels core
closes_nowhere core labels tracked = record { leads = leads_nowhere core labels 0 tracked; fewer = λ j. omega arith; stacks = refl }

closes_on : (old mid new : CoreView) (labels : Bound) → Closes old labels mid → Closes mid labels new → Closes old labels new
closes_on old mid new labels first rest = record {
  leads = leads_on old mid new labels first.leads rest.leads;
  fewer = λ j. (let a = first.fewer j in let b = rest.fewer j in omega (arith, a, b));
  stacks = rest.stacks ∙ first.stacks;
}

still_some : (old new : CoreView) (labels : Bound) → Leads old new labels 0 → 0 < old.limits.workers → 0 < new.limits.workers
still_some old new labels leads low = let same = ap (λ limits. limits.workers) leads.limits in omega (arith, low, same)

still_light : (old new : CoreView) (labels : Bound) → Leads old new labels 0 → weight old < 2 ^ 64 - 1 → weight new < 2 ^ 64 - 1
still_light old new labels leads light = let more = leads.weight in omega (arith, light, more)

-- as many closes as the span has handles
span_closes : (n : ℕ) (core : CoreView) (labels : Bound) (id : ℕ) → IsTracked core labels → 0 < core.limits.workers → weight core < 2 ^ 64 - 1 → handles core id ≡ n
    → Closes core labels (calls_written core (replicate n (call.try_close 0 id))).core × (handles (calls_written core (replicate n (call.try_close 0 id))).core id ≡ 0)
unfolding calls_written
span_closes zero core labels id tracked low light is = (closes_nowhere core labels tracked, is)
span_closes (suc n) core labels id tracked low light is =
    let mid = (call_written core (call.try_close 0 id)).core in
    let first = close_done core labels id tracked low light (omega (arith, is)) in
    let left : handles mid id ≡ n = (let less = first.1 in omega (arith, less, is)) in
    let rest = span_closes n mid labels id first.0.leads.tracked (still_some core mid labels first.0.leads low) (still_light core mid labels first.0.leads light) left in
    (closes_on core mid _ labels first.0 rest.0, rest.1)

-- all spans of a list of ids are closed
spans_close : (ids : List ℕ) (core : CoreView) (labels : Bound) → IsTracked core labels → 0 < core.limits.workers → weight core < 2 ^ 64 - 1
    → Closes core labels (each_written closes core ids).core × ((j : ℕ) → has ids j ≡ true → handles (each_written closes core ids).core j ≡ 0)
unfolding each_written
spans_close [] core labels tracked low light = (closes_nowhere core labels tracked, λ j there. absurd (false≢true there))
spans_close (id ∷ ids) core labels tracked low light =
    let mid = (calls_written core (closes core id)).core in
    let first = span_closes (handles core id) core labels id tracked low light refl in
    let rest = spans_close ids mid labels first.0.leads.tracked (still_some core mid labels first.0.leads low) (still_light core mid labels first.0.leads light) in (
      closes_on core mid _ labels first.0 rest.0,
      λ j there. elim (eqb_tells id j) [
        | inl t ↦ (let fewer = rest.0.fewer j in let none : handles mid j ≡ 0 = subst (λ (k : ℕ). handles mid k ≡ 0) t.1 first.1 in omega (arith, fewer, none))
        | inr t ↦ rest.1 j (rw t.0 at there)
      ],
    )

-- after the tidying no span is open
pub nothing_open : (state : State) → IsTracked state.core state.labels → 0 < state.core.limits.workers → weight state.core < 2 ^ 64 - 1 → (closed_by_labels state).core.world.spans ≡ []
nothing_open state tracked low light = empty_from_no_holder last.world.spans steady.upheld (total-none last.world.spans steady.upheld.forest.ids_apart none)
  where
    mid : CoreView
    mid = (left_by_workers state).core

    last : CoreView
    last = (closed_by_labels state).core

    left : HasLeft state.core state.labels mid
    left = all_leave state.core state.labels tracked light

    closed : Closes mid state.labels last × ((j : ℕ) → has (map (λ entry. entry.1) state.labels) j ≡ true → handles last j ≡ 0)
    closed =
        spans_close (map (λ entry. entry.1) state.labels) mid state.labels left.leads.tracked
        (still_some state.core mid state.labels left.leads low) (still_light state.core mid state.labels left.leads light)

    steady : IsSteady last
    steady = closed.0.leads.tracked.steady

    no_handle : (id : ℕ) → handles last id ≡ 0
    no_handle id =
        elim (cases_lt 0 (handles mid id)) [
          | inl t ↦ (let name = left.leads.tracked.named id t in closed.1 id (id_listed state.labels name.0 id name.1))
          | inr t ↦ (let fewer = closed.0.fewer id in omega (arith, fewer, t))
        ]

    none : (holder : Holder) (id : ℕ) → held_in holder (find last.world.spans id) ≡ 0
    none Handle id = no_handle id
    none Entry id = steady.world.entered id ∙ ap (λ stacks. workers_inside stacks id) closed.0.stacks ∙ left.nobody_inside id
