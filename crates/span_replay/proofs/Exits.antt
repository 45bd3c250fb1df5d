-- The first part of the tidying: after it no worker is inside a span.
use Rattle.std.proofs.Common.{◌≡◌, ◌≢◌, ℕ, zero, suc, ◌+◌, ◌-◌, ◌^◌, ◌<◌, ◌≤◌, ◌==◌, Bool, true, false, ◌||◌, List, [], ◌∷◌, ◌++◌, length, map, reverse, get_or, set, refl, sym, ap, ◌∙◌, subst, inl, inr, arith}
use Rattle.std.specs.Prelude.{is_some}
use Rattle.std.specs.List.{range_with_len}
use Rattle.std.proofs.lemmas.Bool.{cases_lt, eq-eqb, false≢true, lt-ltb}
use Rattle.std.proofs.lemmas.Bool.Decides.{eqb_tells}
use Rattle.std.proofs.lemmas.List.{get_or-set_same, get_or-set_other, get_or_past, reverse-append, reverse-reverse, append-nil}
use Rattle.std.proofs.lemmas.List.Folds.{list_any-append}
use Rattle.std.proofs.lemmas.List.Sums.{sum_by-cons}
use Rattle.span_id.specs.Ids.{has}
use Rattle.span_forest.specs.declared.span.Holder.TheVariants.{Entry}
use Rattle.span_forest.specs.Spans.{IsOpen}
use Rattle.span_stack.specs.Stack.{without_last}
use Rattle.span_stack.proofs.Stacks.{without_last-at}
use Rattle.span_core.specs.World.{stack_of, workers_inside}
use Rattle.span_outlet.specs.Request as call
use Rattle.span_core.specs.Core.{CoreView, IsDue}
use Rattle.span_core.specs.Outcome.{Outcome}
use Rattle.span_core.proofs.Accepting.{held_open, inside_held}
use Rattle.span_core.proofs.Judging.{due_from}
use Rattle.span_core.proofs.Worlds.{one}
use Rattle.span_core.proofs.Outcomes.{due_outcome}
use Rattle.span_core.proofs.Weights.{weight}
use Rattle.span_replay.specs.Labels.{Bound}
use Rattle.span_replay.specs.Written.{core_left, call_written, calls_written, each_written, exits}
use Rattle.span_replay.proofs.Tracked.{IsTracked, Leads, leads_nowhere, leads_on, done_leads}

or_true : (b : Bool) → (b || true) ≡ true
or_true true = refl
or_true false = refl

-- the topmost entry stands in the stack, and is the last place of its id
top_inside : (below : List ℕ) (id : ℕ) → has (below ++ id ∷ []) id ≡ true
top_inside below id = list_any-append (λ entry. entry == id) below (id ∷ []) ∙ (rw (eq-eqb id id refl) (or_true (has below id)))

without_top : (below : List ℕ) (id : ℕ) → without_last (below ++ id ∷ []) id ≡ below
without_top below id = without_last-at below [] id refl ∙ append-nil below

-- one exit of an entry
exit_done : (core : CoreView) (labels : Bound) (worker id : ℕ) → IsTracked core labels → worker < core.limits.workers → weight core < 2 ^ 64 - 1 → has (stack_of core.world worker) id ≡ true
    → Leads core (call_written core (call.exit worker id)).core labels 0
    × ((call_written core (call.exit worker id)).core.world.stacks ≡ set core.world.stacks worker (without_last (stack_of core.world worker) id))
exit_done core labels worker id tracked low light inside =
    subst (λ (o : Outcome). Leads core (core_left core o) labels 0 × ((core_left core o).world.stacks ≡ set core.world.stacks worker (without_last (stack_of core.world worker) id)))
    (sym (due_outcome core (call.exit worker id) due))
    (done_leads core labels (call.exit worker id) tracked low (λ j e. cc) due, refl)
  where
    within : worker < length core.world.stacks
    within = omega (arith, low, tracked.steady.stacks)

    there : IsOpen core.world.spans id
    there = ap is_some (held_open core.world.spans id Entry (inside_held core.world.spans core.world.stacks worker id tracked.steady.world within inside)).1

    due : IsDue core (call.exit worker id)
    due = due_from core (call.exit worker id) (record { named = refl; wanted = refl; known = there; counts = lt-ltb (length core.sent) (2 ^ 64 - 1) (omega (arith, light)); slot = refl; inside = inside })

-- a worker leaves what it has entered
record Leaves (core : CoreView) (labels : Bound) (worker : ℕ) (new : CoreView) : Type 0 where
  leads : Leads core new labels 0
  emptied : stack_of new.world worker ≡ []
  others : (j : ℕ) → j ≢ worker → stack_of new.world j ≡ stack_of core.world j

worker_leaves : (topmost_first : List ℕ) (core : CoreView) (labels : Bound) (worker : ℕ) → IsTracked core labels → worker < core.limits.workers → weight core < 2 ^ 64 - 1
    → stack_of core.world worker ≡ reverse topmost_first → Leaves core labels worker (calls_written core (map (call.exit worker) topmost_first)).core
unfolding calls_written
worker_leaves [] core labels worker tracked low light is = record { leads = leads_nowhere core labels 0 tracked; emptied = is; others = λ j other. refl }
worker_leaves (id ∷ ids) core labels worker tracked low light is =
    let rest = worker_leaves ids mid labels worker first.0.tracked (let same = ap (λ limits. limits.workers) first.0.limits in omega (arith, low, same)) (let light' = first.0.weight in omega (arith, light, light')) left in
    record {
      leads = leads_on core mid _ labels first.0 rest.leads;
      emptied = rest.emptied;
      others = λ j other. rest.others j other ∙ ap (λ stacks. get_or stacks j []) first.1 ∙ get_or-set_other core.world.stacks worker j _ [] other;
    }
  where
    split : stack_of core.world worker ≡ reverse ids ++ id ∷ []
    split = is ∙ reverse-append (id ∷ []) ids

    mid : CoreView
    mid = (call_written core (call.exit worker id)).core

    first : Leads core mid labels 0 × (mid.world.stacks ≡ set core.world.stacks worker (without_last (stack_of core.world worker) id))
    first = exit_done core labels worker id tracked low light (ap (λ stack. has stack id) split ∙ top_inside (reverse ids) id)

    left : stack_of mid.world worker ≡ reverse ids
    left =
        ap (λ stacks. get_or stacks worker []) first.1
        ∙ get_or-set_same core.world.stacks worker _ [] (omega (arith, low, tracked.steady.stacks))
        ∙ ap (λ stack. without_last stack id) split ∙ without_top (reverse ids) id

-- these workers leave all that they have entered
record AllLeave (core : CoreView) (labels : Bound) (workers : List ℕ) (new : CoreView) : Type 0 where
  leads : Leads core new labels 0
  emptied : (j : ℕ) → has workers j ≡ true → stack_of new.world j ≡ []
  stays : (j : ℕ) → stack_of core.world j ≡ [] → stack_of new.world j ≡ []

workers_leave : (workers : List ℕ) (core : CoreView) (labels : Bound) → IsTracked core labels → ((j : ℕ) → has workers j ≡ true → j < core.limits.workers) → weight core < 2 ^ 64 - 1
    → AllLeave core labels workers (each_written exits core workers).core
unfolding each_written
workers_leave [] core labels tracked low light = record { leads = leads_nowhere core labels 0 tracked; emptied = λ j there. absurd (false≢true there); stays = λ j is. is }
workers_leave (worker ∷ workers) core labels tracked low light =
    let rest = workers_leave workers mid labels first.leads.tracked still_low (let light' = first.leads.weight in omega (arith, light, light')) in
    record {
      leads = leads_on core mid _ labels first.leads rest.leads;
      emptied = λ j there. elim (eqb_tells worker j) [
        | inl t ↦ rest.stays j (subst (λ (k : ℕ). stack_of mid.world k ≡ []) t.1 first.emptied)
        | inr t ↦ rest.emptied j (rw t.0 at there)
      ];
      stays = λ j is. rest.stays j (kept j is);
    }
  where
    mid : CoreView
    mid = (calls_written core (exits core worker)).core

    first : Leaves core labels worker mid
    first = worker_leaves (reverse (stack_of core.world worker)) core labels worker tracked (low worker (rw (eq-eqb worker worker refl) refl)) light (sym (reverse-reverse (stack_of core.world worker)))

    kept : (j : ℕ) → stack_of core.world j ≡ [] → stack_of mid.world j ≡ []
    kept j is = elim (eqb_tells j worker) [ inl t ↦ subst (λ (k : ℕ). stack_of mid.world k ≡ []) (sym t.1) first.emptied | inr t ↦ first.others j t.1 ∙ is ]

    still_low : (j : ℕ) → has workers j ≡ true → j < mid.limits.workers
    still_low j there = let same = ap (λ limits. limits.workers) first.leads.limits in let lower = low j (rw there (or_true (worker == j))) in omega (arith, lower, same)

-- the numbers of a range
range_low : (from n j : ℕ) → has (range_with_len from n) j ≡ true → j < from + n
range_low from zero j there = cc
range_low from (suc n) j there =
    elim (eqb_tells from j) [
      | inl t ↦ (let same = t.1 in omega (arith, same))
      | inr t ↦ (let rest = range_low (from + 1) n j (rw t.0 at there) in omega (arith, rest))
    ]

in_range : (from n j : ℕ) → from ≤ j → j < from + n → has (range_with_len from n) j ≡ true
in_range from zero j high low = absurd (omega (arith, high, low))
in_range from (suc n) j high low =
    elim (eqb_tells from j) [
      | inl t ↦ rw t.0 refl
      | inr t ↦ rw t.0 (in_range (from + 1) n j (above from j high t.1) (omega (arith, low)))
    ]
  where
    above : (from j : ℕ) → from ≤ j → from ≢ j → from + 1 ≤ j
    above from j high apart = elim (cases_lt from j) [ inl t ↦ omega (arith, t) | inr t ↦ absurd (apart (omega (arith, high, t))) ]

-- where all stacks are empty, no worker is inside a span
nobody : (stacks : List (List ℕ)) (id : ℕ) → ((j : ℕ) → get_or stacks j [] ≡ []) → workers_inside stacks id ≡ 0
nobody [] id empty = refl
nobody (stack ∷ stacks) id empty =
    let split = sum_by-cons (λ (s : List ℕ). one (has s id)) stack stacks in
    let first = ap (λ (s : List ℕ). one (has s id)) (empty 0) in
    let rest = nobody stacks id (λ j. empty (suc j)) in
    omega (arith, split, first, rest)

-- what the first part of the tidying leaves
pub record HasLeft (core : CoreView) (labels : Bound) (new : CoreView) : Type 0 where
  pub leads : Leads core new labels 0
  pub nobody_inside : (id : ℕ) → workers_inside new.world.stacks id ≡ 0

pub all_leave : (core : CoreView) (labels : Bound) → IsTracked core labels → weight core < 2 ^ 64 - 1 → HasLeft core labels (each_written exits core (range_with_len 0 core.limits.workers)).core
all_leave core labels tracked light = record { leads = left.leads; nobody_inside = λ id. nobody new.world.stacks id empty }
  where
    new : CoreView
    new = (each_written exits core (range_with_len 0 core.limits.workers)).core

    left : AllLeave core labels (range_with_len 0 core.limits.workers) new
    left = workers_leave (range_with_len 0 core.limits.workers) core labels tracked (λ j there. (let low = range_low 0 core.limits.workers j there in omega (arith, low))) light

    empty : (j : ℕ) → stack_of new.world j ≡ []
    empty j =
        elim (cases_lt j core.limits.workers) [
          | inl t ↦ left.emptied j (in_range 0 core.limits.workers j (omega arith) (omega (arith, t)))
          | inr t ↦ get_or_past new.world.stacks j [] (let many = left.leads.tracked.steady.stacks in let same = ap (λ limits. limits.workers) left.leads.limits in omega (arith, t, many, same))
        ]
