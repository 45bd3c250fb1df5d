-- What is known together of the calls of workers that followed a plan.
use Rattle.std.proofs.Common.{◌≡◌, ◌+◌, ◌*◌, ℕ, ◌<◌, List, ◌∷◌, [], ◌++◌, length, length-append, get_or, ◌∙◌, ap, subst, suc, arith}
use Rattle.std.specs.Prelude.{sum_by}
use Rattle.std.proofs.lemmas.List.Sums.{sum_by-cons, sum_by_push}
use Rattle.span_registry.specs.Share.{ShareView, joined}
use Rattle.span_registry.specs.Worker.{IsNew, WorkerView}
use Rattle.call_loops.specs.declared.order.Plan.{Plan}
use Rattle.call_loops.specs.declared.order.Plan.TheVariants.{Random, Rounds}
use Rattle.call_loops.specs.Back.{ComesBack, HasAll, IsMade, IsMadeByAll, IsMadeByNew}

-- those of the last worker and those of the others are those of all
pub with_last : (plan : Plan) (others workers : List WorkerView) (last : WorkerView) (some more : ℕ) → workers ≡ others ++ last ∷ []
    → IsMadeByAll plan others some → IsMade plan last.accepted more → IsMadeByAll plan workers (some + more)
with_last (Random _ _) _ _ _ _ _ _ _ _ = tt
with_last (Rounds rounds) others workers last some more is these this =
    let all = ap (λ xs. sum_by (λ (worker : WorkerView). worker.accepted + 3 * rounds) xs) is in
    let sum = sum_by_push (λ (worker : WorkerView). worker.accepted + 3 * rounds) others last in
    omega (arith, all, sum, these, this)

-- the share of the last worker and that of the others are that of all
pub all_with_last : (plan p : Plan) (others workers : List WorkerView) (last w : WorkerView) (some more : ShareView) → workers ≡ others ++ last ∷ []
    → p ≡ plan → w ≡ last → HasAll plan others some → ComesBack p w more → HasAll plan workers (joined some more)
all_with_last plan p others workers last w some more is same_plan same_worker these this =
    let this' : ComesBack plan w more = subst (λ q. ComesBack q w more) same_plan this in
    let back : ComesBack plan last more = subst (λ v. ComesBack plan v more) same_worker this' in
    let parts = back.parts in
    let spare = ap (λ xs. sum_by (λ (worker : WorkerView). worker.spare) xs) is in
    let spare_sum = sum_by_push (λ (worker : WorkerView). worker.spare) others last in
    let long = ap length is in
    let longer = length-append others (last ∷ []) in
    record {
      units = omega (arith, these.units, parts.units);
      accepted = with_last plan others workers last some.accepted more.accepted is these.accepted back.accepted;
      handles = omega (arith, spare, spare_sum, these.handles, parts.handles);
      calls = omega (arith, long, longer, these.calls, parts.calls);
    }

-- workers of which no call was accepted: by rounds each makes three for each
pub of_new : (rounds : ℕ) (workers : List WorkerView) → ((i : ℕ) (d : WorkerView) → i < length workers → (get_or workers i d).accepted ≡ 0)
    → sum_by (λ (worker : WorkerView). worker.accepted + 3 * rounds) workers ≡ length workers * (3 * rounds)
of_new rounds [] each = omega arith
of_new rounds (worker ∷ workers) each =
    let one = each 0 worker (omega arith) in
    let rest = of_new rounds workers (λ i d below. each (suc i) d (omega (arith, below))) in
    let sum = sum_by-cons (λ (worker : WorkerView). worker.accepted + 3 * rounds) worker workers in
    omega (arith, one, rest, sum)

-- what came back of all workers of a registry says how many calls there were
pub by_new : (plan : Plan) (workers : List WorkerView) (share : ShareView) (calls n : ℕ) → calls ≡ share.accepted → length workers ≡ n
    → ((i : ℕ) (d : WorkerView) → i < n → IsNew i (get_or workers i d)) → HasAll plan workers share → IsMadeByNew plan n calls
by_new (Random _ _) _ _ _ _ _ _ _ _ = tt
by_new (Rounds rounds) workers share calls n is many new all =
    let sum = of_new rounds workers (λ i d below. (new i d (omega (arith, below, many))).accepted_is) in
    is ∙ all.accepted ∙ sum ∙ ap (λ k. k * (3 * rounds)) many
