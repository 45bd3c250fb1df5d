-- The workers of a new registry, made one after the other.
use Rattle.std.proofs.Common.{◌≡◌, ℕ, ◌+◌, ◌*◌, ◌-◌, ◌^◌, ◌<◌, List, [], ◌∷◌, ◌++◌, length, sym, ap, ◌∙◌, subst, arith}
use Rattle.std.specs.Prelude.{slice_index_or, sum_by}
use Rattle.std.proofs.lemmas.List.Sums.{sum_by_push}
use Rattle.std.proofs.Math.ListN.{get_or-append}
use Rattle.std.proofs.Math.Seq.{get_or-append_seam}
use borrow.Author.Count.{below_more}
use Rattle.span_registry.specs.Worker.{WorkerView, IsNew}

-- one more worker that is new, of the next number
pub one_more_new : (n : ℕ) (workers : List WorkerView) (worker : WorkerView) → length workers ≡ n → IsNew n worker
    → ((i : ℕ) (d : WorkerView) → i < n → IsNew i (slice_index_or workers i d))
    → (i : ℕ) (d : WorkerView) → i < n + 1 → IsNew i (slice_index_or (workers ++ worker ∷ []) i d)
one_more_new n workers worker len new before i d below =
    below_more (λ k. (d : WorkerView) → IsNew k (slice_index_or (workers ++ worker ∷ []) k d)) n
    (λ k b d. subst (λ (w : WorkerView). IsNew k w) (sym (get_or-append workers (worker ∷ []) d k (subst (λ (m : ℕ). k < m) (sym len) b))) (before k d b))
    (λ d. subst (λ (w : WorkerView). IsNew n w) (sym (ap (λ k. slice_index_or (workers ++ worker ∷ []) k d) (sym len) ∙ get_or-append_seam workers worker [] d)) new)
    i below d

-- what is left of the ledger of handles and of that of calls, and what the workers have of the former
pub parts_left : (left before number : ℕ) → left + 2 ^ 47 ≡ before → before + number * 2 ^ 47 ≡ 2 ^ 64 - 1 → left + (number + 1) * 2 ^ 47 ≡ 2 ^ 64 - 1
parts_left left before number split known = omega arith

pub calls_left : (left before number workers : ℕ) → left + 1 ≡ before → before + number ≡ workers → left + (number + 1) ≡ workers
calls_left left before number workers split known = omega arith

pub one_more_spare : (workers after : List WorkerView) (worker : WorkerView) → after ≡ workers ++ worker ∷ [] → sum_by (λ worker. worker.spare) after ≡ sum_by (λ worker. worker.spare) workers + worker.spare
one_more_spare workers after worker is = ap (λ xs. sum_by (λ (worker : WorkerView). worker.spare) xs) is ∙ sum_by_push (λ (worker : WorkerView). worker.spare) workers worker

pub spare_given : (sum before spare number : ℕ) → sum ≡ before + spare → spare ≡ 2 ^ 47 → before ≡ number * 2 ^ 47 → sum ≡ (number + 1) * 2 ^ 47
spare_given sum before spare number more spare_is known = omega arith
