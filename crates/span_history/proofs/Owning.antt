-- What one call adds to a caller's own calls.
use Rattle.std.proofs.Common.{◌≡◌, ◌≢◌, ℕ, ◌==◌, List, [], ◌∷◌, ◌++◌, true, false, refl, ap, ◌∙◌, arith}
use Rattle.std.specs.Prelude.{cond}
use Rattle.std.proofs.lemmas.List.{append-nil}
use Rattle.std.proofs.lemmas.List.Elements.{filter-append}
use Rattle.std.proofs.lemmas.Bool.Decides.{nat_tests}
use Rattle.span_outlet.specs.Request.{worker_of}
use Rattle.span_outlet.specs.Batch.{PlainBatch}
use Rattle.span_history.specs.Own.{own, GoesOn}

mine : (n : ℕ) (e : PlainBatch) → worker_of e.request ≡ n → own n (e ∷ []) ≡ e ∷ []
mine n e is = let t : (worker_of e.request == n) ≡ true = grind (arith, nat_tests) in ap (λ b. cond b (e ∷ []) []) t

others : (m n : ℕ) (e : PlainBatch) → worker_of e.request ≡ n → m ≢ n → own m (e ∷ []) ≡ []
others m n e is ne = let t : (worker_of e.request == m) ≡ false = grind (arith, nat_tests) in ap (λ b. cond b (e ∷ []) []) t

pub one_call_more : (n : ℕ) (log : List PlainBatch) (e : PlainBatch) → worker_of e.request ≡ n → GoesOn n log (log ++ e ∷ [])
one_call_more n log e is = record {
  longer = (e ∷ [], refl);
  others = λ m ne. filter-append (λ (x : PlainBatch). worker_of x.request == m) log (e ∷ []) ∙ (ap (λ w. own m log ++ w) (others m n e is ne) ∙ append-nil (own m log));
}

pub one_more_own : (n : ℕ) (log : List PlainBatch) (e : PlainBatch) → worker_of e.request ≡ n → own n (log ++ e ∷ []) ≡ own n log ++ e ∷ []
one_more_own n log e is = filter-append (λ (x : PlainBatch). worker_of x.request == n) log (e ∷ []) ∙ ap (λ w. own n log ++ w) (mine n e is)
