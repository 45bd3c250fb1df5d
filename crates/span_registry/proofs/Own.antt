-- A worker's own calls, where the history is longer by one of them or the same.
use Rattle.std.proofs.Common.{◌≡◌, ℕ, ◌+◌, List, [], ◌∷◌, ◌++◌, length, refl, sym, ap, ◌∙◌, subst}
use Rattle.std.specs.Prelude.{take, drop}
use Rattle.std.proofs.lemmas.List.{take-append-drop}
use mathlib.Core.List.{IsPrefix}
use Rattle.std.proofs.lemmas.List.{length-append}
use Rattle.span_outlet.specs.Request.{worker_of}
use Rattle.span_outlet.specs.Batch.{PlainBatch}
use Rattle.span_history.specs.Own.{own, GoesOn}
use Rattle.span_history.proofs.Prefixes.{prefix_self}
use Rattle.span_history.proofs.Owning.{one_call_more, one_more_own}

-- the same history goes on by no call
pub goes_on_same : (worker : ℕ) (before after : List PlainBatch) → after ≡ before → GoesOn worker before after
goes_on_same worker before after same = subst (λ (h : List PlainBatch). GoesOn worker before h) (sym same) (record { longer = prefix_self before; others = λ other ne. refl })

-- one call more of the worker
pub goes_on_one_more : (worker : ℕ) (before after : List PlainBatch) (batch : PlainBatch) → worker_of batch.request ≡ worker → after ≡ before ++ batch ∷ [] → GoesOn worker before after
goes_on_one_more worker before after batch by sent = subst (λ (h : List PlainBatch). GoesOn worker before h) (sym sent) (one_call_more worker before batch by)

pub own_one_more : (worker : ℕ) (seen before after : List PlainBatch) (batch : PlainBatch) → own worker seen ≡ own worker before → worker_of batch.request ≡ worker → after ≡ before ++ batch ∷ []
    → own worker after ≡ own worker seen ++ batch ∷ []
own_one_more worker seen before after batch same by sent = ap (own worker) sent ∙ one_more_own worker before batch by ∙ ap (λ w. w ++ batch ∷ []) (sym same)

-- so many calls are its own
pub one_more_counted : (worker accepted : ℕ) (seen after : List PlainBatch) (batch : PlainBatch) → accepted ≡ length (own worker seen) → own worker after ≡ own worker seen ++ batch ∷ [] → accepted + 1 ≡ length (own worker after)
one_more_counted worker accepted seen after batch counted own_are = ap (λ n. n + 1) counted ∙ sym (ap length own_are ∙ length-append (own worker seen) (batch ∷ []))

-- the first of a list are its beginning
pub beginning : {X : Type 0} (first all same : List X) → first ≡ take (length first) all → all ≡ same → IsPrefix first same
beginning first all same is are = (drop (length first) all, ap (λ xs. xs ++ drop (length first) all) is ∙ take-append-drop (length first) all ∙ are)
