-- The workers that have a span in their stack.
use Rattle.std.proofs.Common.{◌≡◌, ℕ, zero, suc, ◌+◌, ◌++◌, Bool, true, false, List, [], ◌∷◌, length, filter, refl, sym, ap, ◌∙◌, inl, inr, arith, add-one}
use Rattle.std.proofs.Common.{Vec, Global, Result, Ok, Err}
use Rattle.std.specs.Prelude.{slice_index_or, IfOk}
use Rattle.span_id.specs.declared.fault.Fault.{Fault}
use Rattle.span_id.specs.Ids.{has}
use Rattle.std.specs.List.{range_with_len}
use Rattle.std.proofs.lemmas.Bool.{cases_Bool}
use Rattle.std.proofs.lemmas.List.{append-nil}
use Rattle.std.proofs.lemmas.List.Elements.{filter-append}
use Rattle.std.proofs.lemmas.List.Sums.{length-filter}
use Rattle.span_core.specs.World.{workers_with, workers_inside}

range_more : (n a b : ℕ) → a + n ≡ b → range_with_len a (suc n) ≡ range_with_len a n ++ b ∷ []
range_more zero a b e = let same : a ≡ b = omega (arith, e) in ap (λ v. v ∷ []) same
range_more (suc n) a b e = ap (λ v. a ∷ v) (range_more n (a + 1) b (omega (arith, e)))

-- the first so many workers in whose stack the span stands
abbrev pub first_with : List (List ℕ) → ℕ → ℕ → List ℕ
first_with stacks id n = filter (λ worker. has (slice_index_or stacks worker []) id) (range_with_len 0 n)

first_more : (stacks : List (List ℕ)) (id n : ℕ) → first_with stacks id (n + 1) ≡ first_with stacks id n ++ filter (λ worker. has (slice_index_or stacks worker []) id) (n ∷ [])
first_more stacks id n =
    ap (filter (λ worker. has (slice_index_or stacks worker []) id)) (ap (range_with_len 0) (add-one n) ∙ range_more n 0 n (omega arith))
    ∙ filter-append (λ worker. has (slice_index_or stacks worker []) id) (range_with_len 0 n) (n ∷ [])

pub first_inside : (stacks : List (List ℕ)) (id n : ℕ) → has (slice_index_or stacks n []) id ≡ true → first_with stacks id (n + 1) ≡ first_with stacks id n ++ n ∷ []
first_inside stacks id n h = first_more stacks id n ∙ (rw h refl)

pub first_outside : (stacks : List (List ℕ)) (id n : ℕ) → has (slice_index_or stacks n []) id ≡ false → first_with stacks id (n + 1) ≡ first_with stacks id n
first_outside stacks id n h = first_more stacks id n ∙ (rw h (append-nil (first_with stacks id n)))

-- they are as many as the stacks in which it stands
counted_from : (f : List ℕ → Bool) (stacks all : List (List ℕ)) (a : ℕ) → ((k j : ℕ) → a + k ≡ j → slice_index_or all j [] ≡ slice_index_or stacks k []) → length (filter (λ worker. f (slice_index_or all worker [])) (range_with_len a (length stacks))) ≡ length (filter f stacks)
counted_from f [] all a same = refl
counted_from f (stack ∷ stacks) all a same =
    let first : slice_index_or all a [] ≡ stack = same zero a (omega arith) in
    let rest = counted_from f stacks all (a + 1) (λ k j e. same (suc k) j (omega (arith, e))) in
    elim (cases_Bool (f stack)) [
      | inl t ↦ rw (first, t) (ap (λ n. suc n) rest)
      | inr t ↦ rw (first, t) rest
    ]

pub workers_counted : (stacks : List (List ℕ)) (id : ℕ) → length (workers_with stacks id) ≡ workers_inside stacks id
workers_counted stacks id =
    counted_from (λ stack. has stack id) stacks stacks 0 (λ k j e. (let same : j ≡ k = omega (arith, e) in ap (λ n. slice_index_or stacks n []) same)) ∙ length-filter (λ stack. has stack id) stacks

pub as_many : (r : Result (Vec ℕ Global) Fault) (seen stacks : List (List ℕ)) (id entries : ℕ) → IfOk r (λ workers. workers.items ≡ workers_with seen id) → seen ≡ stacks → entries ≡ workers_inside stacks id → IfOk r (λ workers. length workers.items ≡ entries)
as_many (Err fault) seen stacks id entries h same is = tt
as_many (Ok workers) seen stacks id entries h same is =
    ap length h ∙ (workers_counted seen id ∙ (ap (λ s. workers_inside s id) same ∙ sym is))

no_item : (xs : List ℕ) → length xs ≡ 0 → xs ≡ []
no_item [] h = refl
no_item (x ∷ xs) h = cc

pub none_with : (stacks : List (List ℕ)) (id : ℕ) → workers_inside stacks id ≡ 0 → workers_with stacks id ≡ []
none_with stacks id none = no_item (workers_with stacks id) (workers_counted stacks id ∙ none)
