-- Lemmas of the sets of numbers, which are one list.
use Rattle.std.proofs.Common.{◌≡◌, ◌≢◌, ◌⊎◌, ℕ, ◌+◌, ◌<◌, ◌≤◌, List, [], ◌∷◌, true, refl, sym, subst, arith}
use mathlib.Core.Logic.{dite}
use native.Mathlib.Decide.{ℕ_discrete}
use Rattle.std.specs.Prelude.{if◌then◌else◌, ◌==◌}
use Rattle.std.proofs.lemmas.Bool.Decides.{nat_tests}
use Rattle.span_seats.specs.declared.view.HandleView.{HandleView}
use Rattle.span_seats.specs.RootView.{has_number, without, handle_count}
use Rattle.span_seats.specs.inside.WellFormed.{times_given}

pub has_other : (x n y m : ℕ) (handles : List HandleView) → has_number x n handles ≡ true → n ≢ m → has_number x n (without y m handles) ≡ true
has_other x n y m [] h ne = h
has_other x n y m (t ∷ ts) h ne = let r = has_other x n y m ts in grind (arith, nat_tests, r)

pub has_before : (x n y m : ℕ) (handles : List HandleView) → has_number x n (without y m handles) ≡ true → has_number x n handles ≡ true
has_before x n y m [] h = h
has_before x n y m (t ∷ ts) h = let r = has_before x n y m ts in grind (arith, nat_tests, r)

pub count_without : (x y m : ℕ) (handles : List HandleView) → has_number y m handles ≡ true → handle_count x handles ≡ (if y == x then 1 else 0) + handle_count x (without y m handles)
count_without x y m [] h = absurd (cc)
count_without x y m (t ∷ ts) h = let r = count_without x y m ts in grind (arith, nat_tests, r)

pub number_counts : (x n : ℕ) (handles : List HandleView) → has_number x n handles ≡ true → 0 < handle_count x handles
number_counts x n [] h = absurd (cc)
number_counts x n (t ∷ ts) h = let r = number_counts x n ts in grind (arith, nat_tests, r)

pub has_cons : (x n y m : ℕ) (handles : List HandleView) → has_number x n (record { id = y; number = m } ∷ handles) ≡ true → ((y ≡ x) × (m ≡ n)) ⊎ (has_number x n handles ≡ true)
has_cons x n y m handles h = grind (arith, nat_tests)

pub times_without : (n y m : ℕ) (handles : List HandleView) → times_given n (without y m handles) ≤ times_given n handles
times_without n y m [] = omega arith
times_without n y m (t ∷ ts) = let r = times_without n y m ts in grind (arith, nat_tests)

-- a number above all stands nowhere
pub times_new : (n : ℕ) (handles : List HandleView) → ((x k : ℕ) → has_number x k handles ≡ true → k < n) → times_given n handles ≡ 0
times_new n [] below = refl
times_new n (t ∷ ts) below = let r = times_new n ts (λ x k h. below x k (later t x k ts h)) in let first = below t.id t.number (first_has t ts) in grind (arith, nat_tests)
  where
    later : (t : HandleView) (x k : ℕ) (ts : List HandleView) → has_number x k ts ≡ true → has_number x k (t ∷ ts) ≡ true
    later t x k ts h = grind (arith, nat_tests)

    first_has : (t : HandleView) (ts : List HandleView) → has_number t.id t.number (t ∷ ts) ≡ true
    first_has t ts = grind (arith, nat_tests)

pub times_with : (n next : ℕ) (id : ℕ) (handles : List HandleView) → times_given next handles ≡ 0 → times_given n handles ≤ 1 → times_given n (record { id = id; number = next } ∷ handles) ≤ 1
times_with n next id handles new old = dite (ℕ_discrete next n) (λ e. let z : times_given n handles ≡ 0 = subst (λ (k : ℕ). times_given k handles ≡ 0) e new in grind (arith, nat_tests)) (λ e. grind (arith, nat_tests))

-- an id whose set isn't empty has a number in it
pub some_number : (x : ℕ) (handles : List HandleView) → 0 < handle_count x handles → (n : ℕ) × (has_number x n handles ≡ true)
some_number x [] h = absurd (omega arith)
some_number x (t ∷ ts) h = dite (ℕ_discrete t.id x) (λ e. (t.number, grind (arith, nat_tests))) (λ e. let r = some_number x ts (grind (arith, nat_tests)) in (r.0, let s = r.1 in grind (arith, nat_tests)))

number_stands : (x n : ℕ) (handles : List HandleView) → has_number x n handles ≡ true → 0 < times_given n handles
number_stands x n [] h = absurd (cc)
number_stands x n (t ∷ ts) h = let r = number_stands x n ts in grind (arith, nat_tests, r)

times_less : (x n : ℕ) (handles : List HandleView) → has_number x n handles ≡ true → times_given n handles ≡ 1 + times_given n (without x n handles)
times_less x n [] h = absurd (cc)
times_less x n (t ∷ ts) h = let r = times_less x n ts in grind (arith, nat_tests, r)

-- two handles that are joined one after the other have two numbers
pub joined_apart : (x n y m : ℕ) (handles : List HandleView) → ((k : ℕ) → times_given k handles ≤ 1) → has_number x n handles ≡ true → has_number y m (without x n handles) ≡ true → n ≢ m
joined_apart x n y m handles once first second e =
    let again : 0 < times_given n (without x n handles) = subst (λ (k : ℕ). 0 < times_given k (without x n handles)) (sym e) (number_stands y m (without x n handles) second) in
    let less = times_less x n handles first in
    let one = once n in
    omega arith
