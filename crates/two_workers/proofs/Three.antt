-- What holds of each of three items holds of them by name.
use Rattle.std.proofs.Common.{◌≡◌, ℕ, ◌<◌, List, ◌∷◌, get_or, subst, arith}

pub of_three : {X : Type 0} (P : ℕ → X → Type 0) (n : ℕ) (xs : List X) (a b c : X) (more : List X) → xs ≡ a ∷ b ∷ c ∷ more → n ≡ 3
    → ((i : ℕ) (d : X) → i < n → P i (get_or xs i d)) → P 0 a × P 1 b × P 2 c
of_three {X} P n xs a b c more is three each =
    let e = subst (λ (l : List X). (i : ℕ) (d : X) → i < n → P i (get_or l i d)) is each in
    (e 0 a (omega (arith, three)), e 1 a (omega (arith, three)), e 2 a (omega (arith, three)))

pub all_three : {A B C : Type 0} → A → B → C → A × B × C
all_three a b c = (a, b, c)
