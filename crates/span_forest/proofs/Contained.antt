-- What a list contains.
use Rattle.std.proofs.Common.{◌≡◌, ◌≢◌, zero, suc, ◌⊎◌, List, [], ◌∷◌, refl, subst, inl, inr, arith}
use Rattle.std.specs.Prelude.{Contains}

pub contains_first : {X : Type 0} (x : X) (xs : List X) → Contains (x ∷ xs) x
contains_first x xs = (zero, omega arith, refl)

pub contains_later : {X : Type 0} (x y : X) (xs : List X) → Contains xs x → Contains (y ∷ xs) x
contains_later x y xs c = (let low = c.1 in (suc c.0, omega (arith, low), c.2))

pub contains_none : {X : Type 0} (x : X) → Contains [] x → ⊥
contains_none x c = let low = c.1 in omega (arith, low)

pub contains_cons : {X : Type 0} (x y : X) (xs : List X) → Contains (y ∷ xs) x → (y ≡ x) ⊎ Contains xs x
contains_cons x y xs (zero, low, is) = inl is
contains_cons x y xs (suc k, low, is) = inr (k, omega (arith, low), is)

pub not_empty : {X : Type 0} (xs : List X) (x : X) → Contains xs x → xs ≢ []
not_empty xs x c e = contains_none x (subst (λ v. Contains v x) e c)

pub some_contained : {X : Type 0} (xs : List X) → xs ≢ [] → (x : X) × Contains xs x
some_contained [] ne = absurd (ne refl)
some_contained (x ∷ xs) ne = (x, contains_first x xs)
