-- What a clause sees of a `Sheet`, for the functions inside this crate: no public clause cites it.
use Rattle.std.specs.Prelude.{◌≡◌, ℕ, List, ◌++◌, OnOk, Result, refl}
use Rattle.std.specs.Coded.{Coded, code_by, coded×, coded_list, coded_ℕ}

-- what the buffer held at the start, and the text behind it
pub record Sheeted : Type 0 where
  pub before : List ℕ
  pub text : List ℕ

-- it is stored as the pair of its fields
abbrev pub sheeted_code : Coded Sheeted
sheeted_code =
    code_by (List ℕ × List ℕ) (coded× (coded_list coded_ℕ) (coded_list coded_ℕ))
    (λ s. (s.before, s.text)) (λ p. record { before = p.0; text = p.1 }) (λ _. refl)

-- the text got these bytes more, where the call is Ok; what the buffer held at the start stays
abbrev pub Adds : {E : Type 0} → Result (Unit {0}) E → Sheeted → Sheeted → List ℕ → Type 0
Adds result old new bytes = (new.before ≡ old.before) × OnOk result (new.text ≡ old.text ++ bytes)
