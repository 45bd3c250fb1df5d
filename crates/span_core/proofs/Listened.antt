-- A set of layers is empty where no rule admits.
use Rattle.std.proofs.Common.{◌≡◌, ℕ, ◌+◌, ◌*◌, true, not, eqb, List, [], ◌∷◌, refl, ◌∙◌, inl, inr, arith}
use Rattle.std.proofs.lemmas.Bool.Decides.{nat_tests}
use Rattle.std.proofs.lemmas.Bool.{cases_Bool}
use Rattle.span_id.specs.declared.level.Level.{Level}
use Rattle.span_layers.specs.Filter.{Filter, admission_set}
use Rattle.span_layers.specs.Rule.{is_admitted}
use Rattle.span_core.specs.Wanted.{some_rule_admits}

odd_some : (n : ℕ) → not (eqb (1 + 2 * n) 0) ≡ true
odd_some n = grind (arith, nat_tests)

even_same : (n : ℕ) → not (eqb (0 + 2 * n) 0) ≡ not (eqb n 0)
even_same n = grind (arith, nat_tests)

pub listened : (rules : List Filter) (target : List ℕ) (level : Level) → not (eqb (admission_set rules target level) 0) ≡ some_rule_admits rules target level
listened [] target level = refl
listened (f ∷ fs) target level =
    elim (cases_Bool (is_admitted f.pairs target level)) [
      | inl t ↦ rw t (odd_some (admission_set fs target level))
      | inr t ↦ rw t (even_same (admission_set fs target level) ∙ listened fs target level)
    ]
