-- Nothing above the most verbose level is wanted.
use Rattle.std.proofs.Common.{◌≡◌, ℕ, zero, suc, ◌≤◌, true, false, List, [], ◌∷◌, length, IsSomeAnd, Option, ◌==◌, not, ◌||◌, true≢false, ap, sym, subst, ◌∙◌, inl, inr, arith}
use Rattle.std.proofs.lemmas.Bool.{cases_Bool, ne_eqb}
use Rattle.span_id.specs.declared.level.Level.{Level}
use Rattle.span_id.specs.declared.level.Level.TheVariants.{Error, Warn, Info, Debug, Trace}
use Rattle.span_id.specs.Level.{verbosity}
use Rattle.span_id.specs.Meta.{PlainMeta}
use Rattle.span_layers.specs.Filter.{Filter, layer_admits, admission_set}
use Rattle.span_layers.specs.MaxLevel.{levels_named, IsMostVerbose}
use Rattle.span_layers.specs.Rule.{is_admitted}
use Rattle.span_core.specs.Step.{is_wanted_meta}
use Rattle.span_core.specs.Wanted.{some_rule_admits, IsMaxLevel}
use Rattle.span_core.proofs.Listened.{listened}

up_to_trace : (level : Level) → verbosity level ≤ 4
up_to_trace Error = omega arith
up_to_trace Warn = omega arith
up_to_trace Info = omega arith
up_to_trace Debug = omega arith
up_to_trace Trace = omega arith

-- a layer whose rule admits
layer_of : (rules : List Filter) (target : List ℕ) (level : Level) → some_rule_admits rules target level ≡ true → (layer : ℕ) × (layer_admits rules layer target level ≡ true)
layer_of [] target level some = absurd (true≢false (sym some))
layer_of (f ∷ fs) target level some = elim (cases_Bool (is_admitted f.pairs target level)) [
  | inl t ↦ (zero, t)
  | inr n ↦ (let r = layer_of fs target level (rw n at some) in (suc r.0, r.1))
]

-- what holds of each layer's rule holds of all that is wanted
pub wanted_up_to : (rules : List Filter) (o : Option Level) → IsMaxLevel rules o
    → ((layer : ℕ) (target : List ℕ) (level : Level) → layer_admits rules layer target level ≡ true → IsSomeAnd o (λ most. verbosity level ≤ verbosity most))
    → (meta : PlainMeta) → is_wanted_meta rules meta ≡ true → IsSomeAnd o (λ most. verbosity meta.level ≤ verbosity most)
wanted_up_to [] o is each meta wanted = subst (λ p. IsSomeAnd p (λ most. verbosity meta.level ≤ verbosity most)) (sym is) (up_to_trace meta.level)
wanted_up_to (f ∷ fs) o is each meta wanted =
    let some_layer : (length (f ∷ fs) == 0) ≡ false = ne_eqb (length (f ∷ fs)) 0 (λ none. absurd (omega arith)) in
    let set : not (admission_set (f ∷ fs) meta.target meta.level == 0) ≡ true = ap (λ b. b || not (admission_set (f ∷ fs) meta.target meta.level == 0)) (sym some_layer) ∙ wanted in
    let some : some_rule_admits (f ∷ fs) meta.target meta.level ≡ true = sym (listened (f ∷ fs) meta.target meta.level) ∙ set in
    let admits = layer_of (f ∷ fs) meta.target meta.level some in
    each admits.0 meta.target meta.level admits.1

-- where there are layers
pub max_of_some : (rules : List Filter) (o : Option Level) → (length rules == 0) ≡ false → IsMostVerbose (levels_named rules) o → IsMaxLevel rules o
max_of_some [] o some is = absurd (true≢false some)
max_of_some (f ∷ fs) o some is = is
