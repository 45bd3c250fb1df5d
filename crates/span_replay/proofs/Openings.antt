-- A registry with the limits and the layers that the lines before the first call gave, and those lines.
use Rattle.std.proofs.Common.{◌≡◌, ℕ, List, ap, ◌∙◌, subst, Option, Some, None, IfSome, IfNone, Result, Ok, Err, IfOk}
use Rattle.span_core.specs.Core.{CoreView}
use Rattle.span_replay.specs.Meaning.{run}
use Rattle.span_replay.specs.Replayed.{Runs}
use Rattle.span_replay.specs.State.{State, first_state}
use Rattle.span_replay.specs.declared.run.fault.ReplayFault.{ReplayFault}
use Rattle.span_run.proofs.Fronts.{Known}
use Rattle.span_script.specs.Operation.{Stage}

pub when_some : {A : Type 0} → (P : A → Type 0) (o : Option A) (value : A) → o ≡ Some value → IfSome o P → P value
when_some P o value e h = subst (λ x. IfSome x P) e h

pub when_none : {A : Type 0} → {P : Type 0} → (o : Option A) → o ≡ None → IfNone o P → P
when_none {A} {P} o e h = subst (λ x. IfNone x P) e h

-- the core that was made is the one that the lines have left
pub opened_core : {S E : Type 0} (core_of : S → CoreView) (opened : Stage → State) (state : State) (r : Result S E) → opened state.stage ≡ state
    → IfOk r (λ s. (stage : Stage) → core_of s ≡ (opened stage).core) → IfOk r (λ s. core_of s ≡ state.core)
opened_core core_of opened state (Ok s) same p = p state.stage ∙ ap (λ (x : State). x.core) same
opened_core core_of opened state (Err refused) same p = tt

-- ---- a script from its first line

pub script_runs : (hooks hooks' : ℕ) (first : State) (a b : Known) (lines : List (List ℕ)) (r : Result ℕ ReplayFault) → hooks' ≡ hooks → first ≡ first_state → Runs (run hooks' 1 first lines) a b r
    → Runs (run hooks 1 first_state lines) a b r
script_runs hooks hooks' first a b lines r e same p =
    subst (λ state. Runs (run hooks 1 state lines) a b r) same (subst (λ h. Runs (run h 1 first lines) a b r) e p)
