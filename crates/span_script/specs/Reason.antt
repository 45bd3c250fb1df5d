-- Answers that a fault of the script may stand in place of.
use Rattle.std.specs.Prelude.{◌≡◌, Option, Some, None, Result, Ok, Err, MatchResult}
use Rattle.span_script.specs.declared.reason.Reason.{Reason}
use Rattle.span_script.specs.declared.stop.Stop.{Stop}
use Rattle.span_script.specs.declared.stop.Stop.TheVariants.{Memory, Refused}

-- a fault ends what it is met in
infixl 10 ◌>>=◌
abbrev pub ◌>>=◌ : {A B : Type 0} → Result A Reason → (A → Result B Reason) → Result B Reason
Ok a >>= next = next a
Err reason >>= next = Err reason

-- what there is, or else this fault
abbrev pub or_fault : {A : Type 0} → Option A → Reason → Result A Reason
or_fault (Some a) reason = Ok a
or_fault None reason = Err reason

-- the result is the one that is meant: what it has, seen by `seen`, or its fault
abbrev pub Answers : {A B : Type 0} → (A → B) → Result A Reason → Result B Reason → Type 0
Answers seen result meant = MatchResult result (λ a. meant ≡ Ok (seen a)) (λ reason. meant ≡ Err reason)

-- the script is at fault as is meant, or there was no memory
abbrev pub StopsFor : {B : Type 0} → Result B Reason → Stop → Type 0
StopsFor meant Memory = Unit {0}
StopsFor meant (Refused reason) = meant ≡ Err reason

-- the result is the one that is meant, or there was no memory
abbrev pub AnswersOrStops : {A B : Type 0} → (A → B) → Result A Stop → Result B Reason → Type 0
AnswersOrStops seen result meant = MatchResult result (λ a. meant ≡ Ok (seen a)) (StopsFor meant)
