-- A line of a script, before its first call, at it, and after it.
use Rattle.std.proofs.Common.{◌≡◌, ℕ, List, ap, sym, ◌∙◌, subst, false, Result, Ok, Err}
use Rattle.std.specs.Prelude.{IfErr, OnOk, ⊤}
use Rattle.serde_json.specs.Data.{Data}
use Rattle.span_replay.specs.Meaning.{Turn, line_turn, value_turn}
use Rattle.span_replay.specs.State.{State}
use Rattle.span_script.specs.Operation.{json_of, is_setup, running}
use Rattle.span_script.specs.Reason.{StopsFor}
use Rattle.span_script.specs.Script.{is_skipped}
use Rattle.span_script.specs.declared.reason.Reason.{Reason}
use Rattle.span_script.specs.declared.stop.Stop.{Stop}
use Rattle.span_replay.proofs.LineTurns.{read_line}
use Rattle.span_replay.proofs.Resumed.{value_same}

stops_as : (meant meant' : Result Turn Reason) (stop : Stop) → meant ≡ meant' → StopsFor meant' stop → StopsFor meant stop
stops_as meant meant' stop same p = subst (λ m. StopsFor m stop) (sym same) p

-- where a line's value does so, whatever the hooks are that there may be, the line does so
pub line_does : (r : Result ⊤ Stop) (Has : ℕ → Type 0) (meant : ℕ → Result Turn Reason) (state : State) (line : List ℕ) (value : Data) (turn : Turn) → is_skipped line ≡ false → json_of line ≡ Ok value
    → ((hooks : ℕ) → Has hooks → value_turn hooks state value ≡ meant hooks) → OnOk r ((hooks : ℕ) → Has hooks → meant hooks ≡ Ok turn)
    → OnOk r ((hooks : ℕ) → Has hooks → line_turn hooks state line ≡ Ok turn)
line_does (Ok _) Has meant state line value turn k e same p = λ hooks has. read_line hooks state line value k e ∙ same hooks has ∙ p hooks has
line_does (Err stop) Has meant state line value turn k e same p = tt

pub line_stops : (r : Result ⊤ Stop) (Has : ℕ → Type 0) (meant : ℕ → Result Turn Reason) (state : State) (line : List ℕ) (value : Data) → is_skipped line ≡ false → json_of line ≡ Ok value
    → ((hooks : ℕ) → Has hooks → value_turn hooks state value ≡ meant hooks) → IfErr r (λ stop. (hooks : ℕ) → Has hooks → StopsFor (meant hooks) stop)
    → IfErr r (λ stop. (hooks : ℕ) → Has hooks → StopsFor (line_turn hooks state line) stop)
line_stops (Ok _) Has meant state line value k e same p = tt
line_stops (Err stop) Has meant state line value k e same p = λ hooks has. stops_as (line_turn hooks state line) (meant hooks) stop (read_line hooks state line value k e ∙ same hooks has) (p hooks has)

-- a fact that holds for all hooks, or for those that there are
pub for_all_hooks : (P : ℕ → Type 0) (r : Result ⊤ Stop) (Has : ℕ → Type 0) → OnOk r ((hooks : ℕ) → P hooks) → OnOk r ((hooks : ℕ) → Has hooks → P hooks)
for_all_hooks P (Ok _) Has p = λ hooks has. p hooks
for_all_hooks P (Err stop) Has p = tt

pub for_its_hooks : (P : ℕ → Type 0) (r : Result ⊤ Stop) (Has : ℕ → Type 0) (own : ℕ) → ((hooks : ℕ) → Has hooks → own ≡ hooks) → OnOk r (P own) → OnOk r ((hooks : ℕ) → Has hooks → P hooks)
for_its_hooks P (Ok _) Has own its p = λ hooks has. subst P (its hooks has) p
for_its_hooks P (Err stop) Has own its p = tt

pub stops_for_all : (P : ℕ → Stop → Type 0) (r : Result ⊤ Stop) (Has : ℕ → Type 0) → IfErr r (λ stop. (hooks : ℕ) → P hooks stop) → IfErr r (λ stop. (hooks : ℕ) → Has hooks → P hooks stop)
stops_for_all P (Ok _) Has p = tt
stops_for_all P (Err stop) Has p = λ hooks has. p hooks

pub stops_for_its : (P : ℕ → Stop → Type 0) (r : Result ⊤ Stop) (Has : ℕ → Type 0) (own : ℕ) → ((hooks : ℕ) → Has hooks → own ≡ hooks) → IfErr r (P own) → IfErr r (λ stop. (hooks : ℕ) → Has hooks → P hooks stop)
stops_for_its P (Ok _) Has own its p = tt
stops_for_its P (Err stop) Has own its p = λ hooks has. subst (λ h. P h stop) (its hooks has) p

-- the line of the first call does what it does while calls run
pub begun_same : (hooks : ℕ) (state begun : State) (value : Data) → is_setup value ≡ false → begun ≡ record state { stage = running } → value_turn hooks state value ≡ value_turn hooks begun value
begun_same hooks state begun value h e = value_same hooks state state.stage running value h ∙ ap (λ s. value_turn hooks s value) (sym e)
