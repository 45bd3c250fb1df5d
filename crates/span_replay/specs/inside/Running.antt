-- A script between two of its calls: no public clause cites it.
use Rattle.std.specs.Prelude.{◌≡◌, ◌≤◌, ℕ, List, ◌++◌, length, Result, Ok, Err, ⊤, MatchResult}
use Rattle.span_core.specs.Core.{CoreView}
use Rattle.span_outlet.specs.Request as call
use Rattle.span_replay.specs.Labels.{Bound}
use Rattle.span_replay.specs.Meaning.{Turn}
use Rattle.span_script.specs.Operation.{Stage}
use Rattle.span_replay.specs.State.{State}
use Rattle.span_replay.specs.Written.{call_written}
use Rattle.span_script.specs.declared.reason.Reason.{Reason}
use Rattle.span_replay.specs.declared.run.script.Script.{Script}
use Rattle.span_script.specs.declared.stop.Stop.{Stop}
use Rattle.span_script.specs.declared.stop.Stop.TheVariants.{Memory, Refused}

-- the registry of a script, and the labels that it has bound
abbrev pub core_in : {V A : _} → Script V A → CoreView
core_in script = script.core

abbrev pub labels_in : {V A : _} → Script V A → Bound
labels_in script = script.labels

-- how far a script has run, where such lines came
abbrev pub state_at : {V A : _} → Script V A → Stage → State
state_at script stage = record { core = core_in script; labels = labels_in script; stage = stage }

-- the lines of all batches were written, and there are as many workers as the limits say, and at least one
pub record IsWritten {V A : _} (script : Script V A) : Type 0 where
  pub lines : script.written ≡ length (core_in script).sent
  pub workers : script.workers ≡ (core_in script).limits.workers
  pub some : 1 ≤ script.workers

-- the text grew by that of the turn that is meant, and the state is the one after it
pub record IsTurn (meant : Result Turn Reason) (old new : List ℕ) (state : State) : Type 0 where
  pub added : List ℕ
  pub text : new ≡ old ++ added
  pub turn : meant ≡ Ok (record { text = added; state = state })

-- there was no memory; or the script is at fault as is meant, and then neither the state nor the text has changed
abbrev pub StopsAs : Result Turn Reason → State → List ℕ → State → List ℕ → Stop → Type 0
StopsAs meant old text new text' Memory = Unit {0}
StopsAs meant old text new text' (Refused reason) = (meant ≡ Err reason) × (new ≡ old) × (text' ≡ text)

-- a line ran as is meant, from this state and text to those
abbrev pub RunsAs : Result Turn Reason → State → List ℕ → State → List ℕ → Result ⊤ Stop → Type 0
RunsAs meant old text new text' result =
    MatchResult result (λ _. IsTurn meant text text' new) (StopsAs meant old text new text')

-- a call was made, and its notes and its answer were written
pub record IsWrittenCall
    (old : CoreView) (text : List ℕ) (request : call.Request) (new : CoreView) (text' : List ℕ) : Type 0 where
  pub core : new ≡ (call_written old request).core
  pub text_is : text' ≡ text ++ (call_written old request).text
