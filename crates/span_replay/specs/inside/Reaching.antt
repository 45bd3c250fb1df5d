-- A script whose lines run with nothing written: no public clause cites it.
use Rattle.std.specs.Prelude.{◌≡◌, ℕ, ◌+◌, List, [], Option, Some, None, Result, Ok, Err, length}
use Rattle.serde_json.specs.Data.{Data}
use Rattle.span_replay.specs.declared.run.fault.ReplayFault.{ReplayFault}
use Rattle.span_replay.specs.declared.run.fault.ReplayFault.TheVariants.{Script, Memory, Read, Write}
use Rattle.span_replay.specs.Explained.{Reached, label_by, reached_after, explained, turn_reached, why_run}
use Rattle.span_replay.specs.Meaning.{Turn, Ending, Transcript, finished, faulty, value_turn}
use Rattle.span_replay.specs.declared.run.explained.Explained.{Explained}
use Rattle.span_replay.specs.declared.run.reaching.Reaching.{Reaching}
use Rattle.span_core.specs.Core.{CoreView}
use Rattle.span_replay.specs.State.{State}
use Rattle.span_replay.specs.declared.run.setup.Setup.{Setup}
use Rattle.span_replay.specs.inside.Running.{state_at}
use Rattle.span_replay.specs.inside.Setup.{setup_state}
use Rattle.span_why.specs.Why.{PlainOpenSpan, why_text, why_of_text}
use Rattle.span_script.specs.Operation.{Stage}
use Rattle.span_script.specs.Script.{script_lines}
use Rattle.span_script.specs.declared.reason.Reason.{Reason}
use Rattle.span_script.specs.declared.stop.Stop.{Stop}
use Rattle.span_script.specs.declared.stop.Stop.TheVariants as stop

-- how far the lines have run
abbrev pub reached_at : {V A : _} → Reaching V A → Stage → Reached
reached_at reaching stage = record { state = state_at reaching.script stage; lines = reaching.lines.items }

-- a line of this number did what is meant, which leaves this
pub record HasReached
    (number : ℕ) (label : Option (List ℕ)) (meant : Result Turn Reason) (old new : Reached) : Type 0 where
  pub turn : Turn
  pub is : meant ≡ Ok turn
  pub left : new ≡ reached_after number old label turn.state

-- why a line was not run: there was no memory; or the script is at fault as is meant, and then nothing has changed
abbrev pub Halts : Result Turn Reason → Reached → Reached → Stop → Type 0
Halts meant old new stop.Memory = Unit {0}
Halts meant old new (stop.Refused reason) = (meant ≡ Err reason) × (new ≡ old)

-- why lines ended: there was no memory; or at a fault of the script, where this is reached
abbrev pub EndsAt : Transcript → Option (List ℕ) → Reached → ReplayFault → Type 0
EndsAt meant about reached (Script number reason) = meant ≡ explained about reached (faulty number reason)
EndsAt meant about reached Memory = Unit {0}
EndsAt meant about reached Read = ⊥
EndsAt meant about reached Write = ⊥

-- after a fault of the script there are as many workers as the limits say
abbrev pub KnowsWorkers : ReplayFault → ℕ → Reached → Type 0
KnowsWorkers (Script number reason) workers reached = workers ≡ reached.state.core.limits.workers
KnowsWorkers Memory workers reached = Unit {0}
KnowsWorkers Read workers reached = Unit {0}
KnowsWorkers Write workers reached = Unit {0}

-- all lines have run
abbrev pub HasEnded : Transcript → Option (List ℕ) → Reached → Type 0
HasEnded meant about reached =
    meant ≡ explained about reached (finished (length reached.state.core.world.spans))

-- the run goes on with the line of this number, whose JSON value was read already, and then with these lines
abbrev pub resumed_why : ℕ → Option (List ℕ) → ℕ → Reached → Data → List ℕ → Transcript
resumed_why hooks about number reached value lines =
    turn_reached about number reached (label_by reached.state value) (value_turn hooks reached.state value)
    (λ new. why_run hooks about (number + 1) new (script_lines lines))

-- the end that is meant: so many open spans, or the fault of the script
abbrev pub EndsAs : Ending → Result ℕ ReplayFault → Type 0
EndsAs meant (Ok left) = meant ≡ finished left
EndsAs meant (Err (Script number reason)) = meant ≡ faulty number reason
EndsAs meant (Err Memory) = ⊥
EndsAs meant (Err Read) = ⊥
EndsAs meant (Err Write) = ⊥

-- the text about these spans, or about the one with this id where a label is asked about
abbrev pub text_of : List PlainOpenSpan → Option (List ℕ) → Option ℕ → List ℕ
text_of spans None id = why_text spans
text_of spans (Some label) id = why_of_text spans id

-- how far the lines before the first call have run
abbrev pub set_up_at : {A F : _} → Setup A F → Reached
set_up_at setup = record { state = setup_state setup; lines = [] }

-- a core of which no call was made
abbrev pub begun_at : CoreView → Stage → Reached
begun_at core stage = record { state = record { core = core; labels = []; stage = stage }; lines = [] }

-- a line before the first call did what is meant, which leaves this state
pub record SetsTo (meant : Result Turn Reason) (state : State) : Type 0 where
  pub text : List ℕ
  pub is : meant ≡ Ok (record { text = text; state = state })

-- the text and the end are those that are meant
pub record IsExplained (meant : Transcript) (explained : Explained) : Type 0 where
  pub text_is : explained.text.items ≡ meant.text
  pub ending_is : EndsAs meant.ending explained.ended

-- a script was not read for want of memory, or because the reader failed
abbrev pub IsOfReading : ReplayFault → Type 0
IsOfReading (Script number reason) = ⊥
IsOfReading Memory = Unit {0}
IsOfReading Read = Unit {0}
IsOfReading Write = ⊥
