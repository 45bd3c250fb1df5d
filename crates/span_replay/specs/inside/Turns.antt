-- What came of a line, and of lines one after another: no public clause cites it.
use Rattle.std.specs.Prelude.{◌≡◌, ℕ, List, [], Option, None, Result, Ok, Err}
use Rattle.std.specs.Io.KnownBytes.{Appends, Keeps}
use Rattle.span_id.specs.declared.limits.Limits.{Limits}
use Rattle.span_layers.specs.Filter.{Filter}
use Rattle.span_layers.specs.declared.form.Form.{Form}
use Rattle.span_core.specs.Core.{CoreView}
use Rattle.span_core.specs.World.{empty_world}
use Rattle.span_run.specs.Device.{AppendsFront}
use Rattle.span_replay.specs.Meaning.{Turn, Transcript, transcript_after}
use Rattle.span_script.specs.Operation.{Operation, Stage, set_limits, add_layer}
use Rattle.span_replay.specs.State.{State}
use Rattle.span_replay.specs.Written.{Written, written_after}
use Rattle.span_script.specs.declared.reason.Reason.{Reason}
use Rattle.span_replay.specs.declared.run.fault.ReplayFault.{ReplayFault}
use Rattle.span_replay.specs.declared.run.fault.ReplayFault.TheVariants.{Script, Memory, Read, Write}

-- an operation that comes before all calls
abbrev pub SetsUp : Operation → Type 0
SetsUp (set_limits limits) = Unit {0}
SetsUp (add_layer layer) = Unit {0}
SetsUp _ = ⊥

-- a core of which no call was made, with these limits, layers and forms, where such lines came
abbrev pub opened_state : Limits → List Filter → List Form → Stage → State
opened_state limits rules forms stage = record {
  core = record {
    limits = limits;
    rules = rules;
    world = empty_world limits.workers;
    sent = [];
    times_full = 0;
    forms = forms;
    name = None;
  };
  labels = [];
  stage = stage;
}

-- the line did what is meant, which leaves this state, and its text was written
pub record HasTurned (meant : Result Turn Reason) (state : State) (old new : Option (List ℕ)) : Type 0 where
  pub text : List ℕ
  pub is : meant ≡ Ok (record { text = text; state = state })
  pub written : Appends old new text

-- a front of the text of what is meant was written
pub record HasBegun (meant : Result Turn Reason) (old new : Option (List ℕ)) : Type 0 where
  pub turn : Turn
  pub is : meant ≡ Ok turn
  pub front : AppendsFront old new turn.text

-- why the line of this number ended the run
abbrev pub TurnFails : Result Turn Reason → ℕ → Option (List ℕ) → Option (List ℕ) → ReplayFault → Type 0
TurnFails meant number old new (Script line reason) = (line ≡ number) × (meant ≡ Err reason) × Keeps old new
TurnFails meant number old new Memory = Keeps old new
TurnFails meant number old new Read = HasBegun meant old new
TurnFails meant number old new Write = HasBegun meant old new

-- a text was written, and it is what is meant as a whole, before what is still meant for the rest
pub record Sent (old new : Option (List ℕ)) (whole more : Transcript) : Type 0 where
  pub text : List ℕ
  pub taken : Appends old new text
  pub is : whole ≡ transcript_after text more

-- calls were made, which leave this core, and their text was written
pub record AreMade (written : Written) (core : CoreView) (old new : Option (List ℕ)) : Type 0 where
  pub core_is : core ≡ written.core
  pub taken : Appends old new written.text

-- a run failed without a fault of the script: a front of the text was written
abbrev pub TextFails : List ℕ → Option (List ℕ) → Option (List ℕ) → ReplayFault → Type 0
TextFails text old new (Script line reason) = ⊥
TextFails text old new Memory = AppendsFront old new text
TextFails text old new Read = AppendsFront old new text
TextFails text old new Write = AppendsFront old new text

-- a text was written, and it is that of the calls as a whole, before those that are still to be made
pub record ArePartlyMade (old new : Option (List ℕ)) (whole more : Written) : Type 0 where
  pub text : List ℕ
  pub taken : Appends old new text
  pub is : whole ≡ written_after text more
