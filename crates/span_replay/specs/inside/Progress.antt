-- How far a script has run, before its first call and after: no public clause cites it.
use Rattle.std.specs.Prelude.{◌≡◌, ℕ, Option, Some, None}
use Rattle.span_replay.specs.State.{State, first_state}
use Rattle.span_replay.specs.inside.Running.{IsWritten, state_at}
use Rattle.span_replay.specs.declared.run.script.Script.{Script}
use Rattle.span_replay.specs.declared.run.setup.Setup.{Setup}
use Rattle.span_replay.specs.inside.Setup.{hooks_in, setup_state}
use Rattle.span_replay.specs.declared.run.progress.Progress.{Progress}
use Rattle.span_replay.specs.declared.run.progress.Progress.TheVariants.{Opening, Running, Lost}
use Rattle.span_script.specs.Operation.{running}

-- what the lines so far have left
abbrev pub state_of : {A F V B : _} → Progress (Setup A F) (Script V B) → State
state_of (Opening setup) = setup_state setup
state_of (Running script) = state_at script running
state_of Lost = first_state

-- the registry was made, and what its calls told is written
abbrev pub IsRunning : {A F V B : _} → Progress (Setup A F) (Script V B) → Type 0
IsRunning (Opening setup) = ⊥
IsRunning (Running script) = IsWritten script
IsRunning Lost = ⊥

-- a further line may run
abbrev pub MayGoOn : {A F V B : _} → Progress (Setup A F) (Script V B) → Type 0
MayGoOn (Opening setup) = Unit {0}
MayGoOn (Running script) = IsWritten script
MayGoOn Lost = ⊥

-- so many hooks there were for layers; once calls are made none takes a hook
abbrev pub HasHooks : {A F V B : _} → ℕ → Progress (Setup A F) (Script V B) → Type 0
HasHooks hooks (Opening setup) = hooks_in setup ≡ hooks
HasHooks hooks (Running script) = Unit {0}
HasHooks hooks Lost = Unit {0}

-- what stood before the first call was taken out, or calls were made already
abbrev pub TakesOpening : {S R : Type 0} → Progress S R → Progress S R → Option S → Type 0
TakesOpening (Opening setup) new taken = taken ≡ Some setup
TakesOpening (Running script) new taken = (taken ≡ None) × (new ≡ Running script)
TakesOpening Lost new taken = taken ≡ None
