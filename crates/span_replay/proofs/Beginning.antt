-- A script's first call: the registry is made with what the lines before it gave.
use Rattle.std.proofs.Common.{◌≡◌, [], ap, sym, ◌∙◌, subst, Some, None}
use Rattle.span_replay.specs.State.{State}
use Rattle.span_replay.specs.declared.run.progress.Progress.{Progress}
use Rattle.span_replay.specs.declared.run.progress.Progress.TheVariants.{Opening, Running, Lost}
use Rattle.span_replay.specs.declared.run.script.Script.{Script}
use Rattle.span_replay.specs.declared.run.setup.Setup.{Setup}
use Rattle.span_replay.specs.inside.Progress.{IsRunning, MayGoOn, TakesOpening, state_of}
use Rattle.span_replay.specs.inside.Running.{IsWritten, core_in, labels_in}
use Rattle.span_replay.specs.inside.Setup.{setup_state}
use Rattle.span_script.specs.Operation.{running}

-- calls were made already

pub still_running : {A F V B : _} (old new : Progress (Setup A F) (Script V B)) → TakesOpening old new None → MayGoOn old → IsRunning new
still_running (Opening setup) new taken ready = cc
still_running (Running script) new taken ready = subst IsRunning (sym taken.1) ready
still_running Lost new taken ready = absurd ready

pub still_there : {A F V B : _} (old new : Progress (Setup A F) (Script V B)) → TakesOpening old new None → MayGoOn old → state_of new ≡ record (state_of old) { stage = running }
still_there (Opening setup) new taken ready = cc
still_there (Running script) new taken ready = ap state_of taken.1
still_there Lost new taken ready = absurd ready

-- the first call comes

taken_state : {A F V B : _} (old new : Progress (Setup A F) (Script V B)) (setup : Setup A F) → TakesOpening old new (Some setup) → state_of old ≡ setup_state setup
taken_state (Opening opening) new setup taken = let same : opening ≡ setup = cc in ap setup_state same
taken_state (Running script) new setup taken = cc
taken_state Lost new setup taken = cc

pub now_running : {A F V B : _} (new : Progress (Setup A F) (Script V B)) (script : Script V B) → new ≡ Running script → IsWritten script → IsRunning new
now_running new script is written = subst IsRunning (sym is) written

pub now_there : {A F V B : _} (old mid new : Progress (Setup A F) (Script V B)) (setup : Setup A F) (script : Script V B) → TakesOpening old mid (Some setup) → new ≡ Running script → core_in script ≡ (setup_state setup).core → labels_in script ≡ []
    → state_of new ≡ record (state_of old) { stage = running }
now_there old mid new setup script taken is core labels =
    ap state_of is
    ∙ (λ i. record { core = core i; labels = labels i; stage = running })
    ∙ ap (λ (state : State). record state { stage = running }) (sym (taken_state old mid setup taken))
