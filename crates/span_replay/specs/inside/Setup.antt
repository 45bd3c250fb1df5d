-- What the lines before the first call have come to: no public clause cites it.
use Rattle.std.specs.Prelude.{ℕ, ◌+◌, length, vec_len}
use Rattle.span_layers.specs.Layers.{filters_in, forms_in}
use Rattle.span_replay.specs.State.{State}
use Rattle.span_replay.specs.inside.Turns.{opened_state}
use Rattle.span_script.specs.Operation.{Stage}
use Rattle.span_script.specs.Views.{stage_seen}
use Rattle.span_replay.specs.declared.run.setup.Opened.{Opened}
use Rattle.span_replay.specs.declared.run.setup.Setup.{Setup}

-- a core of which no call was made, with the limits that stand and the layers that were added
abbrev pub setup_state : {A F : _} → Setup A F → State
setup_state setup =
    opened_state setup.checked (filters_in setup.layers) (forms_in setup.layers) (stage_seen setup.stage)

-- the same of what they gave as plain data, where such lines came
abbrev pub opened_in : Opened → Stage → State
opened_in opened stage = opened_state opened.checked opened.rules opened.forms stage

-- how many hooks there were: those of the layers and those that are left
abbrev pub hooks_in : {A F : _} → Setup A F → ℕ
hooks_in setup = length (filters_in setup.layers) + vec_len setup.hooks
