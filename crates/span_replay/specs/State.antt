-- How far a script has run.
use Rattle.std.specs.Prelude.{[], None}
use Rattle.span_id.specs.declared.limits.Limits.{Limits}
use Rattle.span_core.specs.World.{empty_world}
use Rattle.span_core.specs.Core.{CoreView}
use Rattle.span_replay.specs.Labels.{Bound}
use Rattle.span_script.specs.Operation.{Stage, at_start}

-- the core, with the layers that were added so far, the labels that are bound, and which lines came
pub record State : Type 0 where
  pub core : CoreView
  pub labels : Bound
  pub stage : Stage

-- the limits of a script that gives none
abbrev pub default_limits : Limits
default_limits = record { slots = 1024; last_generation = 4294967295; max_count = 4294967295; workers = 4; ring = 1024 }

-- a core of which no call was made, with these limits and no layers
abbrev pub empty_core : Limits → CoreView
empty_core limits =
    record {
      limits = limits;
      rules = [];
      world = empty_world limits.workers;
      sent = [];
      times_full = 0;
      forms = [];
      name = None;
    }

-- before the first line
abbrev pub first_state : State
first_state = record { core = empty_core default_limits; labels = []; stage = at_start }
