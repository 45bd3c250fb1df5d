-- What a registry is made with.
use Rattle.std.specs.Prelude.{[], List}
use Rattle.span_id.specs.declared.limits.Limits.{Limits}
use Rattle.span_layers.specs.Filter.{Filter}

-- limits that no registry has: each is 0
abbrev pub no_limits : Limits
no_limits = record { slots = 0; last_generation = 0; max_count = 0; workers = 0; ring = 0 }

-- the rules of no layer
abbrev pub no_rules : List Filter
no_rules = []
