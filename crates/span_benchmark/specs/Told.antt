-- The layer that is told of everything.
use Rattle.std.specs.Prelude.{[], ◌∷◌}
use Rattle.span_id.specs.declared.level.Level.TheVariants.{Trace}
use Rattle.span_layers.specs.Filter.{Filter}

-- it admits all targets at all levels, and is told of new spans, enters, exits and closes
abbrev pub told_of_all : Filter
told_of_all = record { pairs = ([], Trace) ∷ []; spans = 15 }
