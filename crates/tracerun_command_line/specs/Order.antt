-- What the program can be asked to do.
use Rattle.std.specs.Prelude.{◌≤◌}
use Rattle.tracerun_command_line.specs.declared.orders.Order.{Order}
use Rattle.tracerun_command_line.specs.declared.orders.Order.TheVariants.{Replay, Why, Storm}

-- a storm has 1 to 16 workers and 1 to 400 rounds
abbrev pub IsInRange : Order → Type 0
IsInRange Replay = Unit {0}
IsInRange (Why span) = Unit {0}
IsInRange (Storm workers rounds) = ((1 ≤ workers) × (workers ≤ 16)) × ((1 ≤ rounds) × (rounds ≤ 400))
