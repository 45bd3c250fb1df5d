-- Which runs may be asked for.
use Rattle.std.specs.Prelude.{◌≤◌, ⊤}
use Rattle.call_loops.specs.declared.order.Order.{Order}
use Rattle.call_loops.specs.declared.order.Order.TheVariants.{Storm, Beside}
use Rattle.call_loops.specs.declared.order.Beside.TheVariants.{Soak}

-- a storm has 1 to 16 workers and 1 to 400 rounds; a long run 1 to 256 workers, a ring of 1 to 65536 places, and a round at least
abbrev pub MayBeAsked : Order → Type 0
MayBeAsked (Storm workers rounds) = (1 ≤ workers) × (workers ≤ 16) × (1 ≤ rounds) × (rounds ≤ 400)
MayBeAsked (Beside (Soak crew)) = (1 ≤ crew.workers) × (crew.workers ≤ 256) × (1 ≤ crew.places) × (crew.places ≤ 65536) × (1 ≤ crew.rounds)
MayBeAsked _ = ⊤
