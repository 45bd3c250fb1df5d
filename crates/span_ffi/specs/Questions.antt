-- What is told of a worker's stack, of a span's layers and of the ring.
use Rattle.std.specs.Prelude.{◌≡◌, ℕ, length, slice_get, None, IsSomeAnd}
use Rattle.span_id.specs.declared.fault.Fault.TheVariants.{Unknown}
use Rattle.span_layers.specs.Filter.{admission_set}
use Rattle.span_forest.specs.Spans.{find}
use Rattle.span_core.specs.World.{stack_of}
use Rattle.span_core.specs.Core.{CoreView}
use Rattle.span_border.specs.declared.status.Status.{Status}
use Rattle.span_border.specs.declared.status.Status.TheVariants.{Done, Refused, NoSuchWorker}
use Rattle.span_border.specs.Numbers.{id_number}
use Rattle.span_ffi.specs.Calls.{HasWorker, LacksWorker}

-- the span at a place of a worker's stack, counted from the lowest, 0 where the stack has no such place; and how many
-- entries the stack has
abbrev pub SeesEntry : ℕ → ℕ → ℕ → ℕ → CoreView → Status → CoreView → Type 0
SeesEntry worker place id depth old Done new =
    HasWorker old worker × (id ≡ id_number (slice_get (stack_of old.world worker) place))
    × (depth ≡ length (stack_of old.world worker)) × (new ≡ old)
SeesEntry worker place id depth old NoSuchWorker new = LacksWorker old worker new
SeesEntry worker place id depth old _ new = ⊥

-- Which layers admit an open span, as bits, of which bit n is layer n's: those whose rule admits its target and its
-- level.
abbrev pub AnswersLayers : ℕ → ℕ → CoreView → Status → CoreView → Type 0
AnswersLayers id layers old Done new =
    IsSomeAnd (find old.world.spans id) (λ node. layers ≡ admission_set old.rules node.target node.level) × (new ≡ old)
AnswersLayers id layers old (Refused Unknown) new = (find old.world.spans id ≡ None) × (new ≡ old)
AnswersLayers id layers old _ new = ⊥

-- how often a call found no place in the ring
abbrev pub AnswersTimesFull : ℕ → CoreView → Status → CoreView → Type 0
AnswersTimesFull times old Done new = (times ≡ old.times_full) × (new ≡ old)
AnswersTimesFull times old _ new = ⊥
