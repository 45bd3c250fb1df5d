-- What the calls do that tell which spans are open, and what keeps them open.
use Rattle.std.specs.Prelude.{◌≡◌, ℕ, List, map, None}
use Rattle.span_id.specs.declared.fault.Fault.TheVariants.{Unknown, Memory}
use Rattle.span_forest.specs.declared.holding.Held.{Held}
use Rattle.span_forest.specs.Spans.{find, IsOpen}
use Rattle.span_forest.specs.Holding.{all_ids, what_holds}
use Rattle.span_core.specs.World.{workers_with}
use Rattle.span_core.specs.Core.{CoreView}
use Rattle.span_ffi.specs.declared.data.SpanHeld.{SpanHeld}
use Rattle.span_border.specs.declared.status.Status.{Status}
use Rattle.span_border.specs.declared.status.Status.TheVariants.{Refused}
use Rattle.span_border.specs.Buffers.{WritesAll}

-- a span that has handles or entries, as it is told
abbrev pub held_as : Held → SpanHeld
held_as held = record { id = held.id; handles = held.handles; entries = held.entries }

-- Things that are known of a registry go into a buffer, or memory is refused; nothing changes.
abbrev pub AnswersAll : {X : Type 0} → List X → List X → List X → ℕ → CoreView → Status → CoreView → Type 0
AnswersAll things into into' len old (Refused Memory) new = new ≡ old
AnswersAll things into into' len old status new = WritesAll things into status into' len × (new ≡ old)

-- Things that are known of an open span go into a buffer, or memory is refused; a span that isn't open is unknown.
-- Nothing changes.
abbrev pub AnswersOf : {X : Type 0} → ℕ → List X → List X → List X → ℕ → CoreView → Status → CoreView → Type 0
AnswersOf id things into into' len old (Refused Unknown) new = (find old.world.spans id ≡ None) × (new ≡ old)
AnswersOf id things into into' len old status new =
    IsOpen old.world.spans id × AnswersAll things into into' len old status new

-- the ids of the open spans
abbrev pub AnswersOpen : List ℕ → List ℕ → ℕ → CoreView → Status → CoreView → Type 0
AnswersOpen into into' len old = AnswersAll (all_ids old.world.spans) into into' len old

-- what keeps a span open
abbrev pub AnswersHolders : ℕ → List SpanHeld → List SpanHeld → ℕ → CoreView → Status → CoreView → Type 0
AnswersHolders id into into' len old = AnswersOf id (map held_as (what_holds old.world.spans id)) into into' len old

-- the workers that are inside a span
abbrev pub AnswersWorkers : ℕ → List ℕ → List ℕ → ℕ → CoreView → Status → CoreView → Type 0
AnswersWorkers id into into' len old = AnswersOf id (workers_with old.world.stacks id) into into' len old
