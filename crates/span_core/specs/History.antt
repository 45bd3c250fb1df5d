-- Legal histories.
use Rattle.std.specs.Prelude.{◌≡◌, ℕ, List, [], ◌∷◌, ◌++◌, flat_map}
use Rattle.span_layers.specs.Filter.{Filter}
use Rattle.span_core.specs.World.{World, empty_world}
use Rattle.span_outlet.specs.Request.{Answer, made}
use Rattle.span_outlet.specs.Batch.{PlainBatch}
use Rattle.span_core.specs.Step.{IsStep}

-- the id that an answer issues, if it does
abbrev pub id_issued : Answer → List ℕ
id_issued (made id) = id ∷ []
id_issued _ = []

-- the ids that a history has issued
abbrev pub issued : List PlainBatch → List ℕ
issued history = flat_map (λ batch. id_issued batch.answer) history

-- A legal history, under these rules and with so many workers, and the world that it leaves: the first
-- batch is a step from the empty world, each further one from the world that the one before it left.
pub data IsLegal (rules : List Filter) (workers : ℕ) : List PlainBatch → World → Type 0 where
  none : IsLegal rules workers [] (empty_world workers)
  more : {before : List PlainBatch} {old : World} (batch : PlainBatch) {new : World} {history : List PlainBatch}
      → IsLegal rules workers before old → IsStep rules (issued before) old batch.request batch.answer batch.notes new
      → history ≡ before ++ batch ∷ [] → IsLegal rules workers history new
