-- A history of no calls is legal.
use Rattle.std.proofs.Common.{◌≡◌, ℕ, List, [], sym, subst}
use Rattle.span_layers.specs.Filter.{Filter}
use Rattle.span_outlet.specs.Batch.{PlainBatch}
use Rattle.span_core.specs.World.{World, empty_world}
use Rattle.span_core.specs.History.{IsLegal, none}

pub empty_legal : (rules : List Filter) (workers : ℕ) (history : List PlainBatch) → history ≡ [] → (world : World) × IsLegal rules workers history world
empty_legal rules workers history is = (empty_world workers, subst (λ (h : List PlainBatch). IsLegal rules workers h (empty_world workers)) (sym is) none)
