-- What comes back of the threads.
use Rattle.std.specs.Prelude.{◌≡◌, ℕ, ◌+◌, ◌*◌, List, length, sum_by, ⊤}
use Rattle.span_registry.specs.Worker.{WorkerView}
use Rattle.span_registry.specs.Share.{ShareView}
use Rattle.call_loops.specs.declared.order.Plan.{Plan}
use Rattle.call_loops.specs.declared.order.Plan.TheVariants.{Rounds}

-- how many calls were accepted of a worker that followed the plan, after so many before: by rounds three more for each
abbrev pub IsMade : Plan → ℕ → ℕ → Type 0
IsMade (Rounds rounds) before after = after ≡ before + 3 * rounds
IsMade _ _ _ = ⊤

-- the same of all these workers together
abbrev pub IsMadeByAll : Plan → List WorkerView → ℕ → Type 0
IsMadeByAll (Rounds rounds) workers after = after ≡ sum_by (λ worker. worker.accepted + 3 * rounds) workers
IsMadeByAll _ _ _ = ⊤

-- the same of so many workers that were new
abbrev pub IsMadeByNew : Plan → ℕ → ℕ → Type 0
IsMadeByNew (Rounds rounds) workers after = after ≡ workers * (3 * rounds)
IsMadeByNew _ _ _ = ⊤

-- the share of a worker that gave all back: so many parts of the ledger of handles, and no handle that was given up
pub record HasParts (parts : ℕ) (share : ShareView) : Type 0 where
  pub units : share.units ≡ 0
  pub handles : share.handle_parts ≡ parts
  pub calls : share.call_parts ≡ 1

-- the share of a worker that followed the plan, and gave all back
pub record ComesBack (plan : Plan) (worker : WorkerView) (share : ShareView) : Type 0 where
  pub parts : HasParts worker.spare share
  pub accepted : IsMade plan worker.accepted share.accepted

-- the shares of these workers together, each of which followed the plan, and gave all back
pub record HasAll (plan : Plan) (workers : List WorkerView) (share : ShareView) : Type 0 where
  pub units : share.units ≡ 0
  pub accepted : IsMadeByAll plan workers share.accepted
  pub handles : share.handle_parts ≡ sum_by (λ worker. worker.spare) workers
  pub calls : share.call_parts ≡ length workers
