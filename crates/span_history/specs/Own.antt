-- A worker's own calls in a history, and what the history's keeper and a front know.
use Rattle.std.specs.Prelude.{◌≡◌, ◌≢◌, ℕ, ◌==◌, List, filter}
use mathlib.Core.List.{IsPrefix}
use Rattle.span_outlet.specs.Request.{worker_of}
use Rattle.span_outlet.specs.Batch.{PlainBatch}

-- the batches of this worker's calls, in their order
abbrev pub own : ℕ → List PlainBatch → List PlainBatch
own worker history = filter (λ batch. worker_of batch.request == worker) history

-- a front: the number of its worker, and what that has seen
pub record FrontView : Type 0 where
  pub number : ℕ
  pub seen : List PlainBatch

-- what the keeper knows: the history, and the number of the next front
pub record KeeperView : Type 0 where
  pub history : List PlainBatch
  pub next : ℕ

-- what was seen begins the history, and no call of its worker is missing
pub record IsFront (front : FrontView) (history : List PlainBatch) : Type 0 where
  pub begins : IsPrefix front.seen history
  pub own_are : own front.number front.seen ≡ own front.number history

-- the history goes on by calls of this worker alone
pub record GoesOn (worker : ℕ) (before after : List PlainBatch) : Type 0 where
  pub longer : IsPrefix before after
  pub others : (other : ℕ) → other ≢ worker → own other after ≡ own other before
