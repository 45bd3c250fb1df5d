-- What contracts see of a worker.
use Rattle.std.specs.Prelude.{◌≡◌, ℕ, ◌+◌, ◌^◌, ◌≤◌, List, [], ◌∷◌, ◌++◌}
use Rattle.span_outlet.specs.Batch.{PlainBatch}
use Rattle.span_history.specs.Own.{own, FrontView}

-- its number, how many calls were accepted of it, how many more handles it may make, and what it has seen of the
-- registry's one history
pub record WorkerView : Type 0 where
  pub number : ℕ
  pub accepted : ℕ
  pub spare : ℕ
  pub seen : List PlainBatch

-- what it has seen, with its number
abbrev pub front_of : WorkerView → FrontView
front_of worker = record { number = worker.number; seen = worker.seen }

-- the worker after one more accepted call, with so many free parts, when it has seen this
abbrev pub after_call : WorkerView → ℕ → List PlainBatch → WorkerView
after_call worker spare seen = record worker { accepted = worker.accepted + 1; spare = spare; seen = seen }

-- its own calls are those that it had seen, in their order, and one more
pub record HasOneMore (before after : WorkerView) : Type 0 where
  pub batch : PlainBatch
  pub own_are : own before.number after.seen ≡ own before.number before.seen ++ batch ∷ []

-- its own calls are those that it had seen
abbrev pub HasNoMore : WorkerView → WorkerView → Type 0
HasNoMore before after = own before.number after.seen ≡ own before.number before.seen

-- a worker that has made no call yet, and may make 2^47 handles at least
pub record IsNew (number : ℕ) (worker : WorkerView) : Type 0 where
  pub number_is : worker.number ≡ number
  pub accepted_is : worker.accepted ≡ 0
  pub spare_low : 2 ^ 47 ≤ worker.spare
  pub seen_is : worker.seen ≡ []
