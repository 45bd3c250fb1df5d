-- What a contract sees of a ring: its end that takes the batches in.
use Rattle.std.specs.Prelude.{ℕ, Bool, List}
use Rattle.span_outlet.specs.Batch.{PlainBatch}
use Rattle.span_outlet.specs.Outlet.{RingName}

-- its name, the batches sent so far, how many places are known to be free, whether it has a place for one more batch,
-- and how often it had none
pub record RingView : Type 0 where
  pub name : RingName
  pub sent : List PlainBatch
  pub free : ℕ
  pub ready : Bool
  pub times_full : ℕ
