-- Batches whose lines were written, and those that were sent: no public clause cites it.
use Rattle.std.specs.Prelude.{ℕ, ◌+◌, ◌≤◌, List, length}
use Rattle.span_outlet.specs.Batch.{PlainBatch}

-- as many were sent as were written, or one more
pub record IsAtMostOneMore (written : ℕ) (sent : List PlainBatch) : Type 0 where
  pub enough : written ≤ length sent
  pub most : length sent ≤ written + 1
