-- What an outlet counts, and the ring into which one may put the batches.
use Rattle.std.specs.Prelude.{ℕ, ◌+◌, ◌-◌, ◌^◌, ◌==◌, cond}
use Rattle.std.specs.declared.alloc.Global.{Global}
use denote.RawPtr.{Ptr}

-- the number of times that the outlet had no place, one more; it stays at 2^64 - 1
abbrev pub one_more : ℕ → ℕ
one_more times = cond (times == 2 ^ 64 - 1) times (times + 1)

-- which ring it is: where its memory lies and in which heap, and the names that the proofs of its crate have for what its
-- writer and its reader see of it
pub record RingIdentity : Type 0 where
  pub words : Ptr
  pub slots : Ptr
  pub writer : ℕ
  pub reader : ℕ
  pub heap : Global

-- The name of a ring: how many places it has, and which ring it is. Two ends are of one ring where their names are the
-- same.
pub record RingName : Type 0 where
  pub places : ℕ
  pub identity : RingIdentity
