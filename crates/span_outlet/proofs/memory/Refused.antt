-- Want of memory.
use Rattle.std.proofs.Common.{ℕ, Result, Ok, Err}
use Rattle.std.specs.Prelude.{OnErr}
use Rattle.std.specs.declared.alloc.AllocError.{AllocError}
use Rattle.span_outlet.specs.Kept.{LacksMemory}

-- An error says that memory was refused. Nothing else opens the word.
pub lacks : {A : Type 0} (result : Result A AllocError) (batch place : ℕ) → OnErr result (LacksMemory batch place)
unfolding LacksMemory
lacks (Ok x) batch place = tt
lacks (Err e) batch place = e
