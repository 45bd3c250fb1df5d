-- What a handle owns: no public clause cites it.
use base.Fml.{Fml, ftrue, fex}
use denote.RattleType.{RattleType}
use denote.RawPtr.{Ptr, null_ptr}
use Rattle.std.specs.Prelude.{◌≡◌, Option, Some, None}
use Rattle.std.specs.Box.Ownership.{box_owns}
use Rattle.std.specs.Global.{Global}
use Rattle.std_heap.specs.contracts.GlobalAllocator.TheImpl.{ghosts}

-- nothing, and then it is null; or a box of the value
abbrev pub handle_owns : (T : RattleType) → Global → Ptr → Option T.Denot → Fml
handle_owns T alloc at None = fex (at ≡ null_ptr) (λ _. ftrue)
handle_owns T alloc at (Some value) = box_owns (ghosts.dealloc_token alloc) T at value
