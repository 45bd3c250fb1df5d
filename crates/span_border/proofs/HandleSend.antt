-- What a handle owns is tied to no thread, where what it holds isn't; and what else says so of a struct of C. Assumes nothing.
use base.Shift.{Keyless}
use mir.Raw.{raw}
use denote.Memory.{lone}
use denote.RattleType.{RattleType}
use denote.RawPtr.{Ptr}
use denote.Param.Send.{IsSend}
use Rattle.std.specs.Prelude.{Option, Some, None}
use Rattle.std.specs.Global.{Global}
use Rattle.std.proofs.Crossing as heap
use Rattle.std_alloc.proofs.SendSync.{lies}
pub use Rattle.std_alloc.proofs.SendSync.{quiet}
pub use Rattle.std_heap.proofs.Global.TheSendSync.{the_field_send}
use Rattle.span_border.specs.inside.HandleOwned.{handle_owns}

pub keyless : (T : RattleType) → IsSend T → (alloc : Global) (at : Ptr) (held : Option T.Denot)
    → Keyless (handle_owns T alloc at held)
keyless T can_go alloc at None = λ null. tt
keyless T can_go alloc at (Some x) = (lies T can_go at x, heap.frees.frees alloc (raw (lone T.mir)) at)
