-- Two machine words side by side, as the structs of a pointer and an allocator lie in memory. Assumes nothing.
use lib.Dec.{T, lit<}
use mathlib.Core.Bool.{Bool, true, ◌&&◌}
use mir.Syntax.{ty_ptr}
use mir.Val.{Val, vstruct, vcons, vnil, has_ty, WT}
use denote.RawPtr.{Ptr, block_ptr, null_ptr, ptr_val}
use Rattle.std_alloc.proofs.ResultValues.{and_tt}

-- a struct of two words
abbrev pub pair : Val → Val → Val
pair first second = vstruct (vcons first (vcons second vnil))

-- the word of a pointer has a pointer's type
pub ptr_good : (p : Ptr) → T (has_ty ty_ptr (ptr_val p)) × WT (ptr_val p)
ptr_good (block_ptr b o) = (tt, tt)
ptr_good null_ptr = (tt, record { fits = lit< tt })

-- a pointer and a word that has its type lie side by side
pub pair_good : (p : Ptr) (rest : Bool) → T rest → T (has_ty ty_ptr (ptr_val p) && (rest && true))
pair_good (block_ptr b o) rest good = and_tt rest good
pair_good null_ptr rest good = and_tt rest good
