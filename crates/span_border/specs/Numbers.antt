-- What C is told as numbers.
use Rattle.std.specs.Prelude.{ℕ, Bool, cond, Option, Some, None}

-- yes is 1, no is 0
abbrev pub flag : Bool → ℕ
flag holds = cond holds 1 0

-- an id as a number, 0 where there is none
abbrev pub id_number : Option ℕ → ℕ
id_number None = 0
id_number (Some id) = id
