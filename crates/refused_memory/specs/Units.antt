-- How many handles there are.
use Rattle.std.specs.Prelude.{ℕ, Option, Some, None}

-- one where there is a handle, else none
unfoldable pub units_in : {X : Type 0} → Option X → ℕ
units_in None = 0
units_in (Some handle) = 1
