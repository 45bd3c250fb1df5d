-- What contracts see of a handle: the id of its span, and the number of its seat.
use Rattle.std.specs.Prelude.{ℕ, Option, Some, None}
use Rattle.span_seats.specs.declared.view.HandleView.{HandleView}

-- the number of a handle's seat, which no other handle of the registry has
abbrev pub number_in : Option HandleView → ℕ
number_in None = 0
number_in (Some seat) = seat.number
