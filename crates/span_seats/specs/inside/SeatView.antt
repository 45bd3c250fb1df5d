-- The views of seats, and what a split and a join do to them: no public clause cites it.
use Rattle.std.specs.Prelude.{ℕ, true, false, Bool, ◌&&◌}
use Rattle.span_seats.specs.declared.view.HandleView.{HandleView}
use Rattle.span_seats.specs.declared.view.RootView.{RootView}
use Rattle.span_seats.specs.declared.view.SeatView.{SeatView}
use Rattle.span_seats.specs.RootView.{empty_table, has_number, with_number, without_number}

abbrev pub no_handle : HandleView
no_handle = record { id = 0; number = 0 }

-- the view of the root's seat, and whether each join found its number in its id's set
abbrev pub root_seat : RootView → Bool → SeatView
root_seat root all_found = record { root = root; all_found = all_found; is_handle = false; handle = no_handle }

-- the view of a handle's seat
abbrev pub handle_seat : HandleView → SeatView
handle_seat handle = record { root = empty_table 0; all_found = false; is_handle = true; handle = handle }

-- the fixed view of a seat that was joined
abbrev pub joined_seat : SeatView
joined_seat = record { root = empty_table 0; all_found = false; is_handle = false; handle = no_handle }

-- the root's view when a table with so many slots is made
abbrev pub first_view : ℕ → SeatView
first_view slots = root_seat (empty_table slots) true

-- a split leaves this view to the root ..
abbrev pub root_after_split : SeatView → SeatView
root_after_split seat = root_seat (with_number seat.root) seat.all_found

-- .. and gives the new handle this one
abbrev pub handle_of_split : SeatView → SeatView
handle_of_split seat = handle_seat (record { id = seat.root.split_id; number = seat.root.next_number })

-- the root's view after a join, which writes down whether the number was found
abbrev pub root_after_join : SeatView → SeatView → SeatView
root_after_join seat joined =
    root_seat
    (without_number seat.root joined.handle.id joined.handle.number)
    (seat.all_found && has_number joined.handle.id joined.handle.number seat.root.handles)
