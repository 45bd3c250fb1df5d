-- The rule of the table, which holds between any two steps, and what each step of the root tells it.
-- No public clause cites it.
use Rattle.std.specs.Prelude.{◌≡◌, ℕ, List, true, false}
use mathlib.Core.Option.{some}
use lib.ListN.{get_elem?}
use Rattle.atomic_table.specs.Table.{State, Me, Step}
use Rattle.span_seats.specs.declared.view.SeatView.{SeatView}
use Rattle.span_seats.specs.RootView.{has_number, stored}
use Rattle.span_seats.specs.inside.WellFormed.{IsWellFormed}
use Rattle.span_seats.specs.inside.SeatView.{root_seat}

-- how the root's view and the views of all seats fit together
pub record FitsSeats (root : SeatView) (views : List SeatView) : Type 0 where
  pub all_found : root.all_found ≡ true
  pub is_root : root.is_handle ≡ false
  pub well_formed : IsWellFormed root.root
  -- a handle's number stands in the root's set of its id
  pub in_set : (k : ℕ) (v : SeatView) → get_elem? views k ≡ some v → v.is_handle ≡ true
      → has_number v.handle.id v.handle.number root.root.handles ≡ true
  -- no two handles' views have one number
  pub apart : (j k : ℕ) (v w : SeatView) → get_elem? views j ≡ some v → get_elem? views k ≡ some w
      → v.is_handle ≡ true → w.is_handle ≡ true → v.handle.number ≡ w.handle.number → j ≡ k

module _ {S : Type 0} where
  -- the root's view stands first among the views, and each word is what it says
  pub record Holds (s : State S SeatView) : Type 0 where
    pub root : SeatView
    pub first : get_elem? s.views 0 ≡ some root
    pub words : s.words ≡ root.root.words
    pub fits : FitsSeats root s.views

  -- a store writes the word down in the root's view
  abbrev pub Stored : Step S → Me S SeatView → ℕ → Me S SeatView → Type 0
  Stored s before found after = after ≡ (root_seat (stored before.0.root s.word s.first) before.0.all_found, before.1)

  -- a look changes nothing, and shows that each join so far found its number
  abbrev pub Looked : Step S → Me S SeatView → ℕ → Me S SeatView → Type 0
  Looked s before found after = (after ≡ before) × (before.0.all_found ≡ true)
