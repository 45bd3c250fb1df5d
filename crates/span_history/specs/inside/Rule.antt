-- The rule of the history's table, and what each step of the keeper tells it.
use Rattle.std.specs.Prelude.{◌≡◌, ℕ, ◌<◌, true, false, List, []}
use mathlib.Core.List.{IsPrefix}
use mathlib.Core.Option.{some}
use lib.ListN.{get_elem?}
use Rattle.atomic_table.specs.Table.{State, Me, Step}
use Rattle.span_outlet.specs.Batch.{PlainBatch}
use Rattle.span_history.specs.Own.{own}
use Rattle.span_history.specs.declared.view.SeatView.{SeatView}

-- the keeper's view where it has no number, and where it has that of the front that was joined
abbrev pub idle_seat : List PlainBatch → List PlainBatch → ℕ → SeatView
idle_seat log shown next = record { log = log; shown = shown; has = false; number = 0; next = next }

abbrev pub busy_seat : List PlainBatch → List PlainBatch → ℕ → ℕ → SeatView
busy_seat log shown number next = record { log = log; shown = shown; has = true; number = number; next = next }

-- a front's view: its number, and what was seen
abbrev pub front_seat : ℕ → List PlainBatch → SeatView
front_seat number seen = record { log = seen; shown = []; has = true; number = number; next = 0 }

-- nothing was seen
abbrev pub spent_seat : SeatView
spent_seat = idle_seat [] [] 0

-- What the front that was joined last, and each other one, has seen begins the history, and has all calls of its own
-- number; each number is below the next one, and no two views have one.
pub record Fits (keeper : SeatView) (views : List SeatView) : Type 0 where
  pub shown : IsPrefix keeper.shown keeper.log
  pub held : keeper.has ≡ true → own keeper.number keeper.shown ≡ own keeper.number keeper.log
  pub fronts : (k : ℕ) (v : SeatView) → get_elem? views k ≡ some v → IsPrefix v.log keeper.log
  pub owned : (k : ℕ) (v : SeatView) → get_elem? views k ≡ some v → v.has ≡ true
      → own v.number v.log ≡ own v.number keeper.log
  pub below : (k : ℕ) (v : SeatView) → get_elem? views k ≡ some v → v.has ≡ true → v.number < keeper.next
  pub apart : (j k : ℕ) (v w : SeatView) → get_elem? views j ≡ some v → get_elem? views k ≡ some w → v.has ≡ true
      → w.has ≡ true → v.number ≡ w.number → j ≡ k

module _ {S : Type 0} where
  -- the keeper's view stands first
  pub record Holds (s : State S SeatView) : Type 0 where
    pub keeper : SeatView
    pub first : get_elem? s.views 0 ≡ some keeper
    pub fits : Fits keeper s.views

  -- the keeper's history becomes this one, and so does what the joined front has seen
  abbrev pub Lengthened : List PlainBatch → Step S → Me S SeatView → ℕ → Me S SeatView → Type 0
  Lengthened log s before found after = after ≡ (busy_seat log log before.0.number before.0.next, before.1)

  -- nothing changes, and what the joined front has seen is a front of the history
  abbrev pub Looked : Step S → Me S SeatView → ℕ → Me S SeatView → Type 0
  Looked s before found after = (after ≡ before) × IsPrefix before.0.shown before.0.log
      × (before.0.has ≡ true → own before.0.number before.0.shown ≡ own before.0.number before.0.log)
