-- What is always true of the root's view: no public clause cites it.
use Rattle.std.specs.Prelude.{◌≡◌, ℕ, ◌+◌, ◌<◌, ◌≤◌, List, [], ◌∷◌, true, if◌then◌else◌, ◌==◌}
use Rattle.span_seats.specs.declared.view.HandleView.{HandleView}
use Rattle.span_seats.specs.declared.view.RootView.{RootView}
use Rattle.span_seats.specs.RootView.{has_number, IsOpenIn}

-- how often the number stands in all sets
abbrev pub times_given : ℕ → List HandleView → ℕ
times_given number [] = 0
times_given number (h ∷ hs) = (if h.number == number then 1 else 0) + times_given number hs

-- what is always true of the root's view
pub record IsWellFormed (root : RootView) : Type 0 where
  -- an id whose set isn't empty is open
  pub opened : (id number : ℕ) → has_number id number root.handles ≡ true → IsOpenIn root.words id
  -- the next number is above them all
  pub below : (id number : ℕ) → has_number id number root.handles ≡ true → number < root.next_number
  -- no two handles have one number
  pub once : (number : ℕ) → times_given number root.handles ≤ 1
