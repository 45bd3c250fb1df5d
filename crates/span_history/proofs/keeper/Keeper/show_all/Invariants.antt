use Rattle.std.proofs.Common.{◌≡◌, ◌++◌, All}
use Rattle.span_history.specs.Own.{IsFront}
use Rattle.span_history.specs.inside.Places.{fronts_at}
use Rattle.span_history.proofs.keeper.Keeper.show_all.Given as goal

-- each front that was taken in is one of the history
abbrev pub invariant-loop-place : goal.invariant-loop-place
invariant-loop-place g l =
    (l.self ≡ l.initial.self) × All (λ front. IsFront front l.initial.self.history) (fronts_at l.yielded)
    × (fronts_at (l.yielded ++ l.place-iterator) ≡ l.fn.fronts)
