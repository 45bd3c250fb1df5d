-- How a call on a handle ends.
use Rattle.std.specs.Prelude.{◌≡◌, Option, Some, None, IsSomeAnd}
use Rattle.span_border.specs.declared.status.Status.{Status}
use Rattle.span_border.specs.declared.status.Status.TheVariants.{Done, EmptyHandle}

-- A call with this status on a handle that held `old`, and then holds `new`. `Does` says what the call does to what is
-- held, by its status. Where nothing is held, the status says so, and the handle stays empty.
abbrev pub OnHeld : {X : Type 0} → Option X → (X → Status → X → Type 0) → Option Status → Option X → Type 0
OnHeld old Does None new = ⊥
OnHeld None Does (Some status) new = (status ≡ EmptyHandle) × (new ≡ None)
OnHeld (Some before) Does (Some status) new = IsSomeAnd new (λ after. Does before status after)

-- an output is as it was, unless the call was done
abbrev pub Keeps : {X : Type 0} → Option Status → X → X → Type 0
Keeps (Some Done) old new = Unit {0}
Keeps _ old new = new ≡ old

-- what holds where a call was done
abbrev pub IfDone : Status → Type 0 → Type 0
IfDone Done Holds = Holds
IfDone _ Holds = Unit {0}
