-- Labels that were bound lately, beside all that are bound: no public clause cites it.
use Rattle.std.specs.Prelude.{◌≡◌, ℕ, List, Option, Some, IfSome}
use Rattle.span_replay.specs.Labels.{Bound, id_in}

-- a label names an id
abbrev pub IsBound : Bound → List ℕ × ℕ → Type 0
IsBound labels kept = id_in labels kept.0 ≡ Some kept.1

-- the labels that are kept name the ids that they are kept with
abbrev pub AreBound : Bound → Option (List ℕ × ℕ) → Option (List ℕ × ℕ) → Type 0
AreBound labels newest older = IfSome newest (IsBound labels) × IfSome older (IsBound labels)
