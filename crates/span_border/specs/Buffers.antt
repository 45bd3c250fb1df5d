-- How texts and lists go into a buffer.
use Rattle.std.specs.Prelude.{◌≡◌, ℕ, ◌<◌, ◌≤◌, List, ◌++◌, length, drop, Option, Some}
use Rattle.span_border.specs.declared.status.Status.{Status}
use Rattle.span_border.specs.declared.status.Status.TheVariants.{Done, ShortBuffer}

-- The bytes of a text, or other things, go into a buffer: they stand at its beginning, and how many they are is told.
-- Where they are more than it has room for, only that is told.
abbrev pub WritesAll : {X : Type 0} → List X → List X → Status → List X → ℕ → Type 0
WritesAll things old Done new len =
    (length things ≤ length old) × (new ≡ things ++ drop (length things) old) × (len ≡ length things)
WritesAll things old ShortBuffer new len = (length old < length things) × (new ≡ old) × (len ≡ length things)
WritesAll things old _ new len = ⊥

-- numbers that are told also where a buffer is too short, as a length is: they are as they were, unless they were told
abbrev pub KeepsNumbers : {X : Type 0} → Option Status → X → X → Type 0
KeepsNumbers (Some Done) old new = Unit {0}
KeepsNumbers (Some ShortBuffer) old new = Unit {0}
KeepsNumbers _ old new = new ≡ old
