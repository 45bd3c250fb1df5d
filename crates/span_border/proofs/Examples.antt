-- Worked cases of the definitions, computed from them alone.
use Rattle.std.proofs.Common.{◌≡◌, ℕ, ◌+◌, refl, List, [], ◌∷◌, Some, None, true, false, arith}
use Rattle.span_id.specs.declared.fault.Fault.TheVariants.{Unknown, Memory}
use Rattle.span_border.specs.declared.status.Status.{Status}
use Rattle.span_border.specs.declared.status.Status.TheVariants.{Done, Refused, BadData, EmptyHandle, ShortBuffer, NoSuchCallsite}
use Rattle.span_border.specs.Status.{meant}
use Rattle.span_border.specs.Ends.{OnHeld, Keeps}
use Rattle.span_border.specs.Numbers.{flag, id_number}
use Rattle.span_border.specs.Buffers.{WritesAll}

-- the first and the last number, those beside the gap, and those that mean nothing
done : meant 0 ≡ Some Done
done = refl

unknown : meant 1 ≡ Some (Refused Unknown)
unknown = refl

gap : meant 9 ≡ None
gap = refl

memory : meant 10 ≡ Some (Refused Memory)
memory = refl

bad_data : meant 11 ≡ Some BadData
bad_data = refl

short_buffer : meant 16 ≡ Some ShortBuffer
short_buffer = refl

no_such_callsite : meant 17 ≡ Some NoSuchCallsite
no_such_callsite = refl

beyond : meant 18 ≡ None
beyond = refl

-- flags and ids as numbers
yes : flag true ≡ 1
yes = refl

no : flag false ≡ 0
no = refl

no_id : id_number None ≡ 0
no_id = refl

-- a call that adds 1 to the number that a handle holds, or is refused
abbrev AddsOne : ℕ → Status → ℕ → Type 0
AddsOne old Done new = new ≡ old + 1
AddsOne old _ new = new ≡ old

added : OnHeld (Some 3) AddsOne (Some Done) (Some 4)
added = refl

refused : OnHeld (Some 3) AddsOne (Some BadData) (Some 3)
refused = refl

nothing_held : OnHeld None AddsOne (Some EmptyHandle) None
nothing_held = (refl, refl)

-- what the handle holds isn't lost, and each answer is the number of a status
lost : OnHeld (Some 3) AddsOne (Some Done) None → ⊥
lost ends = ends

no_status : OnHeld (Some 3) AddsOne None (Some 4) → ⊥
no_status ends = ends

-- an output changes only where the call was done
written : Keeps {X = ℕ} (Some Done) 3 4
written = tt

kept : Keeps {X = ℕ} (Some BadData) 3 3
kept = refl

-- two things go into a buffer of three; of one that is too short nothing is written, and how many they are is told
whole : WritesAll {X = ℕ} (1 ∷ 2 ∷ []) (7 ∷ 8 ∷ 9 ∷ []) Done (1 ∷ 2 ∷ 9 ∷ []) 2
whole = (omega arith, refl, refl)

too_short : WritesAll {X = ℕ} (1 ∷ 2 ∷ []) (7 ∷ []) ShortBuffer (7 ∷ []) 2
too_short = (omega arith, refl, refl)

cut_off : (new : List ℕ) (len : ℕ) → WritesAll {X = ℕ} (1 ∷ 2 ∷ []) (7 ∷ []) Done new len → ⊥
cut_off new len writes = let room = writes.0 in omega (arith, room)
