-- Worked cases of the definitions, computed from them alone.
use Rattle.std.proofs.Common.{◌≡◌, refl, [], ◌∷◌, Some, None}
use Rattle.span_stack.specs.Stack.{first_places, distinct_from_top, current, top, without_last}

-- after entering 1, 2 and 1 again the current span is 2, and the topmost entry is 1
re_entered : first_places (1 ∷ 2 ∷ 1 ∷ []) ≡ 1 ∷ 2 ∷ []
re_entered = refl

current_re_entered : current (1 ∷ 2 ∷ 1 ∷ []) ≡ Some 2
current_re_entered = refl

top_re_entered : top (1 ∷ 2 ∷ 1 ∷ []) ≡ Some 1
top_re_entered = refl

distinct_re_entered : distinct_from_top (1 ∷ 2 ∷ 1 ∷ []) ≡ 2 ∷ 1 ∷ []
distinct_re_entered = refl

-- leaving 1 then takes out the entry on top
left_re_entered : without_last (1 ∷ 2 ∷ 1 ∷ []) 1 ≡ 1 ∷ 2 ∷ []
left_re_entered = refl

-- leaving 2 takes out the entry between: 1 is the current span
left_between : without_last (1 ∷ 2 ∷ 1 ∷ []) 2 ≡ 1 ∷ 1 ∷ []
left_between = refl

current_between : current (1 ∷ 1 ∷ []) ≡ Some 1
current_between = refl

-- leaving what isn't there changes nothing
left_absent : without_last (1 ∷ 2 ∷ 1 ∷ []) 3 ≡ 1 ∷ 2 ∷ 1 ∷ []
left_absent = refl

-- three entries of one span are one and its duplicates
thrice : distinct_from_top (5 ∷ 5 ∷ 4 ∷ 5 ∷ []) ≡ 4 ∷ 5 ∷ []
thrice = refl

-- an empty stack has no current span
current_empty : current [] ≡ None
current_empty = refl

top_empty : top [] ≡ None
top_empty = refl
