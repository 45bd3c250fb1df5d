-- Facts on several stacks, as one for each worker, for the crates that keep them in a `Vec`.
use Rattle.std.proofs.Common.{◌≡◌, ℕ, ◌<◌, List, [], length, get_or, set, arith, sym, ap, ◌∙◌, Some, unwrap_or, option_map}
use Rattle.std.specs.List.{slice_get}
use Rattle.std.proofs.Math.Seq.{map-set_same}
use Rattle.std.proofs.lemmas.List.{map-set, length-map}
use Rattle.std.proofs.lemmas.Option.{slice_get-map, slice_get-get_or}
use Rattle.span_stack.specs.Stack.{Stack, ids_of_each}

-- the stack that stands at a place has the ids that are seen there
pub ids_of_each-at : (stacks : List Stack) (seen : List (List ℕ)) (i : ℕ) (stack : Stack)
    → ids_of_each stacks ≡ seen → i < length seen → stack ≡ get_or stacks i stack
    → unwrap_or (slice_get seen i) [] ≡ stack.ids
ids_of_each-at stacks seen i stack shows within is =
    let inside : i < length stacks =
    omega (arith, ap length shows, length-map stacks (λ (s : Stack). s.ids)) in
    ap (λ s. unwrap_or (slice_get s i) []) (sym shows)
    ∙ ap (λ o. unwrap_or o []) (slice_get-map (λ s. s.ids) stacks i)
    ∙ ap (λ o. unwrap_or (option_map (λ (s : Stack). s.ids) o) [])
    (slice_get-get_or stacks i stack inside ∙ ap Some (sym is))

-- a stack that changes is one list of ids that changes
pub ids_of_each-set : (stacks : List Stack) (i : ℕ) (stack : Stack)
    → ids_of_each (set stacks i stack) ≡ set (ids_of_each stacks) i stack.ids
ids_of_each-set stacks i stack = map-set (λ s. s.ids) stacks i stack

-- a stack that gains room alone changes nothing that is seen
pub ids_of_each-same : (stacks : List Stack) (i : ℕ) (old new : Stack) → old ≡ get_or stacks i old
    → new.ids ≡ old.ids → ids_of_each (set stacks i new) ≡ ids_of_each stacks
ids_of_each-same stacks i old new is same =
    map-set_same (λ s. s.ids) stacks i new old (same ∙ ap (λ s. s.ids) is)
