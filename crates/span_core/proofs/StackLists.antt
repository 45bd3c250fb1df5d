-- One of several stacks changes.
use Rattle.std.proofs.Common.{◌≡◌, ℕ, ◌+◌, ◌<◌, List, replicate, [], ◌∷◌, ◌++◌, length, get_or, set, Result, Ok, Err, sym, ap, ◌∙◌}
use Rattle.std.specs.Prelude.{OnOk, OnErr}
use Rattle.std.proofs.lemmas.List.{get_or-map, map-set, map-append, replicate-append-replicate}
use Rattle.std.proofs.Math.Seq.{map-set_same}
use Rattle.span_id.specs.declared.fault.Fault.{Fault}
use Rattle.span_stack.specs.Stack.{Stack, without_last, ids_of_each}

abbrev empty : Stack
empty = record { ids = []; room = 0 }

-- the ids of the stack that stands at a place
pub ids_at : (stacks : List Stack) (w : ℕ) (stack : Stack) → w < length stacks → stack ≡ get_or stacks w stack → get_or (ids_of_each stacks) w [] ≡ stack.ids
ids_at stacks w stack within at = get_or-map (λ (s : Stack). s.ids) stacks w stack [] within ∙ ap (λ (s : Stack). s.ids) (sym at)

pub pushed_at : (r : Result (Unit {0}) Fault) (stacks : List Stack) (w id : ℕ) (old new : Stack) → w < length stacks → old ≡ get_or stacks w old → OnOk r (new.ids ≡ old.ids ++ id ∷ [])
    → OnOk r (ids_of_each (set stacks w new) ≡ set (ids_of_each stacks) w (get_or (ids_of_each stacks) w [] ++ id ∷ []))
pushed_at (Ok u) stacks w id old new within at pushed =
    map-set (λ (s : Stack). s.ids) stacks w new ∙ ap (λ ids. set (ids_of_each stacks) w ids) (pushed ∙ ap (λ ids. ids ++ id ∷ []) (sym (ids_at stacks w old within at)))
pushed_at (Err e) stacks w id old new within at pushed = tt

pub unpushed_at : (r : Result (Unit {0}) Fault) (stacks : List Stack) (w : ℕ) (old new : Stack) → w < length stacks → old ≡ get_or stacks w old → OnErr r (new.ids ≡ old.ids)
    → OnErr r (ids_of_each (set stacks w new) ≡ ids_of_each stacks)
unpushed_at (Ok u) stacks w old new within at same = tt
unpushed_at (Err e) stacks w old new within at same =
    map-set_same (λ (s : Stack). s.ids) stacks w new old (same ∙ ap (λ (s : Stack). s.ids) at)

pub popped_at : (stacks : List Stack) (w id : ℕ) (old new : Stack) → w < length stacks → old ≡ get_or stacks w old → new.ids ≡ without_last old.ids id
    → ids_of_each (set stacks w new) ≡ set (ids_of_each stacks) w (without_last (get_or (ids_of_each stacks) w []) id)
popped_at stacks w id old new within at popped =
    map-set (λ (s : Stack). s.ids) stacks w new ∙ ap (λ ids. set (ids_of_each stacks) w ids) (popped ∙ ap (λ ids. without_last ids id) (sym (ids_at stacks w old within at)))

-- one more empty stack
pub empty_more : (stacks after : List Stack) (stack : Stack) (n : ℕ) → ids_of_each stacks ≡ replicate n [] → after ≡ stacks ++ stack ∷ [] → stack.ids ≡ [] → ids_of_each after ≡ replicate (n + 1) []
empty_more stacks after stack n so_far more none =
    ap ids_of_each more ∙ map-append (λ (s : Stack). s.ids) stacks (stack ∷ [])
    ∙ (λ j. so_far j ++ none j ∷ [])
    ∙ replicate-append-replicate n 1 []
