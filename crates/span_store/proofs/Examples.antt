-- Worked cases, computed from the definitions alone.
use Rattle.std.proofs.Common.{◌≡◌, ℕ, Bool, true, false, [], ◌∷◌, Some, None, refl}
use Rattle.span_id.specs.declared.fault.Fault.TheVariants.{Unknown, CountFull, Full}
use Rattle.span_slots.specs.Table.{next_id}
use Rattle.span_store.specs.declared.details.SpanDetails.{SpanDetails}
use Rattle.span_store.specs.StoredSpan.{StoredSpan}
use Rattle.span_store.specs.Store.{StoreView}
use Rattle.span_store.specs.Details.{all_details}
use Rattle.span_store.specs.Calls.{Add, Keep, Release, Ended, refusal, store_after, told, store_after_all, times_told}

-- two slots, each with two ids, and two holders at most
abbrev empty : StoreView
empty = record {
  table = record { slots = 2; last_generation = 1; entries = []; given = []; freed = [] };
  max_count = 2;
}

-- a root, 1, and a child of it, 2
abbrev two : StoreView
two = store_after_all empty (Add None 5 11 ∷ Add (Some 1) 6 22 ∷ [])

abbrev root : ℕ → StoredSpan
root handles = record { parent = None; handles = handles; bits = 5; word = 11 }

abbrev child : ℕ → StoredSpan
child handles = record { parent = Some 1; handles = handles; bits = 6; word = 22 }

two_entries : two.table.entries ≡ (1, root 1) ∷ (2, child 1) ∷ []
two_entries = refl

root_is_held_twice : refusal two (Keep 1) ≡ Some CountFull
root_is_held_twice = refl

no_third_slot : refusal two (Add (Some 2) 0 0) ≡ Some Full
no_third_slot = refl

child_holds_its_parent : told two (Release 1) ≡ None
child_holds_its_parent = refl

child_is_closing_at_once : told two (Release 2) ≡ Some 2
child_is_closing_at_once = refl

-- both handles are given back: the child is closing, the root isn't yet
abbrev released : StoreView
released = store_after_all two (Release 1 ∷ Release 2 ∷ [])

both_are_there : released.table.entries ≡ (1, root 0) ∷ (2, child 0) ∷ []
both_are_there = refl

closing_is_not_kept : refusal released (Keep 2) ≡ Some Unknown
closing_is_not_kept = refl

closing_has_no_handle : refusal released (Release 2) ≡ Some Unknown
closing_has_no_handle = refl

root_may_be_kept : refusal released (Keep 1) ≡ None
root_may_be_kept = refl

root_does_not_end : refusal released (Ended 1) ≡ Some Unknown
root_does_not_end = refl

closing_slot_is_taken : refusal released (Add None 0 0) ≡ Some Full
closing_slot_is_taken = refl

end_tells_the_root : told released (Ended 2) ≡ Some 1
end_tells_the_root = refl

end_tells_no_root_that_is_kept : told (store_after released (Keep 1)) (Ended 2) ≡ None
end_tells_no_root_that_is_kept = refl

-- the child ended: its slot gives its next id
abbrev root_alone : StoreView
root_alone = store_after released (Ended 2)

child_is_gone : root_alone.table.entries ≡ (1, root 0) ∷ []
child_is_gone = refl

next_is_another_id : next_id root_alone.table ≡ Some 16777218
next_is_another_id = refl

none_under_a_closing_root : refusal root_alone (Add (Some 1) 0 0) ≡ Some Unknown
none_under_a_closing_root = refl

nothing_is_left : (store_after root_alone (Ended 1)).table.entries ≡ []
nothing_is_left = refl

told_once_each : times_told 1 two (Release 1 ∷ Release 2 ∷ Ended 2 ∷ Ended 1 ∷ []) ≡ 1
told_once_each = refl

-- what is told of the spans: a root that its handle and its child hold
abbrev told_root : ℕ → ℕ → Bool → SpanDetails
told_root handles children closing =
    record { id = 1; parent = None; word = 11; handles = handles; children = children; closing = closing }

abbrev told_child : ℕ → Bool → SpanDetails
told_child handles closing =
    record { id = 2; parent = Some 1; word = 22; handles = handles; children = 0; closing = closing }

nothing_is_told : all_details empty.table.entries ≡ []
nothing_is_told = refl

both_are_told : all_details two.table.entries ≡ told_root 1 1 false ∷ told_child 1 false ∷ []
both_are_told = refl

-- the child is closing: it still holds the root
closing_is_told : all_details released.table.entries ≡ told_root 0 1 false ∷ told_child 0 true ∷ []
closing_is_told = refl

ended_is_not_told : all_details root_alone.table.entries ≡ told_root 0 0 true ∷ []
ended_is_not_told = refl
