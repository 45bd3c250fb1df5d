-- What `place` needs.
use Rattle.std.proofs.Common.{◌≡◌, ◌≢◌, ℕ, ◌+◌, ◌<◌, ◌↔◌, ◌⊎◌, Option, Some, None, refl, sym, ap, subst, ◌∙◌, inl, inr}
use Rattle.std.specs.Option.{IsSomeAnd}
use Rattle.span_slots.specs.Table.{Table, find, with_value, next_id, IsIssued}
use Rattle.span_slots.specs.Change.{Insert, after}
use Rattle.span_slots.proofs.Entries.{find-with_other}
use Rattle.span_store.specs.declared.entry.Entry.{Entry}
use Rattle.span_store.specs.inside.Adding.{child_at, child_in}
use Rattle.span_store.proofs.Maps.{there_is, two_ids}
use Rattle.span_store.proofs.Adds.{some_and, inserted_entries}

-- the parent of a new entry has its place as before
pub above_stays : (t new : Table Entry) (id p : ℕ) (entry above : Entry) → next_id t ≡ Some id → find t.entries id ≡ None → new ≡ after t (Insert entry) → find t.entries p ≡ Some above → find new.entries p ≡ Some above
above_stays t new id p entry above next vacant e there =
    let ne : p ≢ id = two_ids t.entries p id (there_is (find t.entries p) above there) vacant in
    ap (λ (x : Table Entry). find x.entries p) e ∙ (ap (λ s. find s p) (inserted_entries t id entry next) ∙ (find-with_other t.entries id p entry ne ∙ there))

pub parent_stays : (t new : Table Entry) (id p : ℕ) (entry : Entry) → next_id t ≡ Some id → find t.entries id ≡ None → new ≡ after t (Insert entry) → IsSomeAnd (find t.entries p) (λ above. above.children < 4294967295) → IsSomeAnd (find new.entries p) (λ above. above.children < 4294967295)
parent_stays t new id p entry next vacant e room =
    let up = some_and (λ above. above.children < 4294967295) (find t.entries p) room in
    let at = above_stays t new id p entry up.0 next vacant e up.1 in
    subst (λ o. IsSomeAnd o (λ (above : Entry). above.children < 4294967295)) (sym at) up.2

pub placed_above : (t mid new : Table Entry) (id p : ℕ) (entry : Entry) → next_id t ≡ Some id → find t.entries id ≡ None → mid ≡ after t (Insert entry) → entry.parent ≡ Some p → IsSomeAnd (find t.entries p) (λ above. above.children < 4294967295) → ((above : Entry) → find mid.entries p ≡ Some above → new ≡ record mid { entries = with_value mid.entries p (record above { children = above.children + 1 }) }) → new ≡ child_in (after t (Insert entry)) entry.parent
placed_above t mid new id p entry next vacant e parent room written =
    let up = some_and (λ above. above.children < 4294967295) (find t.entries p) room in
    let at = above_stays t mid id p entry up.0 next vacant e up.1 in
    let a : new ≡ child_in mid (Some p) = written up.0 at ∙ sym (ap (child_at mid p) at) in
    a ∙ (ap (λ m. child_in m (Some p)) e ∙ ap (child_in (after t (Insert entry))) (sym parent))

given_at : (t : Table Entry) (p : ℕ) (o : Option Entry) → (child_at t p o).given ≡ t.given
given_at t p None = refl
given_at t p (Some above) = refl

given_in : (t : Table Entry) (parent : Option ℕ) → (child_in t parent).given ≡ t.given
given_in t None = refl
given_in t (Some p) = given_at t p (find t.entries p)

next_is : (o : Option ℕ) (id other : ℕ) → o ≡ Some id → (o ≡ Some other → id ≡ other) × (id ≡ other → o ≡ Some other)
next_is o id other h = (λ k. (let s : Some id ≡ Some other = sym h ∙ k in cc), λ q. h ∙ ap (λ x. Some x) q)

-- the count at the parent issues no id
pub given_below : (t new : Table Entry) (id other : ℕ) (entry : Entry) → next_id t ≡ Some id → new ≡ child_in (after t (Insert entry)) entry.parent → IsIssued (after t (Insert entry)) other ↔ (IsIssued t other ⊎ (next_id t ≡ Some other)) → IsIssued new other ↔ (IsIssued t other ⊎ (id ≡ other))
given_below t new id other entry next e h =
    let g : new.given ≡ (after t (Insert entry)).given = ap (λ (x : Table Entry). x.given) e ∙ given_in (after t (Insert entry)) entry.parent in
    let n = next_is (next_id t) id other next in (
      λ i. elim (h.0 (rw g at i)) [ inl before ↦ inl before | inr k ↦ inr (n.0 k) ],
      λ s. rw g (h.1 (elim s [ inl before ↦ inl before | inr k ↦ inr (n.1 k) ])),
    )
