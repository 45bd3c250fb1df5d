-- The spans of the code's table by their slots.
use Rattle.std.proofs.Common.{◌≡◌, ℕ, ◌+◌, ◌<◌, ◌⊎◌, Bool, true, false, ◌||◌, List, [], ◌∷◌, ◌++◌, length, set, Option, Some, None, IsSome, IfSome, IsTrue, ◌==◌, refl, sym, ap, ◌∙◌, subst, inl, inr, arith}
use Rattle.std.specs.Prelude.{slice_index, nat_lt}
use Rattle.std.proofs.lemmas.Bool.{cases_lt, lt-ltb, eq-eqb}
use Rattle.std.proofs.lemmas.Bool.Decides.{eqb_tells, nat_tests}
use Rattle.std.proofs.lemmas.List.{get_or-set_same, get_or-set_other, get_or_append_left, get_or_past}
use Rattle.std.specs.Option.{option_map}
use Rattle.std.specs.List.{list_any}
use Rattle.span_id.specs.Id.{id_of, slot_of, generation_of}
use Rattle.span_slots.specs.Table.{Table, issue, find, next_id, IsIssued, IsFull, is_occupied, is_retired, with_entry}
use Rattle.span_forest.specs.declared.span.Span.{Span}
use Rattle.span_forest.specs.Node.{Node, node_of}
use Rattle.span_forest.specs.Spans.{Spans, IsOpen, IsOccupied, nodes_of}
use Rattle.span_forest.specs.Forest.{ForestView, table_of, next_span_id}
use Rattle.span_forest.proofs.Nodes.{find-nodes}
use Rattle.span_slots.proofs.Entries.{find-with_same}
use Rattle.span_forest.proofs.Counts.{view_of}

some_back : (o : Option Span) → IsSome (option_map node_of o) → IsSome o
some_back None h = cc
some_back (Some s) h = refl

-- an open id has a value in the code's table
pub open_value : (es : List (ℕ × Span)) (id : ℕ) → IsOpen (nodes_of es) id → IsSome (find es id)
open_value es id o = some_back (find es id) (subst IsSome (find-nodes es id) o)

occupied_nodes : (t : Table Span) (max slot : ℕ) → is_occupied (table_of (view_of t max)) slot ≡ is_occupied t slot
occupied_nodes t max slot = occupied t.entries where
  occupied : (es : List (ℕ × Span)) → list_any (λ e. slot_of e.0 == slot) (nodes_of es) ≡ list_any (λ e. slot_of e.0 == slot) es
  occupied [] = refl
  occupied (e ∷ es) = ap (λ b. slot_of e.0 == slot || b) (occupied es)

-- a table is full as the code's spans and as nodes
pub full_nodes : (t : Table Span) (max : ℕ) → (next_id t ≡ None → IsFull t) × (IsFull t → next_id t ≡ None) → (next_span_id (view_of t max) ≡ None → IsFull (table_of (view_of t max))) × (IsFull (table_of (view_of t max)) → next_span_id (view_of t max) ≡ None)
full_nodes t max h = (
  λ e slot low. subst (λ b. IsTrue (b || is_retired t slot)) (sym (occupied_nodes t max slot)) (h.0 e slot low),
  λ full. h.1 (λ slot low. subst (λ b. IsTrue (b || is_retired t slot)) (occupied_nodes t max slot) (full slot low)),
)

-- a slot is occupied as a test and in words
occupied_by : (spans : Spans) (slot : ℕ) → list_any (λ e. slot_of e.0 == slot) spans ≡ true → IsOccupied spans slot
occupied_by [] slot h = cc
occupied_by (e ∷ es) slot h =
    elim (eqb_tells (slot_of e.0) slot) [
      | inl t ↦ (e.0, rw (eq-eqb e.0 e.0 refl) refl, t.1)
      | inr t ↦ (let r = occupied_by es slot (rw t.0 at h) in
          (r.0, elim (eqb_tells e.0 r.0) [ inl u ↦ rw u.0 refl | inr u ↦ rw u.0 r.1 ], r.2))
    ]

occupies : (spans : Spans) (slot id : ℕ) → IsOpen spans id → slot_of id ≡ slot → list_any (λ e. slot_of e.0 == slot) spans ≡ true
occupies [] slot id o s = cc
occupies (e ∷ es) slot id o s =
    elim (eqb_tells (slot_of e.0) slot) [
      | inl t ↦ rw t.0 refl
      | inr t ↦ elim (eqb_tells e.0 id) [
        | inl u ↦ absurd (t.1 (ap slot_of u.1 ∙ s))
        | inr u ↦ (let r = occupies es slot id (rw u.0 at o) s in rw t.0 r)
      ]
    ]

either : (a b : Bool) → (a || b) ≡ true → (a ≡ true) ⊎ (b ≡ true)
either true b h = inl refl
either false b h = inr h

or_right : (a b : Bool) → b ≡ true → (a || b) ≡ true
or_right true b h = refl
or_right false b h = h

-- a table of spans is full where each slot is an open span's or gave its last id
pub full_in_words : (forest : ForestView) → (next_span_id forest ≡ None → IsFull (table_of forest)) × (IsFull (table_of forest) → next_span_id forest ≡ None) → (next_span_id forest ≡ None → (slot : ℕ) → slot < forest.slots → IsOccupied forest.spans slot ⊎ IsIssued (table_of forest) (id_of slot forest.last_generation)) × (((slot : ℕ) → slot < forest.slots → IsOccupied forest.spans slot ⊎ IsIssued (table_of forest) (id_of slot forest.last_generation)) → next_span_id forest ≡ None)
full_in_words forest h = (
  λ e slot low. elim (either (is_occupied (table_of forest) slot) (is_retired (table_of forest) slot) (h.0 e slot low)) [
    | inl t ↦ inl (occupied_by forest.spans slot t)
    | inr t ↦ inr (issued_so (generation_of (id_of slot forest.last_generation)) (slice_index forest.given (slot_of (id_of slot forest.last_generation))) t)
  ],
  λ words. h.1 (λ slot low. elim (words slot low) [
    | inl there ↦ (let t = occupies forest.spans slot there.0 there.1 there.2 in rw t refl)
    | inr last ↦ or_right (is_occupied (table_of forest) slot) (is_retired (table_of forest) slot) (lt-ltb _ _ last)
  ]),
)
  where
    issued_so : (n m : ℕ) → nat_lt n m ≡ true → n < m
    issued_so n m t = grind (arith, nat_tests)

-- a new id that isn't open finds its span
pub found_next : (next : Option ℕ) (spans : Spans) (node : Node) → IfSome next (λ id. find spans id ≡ None) → IfSome next (λ id. find (with_entry spans id node) id ≡ Some node)
found_next None spans node h = tt
found_next (Some id) spans node h = find-with_same spans id node h

absent : (o : Option Node) → (IsSome o → ⊥) → o ≡ None
absent None h = refl
absent (Some node) h = absurd (h refl)

-- an id that was never issued isn't open, where each open one was issued
pub never_open : (next : Option ℕ) (es : List (ℕ × Span)) (Issued : ℕ → Type 0) → IfSome next (λ id. Issued id → ⊥) → ((id : ℕ) → IsSome (find es id) → Issued id) → IfSome next (λ id. find (nodes_of es) id ≡ None)
never_open None es Issued fresh issued = tt
never_open (Some id) es Issued fresh issued = absent (find (nodes_of es) id) (λ o. fresh (issued id (open_value es id o)))

-- one id more of a slot takes none away
pub issue_more : (given : List ℕ) (slot k n : ℕ) → n < slice_index given k → n < slice_index (issue given slot) k
issue_more given slot k n before =
    elim (cases_lt slot (length given)) [
      | inl h ↦ (let t : nat_lt slot (length given) ≡ true = lt-ltb slot (length given) h in rw t (at h))
      | inr h ↦ (let t : nat_lt slot (length given) ≡ false = grind (arith, nat_tests) in rw t past)
    ]
  where
    at : slot < length given → n < slice_index (set given slot (slice_index given slot + 1)) k
    at h =
        elim (eqb_tells k slot) [
          | inl t ↦ (let same : slice_index (set given slot (slice_index given slot + 1)) slot ≡ slice_index given slot + 1 = get_or-set_same given slot (slice_index given slot + 1) 0 h in
              subst (λ (i : ℕ). n < slice_index (set given slot (slice_index given slot + 1)) i) (sym t.1) (let b : n < slice_index given slot = subst (λ (i : ℕ). n < slice_index given i) t.1 before in omega (arith, same, b)))
          | inr t ↦ (let other : slice_index (set given slot (slice_index given slot + 1)) k ≡ slice_index given k = get_or-set_other given slot k (slice_index given slot + 1) 0 t.1 in omega (arith, other, before))
        ]

    past : n < slice_index (given ++ 1 ∷ []) k
    past =
        elim (cases_lt k (length given)) [
          | inl h ↦ (let same : slice_index (given ++ 1 ∷ []) k ≡ slice_index given k = get_or_append_left given (1 ∷ []) 0 k h in omega (arith, same, before))
          | inr h ↦ (let none : slice_index given k ≡ 0 = get_or_past given k 0 h in absurd (omega (arith, none, before)))
        ]
