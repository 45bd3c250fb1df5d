-- What the code's entries and their table stand for, through the changes of the table.
use Rattle.std.proofs.Common.{◌≡◌, ℕ, ltb, List, [], ◌∷◌, length, Option, Some, None, IsSome, refl, sym, ap, subst, ◌∙◌, inl, inr, arith}
use Rattle.std.specs.Option.{option_map}
use Rattle.std.proofs.lemmas.Bool.{cases_Bool}
use Rattle.std.proofs.lemmas.Bool.Decides.{eqb_tells}
use Rattle.span_id.specs.Id.{slot_of}
use Rattle.span_slots.specs.Table.{Table, find, with_entry, without_entry, with_value, next_slot, table_removed, AreApart}
use Rattle.span_slots.specs.Change.{Insert, Remove, Write, after}
use Rattle.span_slots.proofs.Issued.{IsKept, AreIssued}
use Rattle.span_store.specs.declared.entry.Entry.{Entry}
use Rattle.span_store.specs.StoredSpan.{plain_entry}
use Rattle.span_store.specs.inside.Invariant.{spans_of, span_table}
use Rattle.span_slots.proofs.Apart.{with_value_absent}

pub find-spans : (es : List (ℕ × Entry)) (id : ℕ) → find (spans_of es) id ≡ option_map plain_entry (find es id)
find-spans [] id = refl
find-spans (e ∷ es) id =
    let r = find-spans es id in
    elim (eqb_tells e.0 id) [ inl t ↦ rw t.0 refl | inr t ↦ rw t.0 r ]

pub span_at : (es : List (ℕ × Entry)) (id : ℕ) (entry : Entry) → find es id ≡ Some entry → find (spans_of es) id ≡ Some (plain_entry entry)
span_at es id entry h = find-spans es id ∙ ap (option_map plain_entry) h

pub no_span_at : (es : List (ℕ × Entry)) (id : ℕ) → find es id ≡ None → find (spans_of es) id ≡ None
no_span_at es id h = find-spans es id ∙ ap (option_map plain_entry) h

entry_in : (o : Option Entry) → IsSome (option_map plain_entry o) → (entry : Entry) × (o ≡ Some entry)
entry_in None h = cc
entry_in (Some entry) h = (entry, refl)

-- a span that is there has an entry
pub entry_at : (es : List (ℕ × Entry)) (id : ℕ) → IsSome (find (spans_of es) id) → (entry : Entry) × (find es id ≡ Some entry)
entry_at es id h = entry_in (find es id) (subst IsSome (find-spans es id) h)

pub spans-with_entry : (es : List (ℕ × Entry)) (id : ℕ) (entry : Entry) → spans_of (with_entry es id entry) ≡ with_entry (spans_of es) id (plain_entry entry)
spans-with_entry [] id entry = refl
spans-with_entry (e ∷ es) id entry =
    let r = spans-with_entry es id entry in
    elim (cases_Bool (ltb (slot_of id) (slot_of e.0))) [ inl t ↦ rw t refl | inr t ↦ rw t (ap (λ x. (e.0, plain_entry e.1) ∷ x) r) ]

pub spans-without_entry : (es : List (ℕ × Entry)) (id : ℕ) → spans_of (without_entry es id) ≡ without_entry (spans_of es) id
spans-without_entry [] id = refl
spans-without_entry (e ∷ es) id =
    let r = spans-without_entry es id in
    elim (eqb_tells e.0 id) [ inl t ↦ rw t.0 r | inr t ↦ rw t.0 (ap (λ x. (e.0, plain_entry e.1) ∷ x) r) ]

pub spans-with_value : (es : List (ℕ × Entry)) (id : ℕ) (entry : Entry) → spans_of (with_value es id entry) ≡ with_value (spans_of es) id (plain_entry entry)
spans-with_value [] id entry = refl
spans-with_value (e ∷ es) id entry =
    let r = spans-with_value es id entry in
    elim (eqb_tells e.0 id) [
      | inl t ↦ rw t.0 (ap (λ x. (e.0, plain_entry entry) ∷ x) r)
      | inr t ↦ rw t.0 (ap (λ x. (e.0, plain_entry e.1) ∷ x) r)
    ]

-- where the new entry stands for the same span, the spans stay as they are
pub spans_same : (es : List (ℕ × Entry)) (id : ℕ) (entry new : Entry) → AreApart es → find es id ≡ Some entry → plain_entry new ≡ plain_entry entry → spans_of (with_value es id new) ≡ spans_of es
spans_same [] id entry new a h k = refl
spans_same (e ∷ es) id entry new a h k =
    elim (eqb_tells e.0 id) [
      | inl t ↦ (let none : find es id ≡ None = rw t.1 at a.0 in
          let h2 = rw t.0 at h in
          let same : e.1 ≡ entry = cc in
          let k2 : plain_entry new ≡ plain_entry e.1 = k ∙ ap plain_entry (sym same) in
          rw (t.0, with_value_absent es id new none, k2) refl)
      | inr t ↦ (let r = spans_same es id entry new a.1 (rw t.0 at h) k in rw t.0 (ap (λ x. (e.0, plain_entry e.1) ∷ x) r))
    ]

pub apart-spans : (es : List (ℕ × Entry)) → AreApart es → AreApart (spans_of es)
apart-spans [] a = tt
apart-spans (e ∷ es) a = (no_span_at es e.0 a.0, apart-spans es a.1)

pub length-spans : (es : List (ℕ × Entry)) → length (spans_of es) ≡ length es
length-spans [] = refl
length-spans (e ∷ es) = let r = length-spans es in omega arith

issued-spans : (given : List ℕ) (es : List (ℕ × Entry)) → AreIssued given es → AreIssued given (spans_of es)
issued-spans given [] a = tt
issued-spans given (e ∷ es) a = (a.0, issued-spans given es a.1)

pub kept-spans : (t : Table Entry) → IsKept t → IsKept (span_table t)
kept-spans t k = record {
  slots_high = k.slots_high;
  used = k.used;
  freed_used = k.freed_used;
  issued = issued-spans t.given t.entries k.issued;
}

-- the table of the spans changes as that of the entries
pub spans-inserted : (t : Table Entry) (entry : Entry) → span_table (after t (Insert entry)) ≡ after (span_table t) (Insert (plain_entry entry))
spans-inserted t entry = go (next_slot t) refl
  where
    go : (o : Option ℕ) → next_slot t ≡ o → span_table (after t (Insert entry)) ≡ after (span_table t) (Insert (plain_entry entry))
    go None e = rw e refl
    go (Some s) e = rw (e, spans-with_entry) refl

pub spans-removed : (t : Table Entry) (id : ℕ) → span_table (table_removed t id) ≡ after (span_table t) (Remove id)
spans-removed t id = go (find t.entries id) refl
  where
    go : (o : Option Entry) → find t.entries id ≡ o → span_table (table_removed t id) ≡ after (span_table t) (Remove id)
    go None e = rw (e, no_span_at t.entries id e) refl
    go (Some entry) e = rw (e, span_at t.entries id entry e, spans-without_entry t.entries id) refl

pub spans-written : (t : Table Entry) (id : ℕ) (entry : Entry) → span_table (after t (Write id entry)) ≡ after (span_table t) (Write id (plain_entry entry))
spans-written t id entry = rw (spans-with_value t.entries id entry) refl
