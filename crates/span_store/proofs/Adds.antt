-- A new span, and its parent's count.
use Rattle.std.proofs.Common.{◌≡◌, ◌≢◌, ℕ, ◌+◌, ◌<◌, ◌≤◌, length, Option, Some, None, refl, sym, ap, subst, ◌∙◌, inl, inr, arith}
use Rattle.std.specs.Option.{IsSomeAnd}
use Rattle.std.proofs.lemmas.Bool.Decides.{eqb_tells}
use Rattle.span_slots.specs.Table.{Table, find, with_entry, with_value, next_id, next_slot, AreApart}
use Rattle.span_slots.specs.Change.{Insert, Write, after}
use Rattle.span_slots.proofs.Issued.{IsKept, IsKept-after}
use Rattle.span_slots.proofs.Entries.{find-with_same, find-with_other, find-with_value_same, find-with_value_other}
use Rattle.span_store.specs.declared.entry.Entry.{Entry}
use Rattle.span_store.specs.StoredSpan.{plain_entry}
use Rattle.span_store.specs.StoredSpans.{IsThere, children_there, all_handles}
use Rattle.span_store.specs.inside.Invariant.{spans_of, span_table, AreCounted, AreBounded, IsForest, IsConsistent}
use Rattle.span_store.specs.inside.Adding.{child_at, child_in}
use Rattle.span_store.specs.inside.Reading.{HasRoom, HasRoomAbove}
use Rattle.span_slots.proofs.Apart.{AreApart-with_entry, AreApart-with_value}
use Rattle.span_store.proofs.Maps.{some_same, there_is, two_ids}
use Rattle.span_store.proofs.Counts.{children_there-with_entry, total-with_entry, weight, weight_root, weight_same, weight_other}
use Rattle.span_store.proofs.Forests.{forest-with_entry, no_children}
use Rattle.span_store.proofs.Plain.{span_at, no_span_at, spans-with_entry, spans_same, apart-spans, spans-inserted}

-- the entry of which something is known
pub some_and : (P : Entry → Type 0) (o : Option Entry) → IsSomeAnd o P → (entry : Entry) × (o ≡ Some entry) × P entry
some_and P None h = absurd h
some_and P (Some entry) h = (entry, refl, h)

-- where the new entry comes in
pub inserted_entries : (t : Table Entry) (id : ℕ) (entry : Entry) → next_id t ≡ Some id → (after t (Insert entry)).entries ≡ with_entry t.entries id entry
inserted_entries t id entry h = go (next_slot t) refl
  where
    go : (o : Option ℕ) → next_slot t ≡ o → (after t (Insert entry)).entries ≡ with_entry t.entries id entry
    go None e = (let none : None ≡ Some id = rw e at h in cc)
    go (Some s) e = (let same = rw e at h in rw e (ap (λ x. with_entry t.entries x entry) (let q : Rattle.span_slots.specs.Table.id_at t s ≡ id = cc in q)))

-- what a new span leaves
pub record Added (t new : Table Entry) (max_count id : ℕ) (entry : Entry) : Type 0 where
  pub kept : IsKept new
  pub apart : AreApart new.entries
  pub counted : AreCounted new.entries
  pub bounded : AreBounded new.entries max_count
  pub spans : spans_of new.entries ≡ with_entry (spans_of t.entries) id (plain_entry entry)
  pub table : span_table new ≡ after (span_table t) (Insert (plain_entry entry))

module _ (t : Table Entry) (max_count handles id : ℕ) (entry : Entry)
    (w : IsConsistent t max_count handles) (next : next_id t ≡ Some id) (vacant : find t.entries id ≡ None)
    (one : entry.handles ≡ 1) (zero_children : entry.children ≡ 0) where
  -- the new entry has no child, and each other one as many as before and this one, if it is the parent's
  new_children : (j : ℕ) → children_there (with_entry (spans_of t.entries) id (plain_entry entry)) j ≡ children_there (spans_of t.entries) j + weight entry.parent j
  new_children j = children_there-with_entry (spans_of t.entries) id j (plain_entry entry)

  none_of_new : children_there (spans_of t.entries) id ≡ 0
  none_of_new = no_children (spans_of t.entries) id (apart-spans t.entries w.apart) w.forest (no_span_at t.entries id vacant)

  pub added_root : (new : Table Entry) → entry.parent ≡ None → new ≡ after t (Insert entry) → Added t new max_count id entry
  added_root new root e =
      let es : new.entries ≡ with_entry t.entries id entry = ap (λ (x : Table Entry). x.entries) e ∙ inserted_entries t id entry next in
      let spans : spans_of new.entries ≡ with_entry (spans_of t.entries) id (plain_entry entry) = ap spans_of es ∙ spans-with_entry t.entries id entry in
      let none : (j : ℕ) → weight entry.parent j ≡ 0 = λ j. weight_root entry.parent j root in
      record {
        kept = subst IsKept (sym e) (IsKept-after t (Insert entry) w.kept);
        apart = subst AreApart (sym es) (AreApart-with_entry t.entries id entry vacant w.apart);
        counted = λ j x f. (
            let g : find (with_entry t.entries id entry) j ≡ Some x = rw es at f in
            let k = ap (λ s. children_there s j) spans in
            let k2 = new_children j in
            let k3 = none j in
            elim (eqb_tells j id) [
              | inl q ↦ (let same = some_same (find (with_entry t.entries id entry) j) x entry g (rw q.1 (find-with_same t.entries id entry vacant)) in
                  let c = ap (λ (z : Entry). z.children) same in
                  let here = ap (children_there (spans_of t.entries)) q.1 in
                  omega (arith, k, k2, k3, c, zero_children, none_of_new, here))
              | inr q ↦ (let c = w.counted j x (sym (find-with_other t.entries id j entry q.1) ∙ g) in
                  omega (arith, k, k2, k3, c))
            ]);
        bounded = λ j x f. (
            let g : find (with_entry t.entries id entry) j ≡ Some x = rw es at f in
            elim (eqb_tells j id) [
              | inl q ↦ (let same = some_same (find (with_entry t.entries id entry) j) x entry g (rw q.1 (find-with_same t.entries id entry vacant)) in
                  let c = ap (λ (z : Entry). z.children) same in
                  let d = ap (λ (z : Entry). z.handles) same in
                  let low = w.max_low in
                  omega (arith, c, d, low, one, zero_children))
              | inr q ↦ w.bounded j x (sym (find-with_other t.entries id j entry q.1) ∙ g)
            ]);
        spans = spans;
        table = ap span_table e ∙ spans-inserted t entry;
      }

  pub added_child : (new : Table Entry) (p : ℕ) (above : Entry) → entry.parent ≡ Some p → find t.entries p ≡ Some above → above.handles + above.children < max_count → new ≡ child_in (after t (Insert entry)) (Some p) → Added t new max_count id entry
  added_child new p above parent there room e =
      let mid = after t (Insert entry) in
      let up : Entry = record above { children = above.children + 1 } in
      let es : mid.entries ≡ with_entry t.entries id entry = inserted_entries t id entry next in
      let ne : p ≢ id = two_ids t.entries p id (there_is (find t.entries p) above there) vacant in
      let at : find mid.entries p ≡ Some above = rw es (find-with_other t.entries id p entry ne ∙ there) in
      let e2 : new ≡ after mid (Write p up) = e ∙ ap (child_at mid p) at in
      let news : new.entries ≡ with_value mid.entries p up = ap (λ (x : Table Entry). x.entries) e2 in
      let apart : AreApart mid.entries = subst AreApart (sym es) (AreApart-with_entry t.entries id entry vacant w.apart) in
      let same_spans : spans_of (with_value mid.entries p up) ≡ spans_of mid.entries = spans_same mid.entries p above up apart at refl in
      let spans : spans_of new.entries ≡ with_entry (spans_of t.entries) id (plain_entry entry) = ap spans_of news ∙ (same_spans ∙ (ap spans_of es ∙ spans-with_entry t.entries id entry)) in
      let kept_mid = IsKept-after t (Insert entry) w.kept in
      let tables : span_table new ≡ span_table mid = ap span_table e2 ∙ ap (λ s. record (span_table mid) { entries = s }) same_spans in
      record {
        kept = subst IsKept (sym e2) (IsKept-after mid (Write p up) kept_mid);
        apart = subst AreApart (sym news) (AreApart-with_value mid.entries p up apart);
        counted = λ j x f. (
            let g : find (with_value mid.entries p up) j ≡ Some x = rw news at f in
            let k = ap (λ s. children_there s j) spans in
            let k2 = new_children j in
            elim (eqb_tells j p) [
              | inl q ↦ (let same = some_same (find (with_value mid.entries p up) j) x up g (rw q.1 (find-with_value_same mid.entries p up (there_is (find mid.entries p) above at))) in
                  let c = ap (λ (z : Entry). z.children) same in
                  let here = ap (children_there (spans_of t.entries)) q.1 in
                  let before = w.counted p above there in
                  let one_more = weight_same entry.parent p j parent q.1 in
                  omega (arith, k, k2, c, here, before, one_more))
              | inr q ↦ (let g2 : find (with_entry t.entries id entry) j ≡ Some x = rw es at (sym (find-with_value_other mid.entries p j up q.1) ∙ g) in
                  let none = weight_other entry.parent p j parent q.1 in
                  elim (eqb_tells j id) [
                    | inl r ↦ (let same = some_same (find (with_entry t.entries id entry) j) x entry g2 (rw r.1 (find-with_same t.entries id entry vacant)) in
                        let c = ap (λ (z : Entry). z.children) same in
                        let here = ap (children_there (spans_of t.entries)) r.1 in
                        omega (arith, k, k2, none, c, zero_children, none_of_new, here))
                    | inr r ↦ (let c = w.counted j x (sym (find-with_other t.entries id j entry r.1) ∙ g2) in
                        omega (arith, k, k2, none, c))
                  ])
            ]);
        bounded = λ j x f. (
            let g : find (with_value mid.entries p up) j ≡ Some x = rw news at f in
            elim (eqb_tells j p) [
              | inl q ↦ (let same = some_same (find (with_value mid.entries p up) j) x up g (rw q.1 (find-with_value_same mid.entries p up (there_is (find mid.entries p) above at))) in
                  let c = ap (λ (z : Entry). z.children) same in
                  let d = ap (λ (z : Entry). z.handles) same in
                  omega (arith, c, d, room))
              | inr q ↦ (let g2 : find (with_entry t.entries id entry) j ≡ Some x = rw es at (sym (find-with_value_other mid.entries p j up q.1) ∙ g) in
                  elim (eqb_tells j id) [
                    | inl r ↦ (let same = some_same (find (with_entry t.entries id entry) j) x entry g2 (rw r.1 (find-with_same t.entries id entry vacant)) in
                        let c = ap (λ (z : Entry). z.children) same in
                        let d = ap (λ (z : Entry). z.handles) same in
                        let low = w.max_low in
                        omega (arith, c, d, low, one, zero_children))
                    | inr r ↦ w.bounded j x (sym (find-with_other t.entries id j entry r.1) ∙ g2)
                  ])
            ]);
        spans = spans;
        table = tables ∙ spans-inserted t entry;
      }

  -- the span above, if there is one, is there
  above_there : (o : Option ℕ) → entry.parent ≡ o → HasRoomAbove max_count t.entries o → (p : ℕ) → entry.parent ≡ Some p → IsThere (spans_of t.entries) p
  above_there None e room p h = (let bad : None ≡ Some p = sym e ∙ h in cc)
  above_there (Some q) e room p h =
      let up = some_and (λ above. (0 < above.handles + above.children) × (above.handles + above.children < max_count)) (find t.entries q) room in
      let same : q ≡ p = (let k : Some q ≡ Some p = sym e ∙ h in cc) in
      subst (IsThere (spans_of t.entries)) same (there_is (find (spans_of t.entries) q) (plain_entry up.0) (span_at t.entries q up.0 up.1))

  pub added : (new : Table Entry) → HasRoomAbove max_count t.entries entry.parent → new ≡ child_in (after t (Insert entry)) entry.parent → Added t new max_count id entry
  added new room e = go entry.parent refl
    where
      go : (o : Option ℕ) → entry.parent ≡ o → Added t new max_count id entry
      go None q = added_root new q (e ∙ ap (child_in (after t (Insert entry))) q)
      go (Some p) q =
          let room2 : HasRoom max_count (find t.entries p) = rw q at room in
          let up = some_and (λ above. (0 < above.handles + above.children) × (above.handles + above.children < max_count)) (find t.entries p) room2 in
          added_child new p up.0 q up.1 up.2.1 (e ∙ ap (child_in (after t (Insert entry))) q)

  pub IsConsistent-added : (new : Table Entry) → HasRoomAbove max_count t.entries entry.parent → new ≡ child_in (after t (Insert entry)) entry.parent → length new.entries ≤ 4294967295 → IsConsistent new max_count (handles + 1)
  IsConsistent-added new room e few =
      let a = added new room e in
      record {
        kept = a.kept;
        apart = a.apart;
        counted = a.counted;
        bounded = a.bounded;
        forest = subst IsForest (sym a.spans) (forest-with_entry (spans_of t.entries) id (plain_entry entry) (no_span_at t.entries id vacant) (above_there entry.parent refl room) w.forest);
        handles_is = (let v = total-with_entry (spans_of t.entries) id (plain_entry entry) in
            let k = ap all_handles a.spans in
            let u = w.handles_is in
            omega (arith, v, k, u, one));
        few = few;
        max_low = w.max_low;
        max_high = w.max_high;
      }
