-- A span that ends, and its parent's count.
use Rattle.std.proofs.Common.{◌≡◌, ◌≢◌, ℕ, ◌+◌, ◌-◌, ◌<◌, ◌≤◌, eqb, length, Some, None, refl, sym, ap, subst, ◌∙◌, inl, inr, arith}
use Rattle.std.proofs.lemmas.Bool.Decides.{eqb_tells}
use Rattle.span_slots.specs.Table.{Table, find, without_entry, with_value, table_removed, freed_with, AreApart}
use Rattle.span_slots.specs.Change.{Remove, Write, after}
use Rattle.span_slots.proofs.Issued.{IsKept, IsKept-after}
use Rattle.span_slots.proofs.Entries.{find-without_same, find-without_other, find-with_value_same, find-with_value_other}
use Rattle.span_store.specs.declared.entry.Entry.{Entry}
use Rattle.span_store.specs.StoredSpan.{plain_entry}
use Rattle.span_store.specs.StoredSpans.{children_there, all_handles, parent_there, parent_if_there, is_closing}
use Rattle.span_store.specs.inside.Invariant.{spans_of, span_table, IsForest, IsConsistent}
use Rattle.span_slots.proofs.Apart.{AreApart-without_entry, AreApart-with_value}
use Rattle.span_store.proofs.Maps.{some_same, not_none, there_is}
use Rattle.span_store.proofs.Counts.{children_there-without_entry, total-without_entry, weight, weight_root, weight_same, weight_other, some_child, no_child}
use Rattle.span_store.proofs.Forests.{forest-without_entry}
use Rattle.span_store.proofs.Plain.{span_at, entry_at, spans-without_entry, spans_same, apart-spans, spans-removed}
use Rattle.span_store.proofs.Upheld.{length-without_entry, length-with_value}
use Rattle.span_store.proofs.Views.{is_closing-at}

removed_is : (t : Table Entry) (id : ℕ) (entry : Entry) → find t.entries id ≡ Some entry → table_removed t id ≡ record t { entries = without_entry t.entries id; freed = freed_with t.last_generation t.given t.freed id }
removed_is t id entry h = rw h refl

-- what an end leaves
pub record HasEnded (t new : Table Entry) (max_count handles id : ℕ) : Type 0 where
  pub consistent : IsConsistent new max_count handles
  pub table : span_table new ≡ after (span_table t) (Remove id)

module _ (t less : Table Entry) (max_count handles id : ℕ) (entry : Entry)
    (w : IsConsistent t max_count handles) (found : find t.entries id ≡ Some entry)
    (none_holds : entry.handles + entry.children ≡ 0) (e : less ≡ table_removed t id) where
  left : less.entries ≡ without_entry t.entries id
  left = ap (λ (x : Table Entry). x.entries) (e ∙ removed_is t id entry found)

  left_spans : spans_of less.entries ≡ without_entry (spans_of t.entries) id
  left_spans = ap spans_of left ∙ spans-without_entry t.entries id

  childless : children_there (spans_of t.entries) id ≡ 0
  childless = let c = w.counted id entry found in omega (arith, c, none_holds)

  left_children : (j : ℕ) → children_there (without_entry (spans_of t.entries) id) j + weight entry.parent j ≡ children_there (spans_of t.entries) j
  left_children j = children_there-without_entry (spans_of t.entries) id j (plain_entry entry) (apart-spans t.entries w.apart) (span_at t.entries id entry found)

  left_total : all_handles (without_entry (spans_of t.entries) id) + entry.handles ≡ all_handles (spans_of t.entries)
  left_total = total-without_entry (spans_of t.entries) id (plain_entry entry) (apart-spans t.entries w.apart) (span_at t.entries id entry found)

  left_forest : IsForest (without_entry (spans_of t.entries) id)
  left_forest = forest-without_entry (spans_of t.entries) id childless w.forest

  left_apart : AreApart less.entries
  left_apart = subst AreApart (sym left) (AreApart-without_entry t.entries id w.apart)

  left_kept : IsKept less
  left_kept = subst IsKept (sym e) (IsKept-after t (Remove id) w.kept)

  left_few : length less.entries ≤ 4294967295
  left_few = let a = ap length left in let b = length-without_entry t.entries id in let f = w.few in omega (arith, a, b, f)

  -- an entry that is left is another one, and was there before
  before : (j : ℕ) (x : Entry) → find less.entries j ≡ Some x → (j ≢ id) × (find t.entries j ≡ Some x)
  before j x f =
      let g : find (without_entry t.entries id) j ≡ Some x = rw left at f in
      let ne : j ≢ id = λ q. not_none (find (without_entry t.entries id) j) x g (rw q (find-without_same t.entries id)) in
      (ne, sym (find-without_other t.entries id j ne) ∙ g)

  pub ended_root : entry.parent ≡ None → HasEnded t less max_count handles id
  ended_root root = record {
    consistent = record {
      kept = left_kept;
      apart = left_apart;
      counted = λ j x f. (
          let b = before j x f in
          let c = w.counted j x b.1 in
          let k = ap (λ s. children_there s j) left_spans in
          let k2 = left_children j in
          let none = weight_root entry.parent j root in
          omega (arith, c, k, k2, none));
      bounded = λ j x f. w.bounded j x (before j x f).1;
      forest = subst IsForest (sym left_spans) left_forest;
      handles_is = (let a = ap all_handles left_spans in let u = w.handles_is in omega (arith, a, left_total, u, none_holds));
      few = left_few;
      max_low = w.max_low;
      max_high = w.max_high;
    };
    table = ap span_table e ∙ spans-removed t id;
  }

  module _ (p : ℕ) (parent : entry.parent ≡ Some p) where
    parent_is : parent_there (spans_of t.entries) id ≡ Some p
    parent_is = ap parent_if_there (span_at t.entries id entry found) ∙ parent

    -- the parent is there, and counts the child
    pub parent_counts : (above : Entry) × (find less.entries p ≡ Some above) × (0 < above.children)
    parent_counts =
        let ne : p ≢ id = λ q. no_child (spans_of t.entries) id id childless (parent_is ∙ ap (λ x. Some x) q) in
        let up = entry_at t.entries p (w.forest.parents_there id p parent_is) in
        let c = w.counted p up.0 up.1 in
        let some = some_child (spans_of t.entries) p id parent_is in
        let at : find less.entries p ≡ Some up.0 = ap (λ s. find s p) left ∙ (find-without_other t.entries id p ne ∙ up.1) in
        (up.0, at, omega (arith, c, some))

    pub ended_child : (new : Table Entry) (above : Entry) → find less.entries p ≡ Some above → 0 < above.children → new ≡ record less { entries = with_value less.entries p (record above { children = above.children - 1 }) } → HasEnded t new max_count handles id
    ended_child new above at some n =
        let up : Entry = record above { children = above.children - 1 } in
        let news : new.entries ≡ with_value less.entries p up = ap (λ (x : Table Entry). x.entries) n in
        let same_spans : spans_of (with_value less.entries p up) ≡ spans_of less.entries = spans_same less.entries p above up left_apart at refl in
        let spans : spans_of new.entries ≡ without_entry (spans_of t.entries) id = ap spans_of news ∙ (same_spans ∙ left_spans) in
        let there = there_is (find less.entries p) above at in
        record {
          consistent = record {
            kept = subst IsKept (sym n) (IsKept-after less (Write p up) left_kept);
            apart = subst AreApart (sym news) (AreApart-with_value less.entries p up left_apart);
            counted = λ j x f. (
                let g : find (with_value less.entries p up) j ≡ Some x = rw news at f in
                let k = ap (λ s. children_there s j) spans in
                let k2 = left_children j in
                elim (eqb_tells j p) [
                  | inl q ↦ (let same = some_same (find (with_value less.entries p up) j) x up g (rw q.1 (find-with_value_same less.entries p up there)) in
                      let c = ap (λ (z : Entry). z.children) same in
                      let here = ap (children_there (spans_of t.entries)) q.1 in
                      let was = w.counted p above (before p above at).1 in
                      let one = weight_same entry.parent p j parent q.1 in
                      omega (arith, k, k2, c, here, was, one, some))
                  | inr q ↦ (let b = before j x (sym (find-with_value_other less.entries p j up q.1) ∙ g) in
                      let c = w.counted j x b.1 in
                      let none = weight_other entry.parent p j parent q.1 in
                      omega (arith, k, k2, c, none))
                ]);
            bounded = λ j x f. (
                let g : find (with_value less.entries p up) j ≡ Some x = rw news at f in
                elim (eqb_tells j p) [
                  | inl q ↦ (let same = some_same (find (with_value less.entries p up) j) x up g (rw q.1 (find-with_value_same less.entries p up there)) in
                      let c = ap (λ (z : Entry). z.children) same in
                      let d = ap (λ (z : Entry). z.handles) same in
                      let was = w.bounded p above (before p above at).1 in
                      omega (arith, c, d, was))
                  | inr q ↦ (let b = before j x (sym (find-with_value_other less.entries p j up q.1) ∙ g) in
                      w.bounded j x b.1)
                ]);
            forest = subst IsForest (sym spans) left_forest;
            handles_is = (let a = ap all_handles spans in let u = w.handles_is in omega (arith, a, left_total, u, none_holds));
            few = (let a = ap length news in let b = length-with_value less.entries p up in let f = left_few in omega (arith, a, b, f));
            max_low = w.max_low;
            max_high = w.max_high;
          };
          table = ap span_table n ∙ (ap (λ s. record (span_table less) { entries = s }) same_spans ∙ (ap span_table e ∙ spans-removed t id));
        }

    -- whether the parent is closing now
    pub closing_above : (new : Table Entry) (above : Entry) → find less.entries p ≡ Some above → 0 < above.children → new ≡ record less { entries = with_value less.entries p (record above { children = above.children - 1 }) } → is_closing (spans_of new.entries) p ≡ eqb (above.handles + (above.children - 1)) 0
    closing_above new above at some n =
        let up : Entry = record above { children = above.children - 1 } in
        let news : new.entries ≡ with_value less.entries p up = ap (λ (x : Table Entry). x.entries) n in
        let there = there_is (find less.entries p) above at in
        is_closing-at new.entries p up (ended_child new above at some n).consistent.counted (rw news (find-with_value_same less.entries p up there))
