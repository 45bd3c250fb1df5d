-- What is true of every store stays true.
use Rattle.std.proofs.Common.{◌≡◌, ◌≢◌, ℕ, ◌+◌, ◌*◌, ◌^◌, ◌<◌, ◌≤◌, List, [], ◌∷◌, length, Some, refl, sym, ap, ◌∙◌, inl, inr, arith}
use Rattle.std.proofs.lemmas.Bool.{eq-eqb, ne_eqb}
use Rattle.std.proofs.lemmas.Bool.Decides.{eqb_tells}
use Rattle.span_slots.specs.Table.{Table, find, without_entry, with_value, AreApart}
use Rattle.span_slots.specs.Change.{Write, after}
use Rattle.span_slots.proofs.Issued.{IsKept-after}
use Rattle.span_slots.proofs.Entries.{find-with_value_same, find-with_value_other}
use Rattle.span_store.specs.declared.entry.Entry.{Entry}
use Rattle.span_store.specs.StoredSpan.{StoredSpan, plain_entry}
use Rattle.span_store.specs.StoredSpans.{StoredSpans, children_there, all_handles}
use Rattle.span_store.specs.inside.Invariant.{spans_of, AreBounded, IsConsistent}
use Rattle.span_slots.proofs.Apart.{AreApart-with_value}
use Rattle.span_store.proofs.Maps.{some_same, not_none, there_is}
use Rattle.span_store.proofs.Counts.{children_there-with_value, total-with_value}
use Rattle.span_store.proofs.Forests.{forest-with_value}
use Rattle.span_store.proofs.Plain.{span_at, spans-with_value, apart-spans}

-- an empty store
pub IsConsistent-empty : (t : Table Entry) (max_count : ℕ) → t.entries ≡ [] → t.given ≡ [] → t.freed ≡ [] → t.slots ≤ 16777216 → 1 ≤ max_count → max_count ≤ 4294967295 → IsConsistent t max_count 0
IsConsistent-empty t max_count e g f s low high = record {
  kept = record {
    slots_high = s;
    used = rw g (omega arith);
    freed_used = rw f tt;
    issued = rw e tt;
  };
  apart = rw e tt;
  counted = rw e (λ id entry h. cc);
  bounded = rw e (λ id entry h. cc);
  forest = rw e (record { parents_there = λ c p h. cc; rank = λ _. 0; rises = λ c p h. cc });
  handles_is = rw e refl;
  few = rw e (omega arith);
  max_low = low;
  max_high = high;
}

pub length-with_value : {T : Type 0} (es : List (ℕ × T)) (id : ℕ) (v : T) → length (with_value es id v) ≡ length es
length-with_value [] id v = refl
length-with_value (e ∷ es) id v = let r = length-with_value es id v in omega arith

pub length-without_entry : {T : Type 0} (es : List (ℕ × T)) (id : ℕ) → length (without_entry es id) ≤ length es
length-without_entry [] id = omega arith
length-without_entry (e ∷ es) id =
    let r = length-without_entry es id in
    elim (eqb_tells e.0 id) [ inl t ↦ rw t.0 (omega arith) | inr t ↦ rw t.0 (omega arith) ]

-- an entry with other handles, and its parent and its children as they were
module _ (t : Table Entry) (id : ℕ) (entry new : Entry) where
  pub IsConsistent-handles : (max_count handles handles2 : ℕ) → IsConsistent t max_count handles → find t.entries id ≡ Some entry → new.parent ≡ entry.parent → new.children ≡ entry.children → new.handles + new.children ≤ max_count → handles2 + entry.handles ≡ handles + new.handles → IsConsistent (after t (Write id new)) max_count handles2
  IsConsistent-handles max_count handles handles2 w h p k high total =
      let spans = spans-with_value t.entries id new in
      let span = span_at t.entries id entry h in
      let apart = apart-spans t.entries w.apart in
      let there = there_is (find t.entries id) entry h in
      let kids : (j : ℕ) → children_there (spans_of (with_value t.entries id new)) j ≡ children_there (spans_of t.entries) j = λ j. rw spans (children_there-with_value (spans_of t.entries) id j (plain_entry entry) (plain_entry new) apart span p) in
      record {
        kept = IsKept-after t (Write id new) w.kept;
        apart = AreApart-with_value t.entries id new w.apart;
        counted = λ j x f. (elim (eqb_tells j id) [
          | inl q ↦ (let same = some_same (find (with_value t.entries id new) j) x new f (rw q.1 (find-with_value_same t.entries id new there)) in
              let c = w.counted id entry h in
              let mine : x.children ≡ new.children = ap (λ (z : Entry). z.children) same in
              let here : children_there (spans_of t.entries) j ≡ children_there (spans_of t.entries) id = ap (children_there (spans_of t.entries)) q.1 in
              omega (arith, kids j, c, mine, here, k))
          | inr q ↦ (let c = w.counted j x (sym (find-with_value_other t.entries id j new q.1) ∙ f) in
              omega (arith, kids j, c))
        ]);
        bounded = λ j x f. (elim (eqb_tells j id) [
          | inl q ↦ (let same = some_same (find (with_value t.entries id new) j) x new f (rw q.1 (find-with_value_same t.entries id new there)) in
              let mine : x.children ≡ new.children = ap (λ (z : Entry). z.children) same in
              let held : x.handles ≡ new.handles = ap (λ (z : Entry). z.handles) same in
              omega (arith, mine, held, high))
          | inr q ↦ w.bounded j x (sym (find-with_value_other t.entries id j new q.1) ∙ f)
        ]);
        forest = rw spans (forest-with_value (spans_of t.entries) id (plain_entry entry) (plain_entry new) span p w.forest);
        handles_is = (let v = total-with_value (spans_of t.entries) id (plain_entry entry) (plain_entry new) apart span in
            let u = w.handles_is in
            rw spans (omega (arith, v, u, total)));
        few = (let l = length-with_value t.entries id new in let m = w.few in omega (arith, l, m));
        max_low = w.max_low;
        max_high = w.max_high;
      }

-- how many handles there can be
total_le : (es : List (ℕ × Entry)) (max_count : ℕ) → AreApart es → AreBounded es max_count → max_count ≤ 4294967295 → all_handles (spans_of es) ≤ length es * 4294967295
total_le [] max_count a b m = omega arith
total_le (e ∷ es) max_count a b m =
    let first = b e.0 e.1 (rw (eq-eqb e.0 e.0 refl) refl) in
    let rest = total_le es max_count a.1 (λ id entry h. b id entry (
    let ne : e.0 ≢ id = λ q. not_none (find es id) entry h (rw (← q) a.0) in
    rw (ne_eqb e.0 id ne) h)) m in
    omega arith

pub handles_fit : (t : Table Entry) (max_count handles : ℕ) → IsConsistent t max_count handles → handles + 1 < 2 ^ 64
handles_fit t max_count handles w =
    let le = total_le t.entries max_count w.apart w.bounded w.max_high in
    let few = w.few in
    let is = w.handles_is in
    omega arith

handles_le_total : (spans : StoredSpans) (id : ℕ) (span : StoredSpan) → find spans id ≡ Some span → span.handles ≤ all_handles spans
handles_le_total [] id span h = cc
handles_le_total (e ∷ es) id span h =
    elim (eqb_tells e.0 id) [
      | inl q ↦ (let k = rw q.0 at h in
          let same : e.1 ≡ span = cc in
          let held = ap (λ (n : StoredSpan). n.handles) same in
          omega (arith, held))
      | inr q ↦ (let r = handles_le_total es id span (rw q.0 at h) in omega arith)
    ]

pub handles_enough : (t : Table Entry) (max_count handles id : ℕ) (entry : Entry) → IsConsistent t max_count handles → find t.entries id ≡ Some entry → entry.handles ≤ handles
handles_enough t max_count handles id entry w h =
    let le = handles_le_total (spans_of t.entries) id (plain_entry entry) (span_at t.entries id entry h) in
    let is = w.handles_is in
    omega (arith, le, is)
