-- What a span was made with.
use Rattle.std.proofs.Common.{◌≡◌, ◌≢◌, ℕ, ◌+◌, ◌-◌, ◌⊎◌, List, [], ◌∷◌, Option, Some, None, refl, sym, ap, subst, ◌∙◌, inl, inr}
use Rattle.std.proofs.lemmas.Bool.Decides.{eqb_tells}
use Rattle.span_id.specs.declared.fault.Fault.{Fault}
use Rattle.span_slots.specs.Table.{find, IsIssued}
use Rattle.span_slots.specs.Change.{Insert, Remove}
use Rattle.span_slots.proofs.Issued.{issued_for_good}
use Rattle.span_store.specs.StoredSpan.{StoredSpan, added_span, with_handles}
use Rattle.span_store.specs.Store.{StoreView}
use Rattle.span_store.specs.Calls.{Call, Add, Keep, Release, Ended, refusal, store_then, store_after, store_after_all, handles_set}
use Rattle.span_store.proofs.Maps.{there_is, not_none, some_same, two_ids}
use Rattle.span_store.proofs.Views.{after_accepted, after_refused}
use Rattle.span_store.proofs.Steps.{IsStore, IsStore-store_after, Writes, adds, keeps, releases, takes}
use Rattle.span_store.proofs.Others.{added_other, taken_other, taken_same, written_other, written_same}
use Rattle.span_store.proofs.Gone.{gone_for_good, issued_there}

pub record IsSame (first last : StoredSpan) : Type 0 where
  pub parent : last.parent ≡ first.parent
  pub bits : last.bits ≡ first.bits
  pub word : last.word ≡ first.word

same_itself : (first last : StoredSpan) → last ≡ first → IsSame first last
same_itself first last e = record { parent = ap (λ (n : StoredSpan). n.parent) e; bits = ap (λ (n : StoredSpan). n.bits) e; word = ap (λ (n : StoredSpan). n.word) e }

same_then : (a b c : StoredSpan) → IsSame a b → IsSame b c → IsSame a c
same_then a b c x y = record { parent = y.parent ∙ x.parent; bits = y.bits ∙ x.bits; word = y.word ∙ x.word }

-- it is there and as it was made, or it is gone
abbrev Remains : StoreView → ℕ → StoredSpan → Type 0
Remains new j first = ((last : StoredSpan) × (find new.table.entries j ≡ Some last) × IsSame first last) ⊎ (find new.table.entries j ≡ None)

remains_other : (s new : StoreView) (j : ℕ) (first : StoredSpan) → find s.table.entries j ≡ Some first → find new.table.entries j ≡ find s.table.entries j → Remains new j first
remains_other s new j first h e = inl (first, e ∙ h, same_itself first first refl)

remains_written : (s new : StoreView) (id j : ℕ) (span changed first : StoredSpan) → find s.table.entries j ≡ Some first → Writes s new id span changed → Remains new j first
remains_written s new id j span changed first h a =
    elim (eqb_tells j id) [
      | inl q ↦ inl (
        changed,
        rw q.1 (written_same s new id span changed a),
        (
            let same = some_same (find s.table.entries j) span first (rw q.1 a.found) h in
            same_then first span changed (same_itself first span same) (record { parent = a.parent; bits = a.bits; word = a.word })),
      )
      | inr q ↦ remains_other s new j first h (written_other s new id j span changed a q.1)
    ]

remains_done : (s : StoreView) (call : Call) (j : ℕ) (first : StoredSpan) → IsStore s → refusal s call ≡ None → find s.table.entries j ≡ Some first → Remains (store_then s call) j first
remains_done s (Add parent bits word) j first w h e =
    let a = adds s parent bits word w h in
    let other : j ≢ a.0 = two_ids s.table.entries j a.0 (there_is (find s.table.entries j) first e) a.1.vacant in
    remains_other s (store_then s (Add parent bits word)) j first e (added_other s (store_then s (Add parent bits word)) parent (added_span parent bits word) a.0 j a.1 other)
remains_done s (Keep id) j first w h e =
    let a = keeps s id h in
    remains_written s (store_then s (Keep id)) id j a.0 (with_handles (a.0.handles + 1) a.0) first e a.1
remains_done s (Release id) j first w h e =
    let a = releases s id h in
    remains_written s (store_then s (Release id)) id j a.0 (with_handles (a.0.handles - 1) a.0) first e a.1
remains_done s (Ended id) j first w h e =
    let a = takes s id h in
    elim (eqb_tells j id) [
      | inl q ↦ inr (rw q.1 (taken_same s (store_then s (Ended id)) id a.0 a.1))
      | inr q ↦ remains_other s (store_then s (Ended id)) j first e (taken_other s (store_then s (Ended id)) id j a.0 a.1 q.1)
    ]

remains_after : (s : StoreView) (call : Call) (j : ℕ) (first : StoredSpan) → IsStore s → find s.table.entries j ≡ Some first → Remains (store_after s call) j first
remains_after s call j first w e = go (refusal s call) refl
  where
    go : (o : Option Fault) → refusal s call ≡ o → Remains (store_after s call) j first
    go None q = subst (λ (x : StoreView). Remains x j first) (sym (after_accepted s call q)) (remains_done s call j first w q e)
    go (Some fault) q = subst (λ (x : StoreView). Remains x j first) (sym (after_refused s call fault q)) (remains_other s s j first e refl)

pub keeps_what_it_was : (s : StoreView) (calls : List Call) (j : ℕ) (first last : StoredSpan) → IsStore s → find s.table.entries j ≡ Some first → find (store_after_all s calls).table.entries j ≡ Some last → IsSame first last
keeps_what_it_was s [] j first last w e h = same_itself first last (some_same (find s.table.entries j) last first h e)
keeps_what_it_was s (call ∷ calls) j first last w e h =
    let next = IsStore-store_after s call w in
    elim (remains_after s call j first w e) [
      | inl r ↦ same_then first r.0 last r.2 (keeps_what_it_was (store_after s call) calls j r.0 last next r.1 h)
      | inr gone ↦ absurd (
          let i = issued_after s call j w (issued_there s j w (there_is (find s.table.entries j) first e)) in
          let g = gone_for_good (store_after s call) calls j next i gone in
          not_none (find (store_after_all (store_after s call) calls).table.entries j) last h g.1.1)
    ]
  where
    issued_done : (x : StoreView) (c : Call) (k : ℕ) → IsStore x → IsIssued x.table k → IsIssued (store_then x c).table k
    issued_done x (Add parent bits word) k v i = issued_for_good x.table (Insert (added_span parent bits word) ∷ []) k v.kept i
    issued_done x (Keep id) k v i = go (find x.table.entries id)
      where
        go : (o : Option StoredSpan) → IsIssued (handles_set x id (λ handles. handles + 1) o).table k
        go None = i
        go (Some span) = i
    issued_done x (Release id) k v i = go (find x.table.entries id)
      where
        go : (o : Option StoredSpan) → IsIssued (handles_set x id (λ handles. handles - 1) o).table k
        go None = i
        go (Some span) = i
    issued_done x (Ended id) k v i = issued_for_good x.table (Remove id ∷ []) k v.kept i

    issued_after : (x : StoreView) (c : Call) (k : ℕ) → IsStore x → IsIssued x.table k → IsIssued (store_after x c).table k
    issued_after x c k v i = go (refusal x c) refl
      where
        go : (o : Option Fault) → refusal x c ≡ o → IsIssued (store_after x c).table k
        go None q = rw (after_accepted x c q) (issued_done x c k v i)
        go (Some fault) q = rw (after_refused x c fault q) i
