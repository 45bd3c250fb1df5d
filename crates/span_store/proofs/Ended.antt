-- What `ended` leaves and answers.
use Rattle.std.proofs.Common.{◌≡◌, ℕ, ◌+◌, ◌-◌, ◌<◌, Bool, eqb, cond, Option, Some, None, sym, ap, subst, ◌∙◌}
use Rattle.std.specs.Option.{IsSomeAnd}
use Rattle.span_slots.specs.Table.{Table, find, with_value, table_removed}
use Rattle.span_store.specs.declared.entry.Entry.{Entry}
use Rattle.span_store.specs.StoredSpans.{parent_if_there, parent_there, is_closing}
use Rattle.span_store.specs.Store.{StoreView}
use Rattle.span_store.specs.Calls.{Ended, refusal, store_after, store_then, told, if_closing}
use Rattle.span_store.specs.inside.Invariant.{spans_of, IsConsistent}
use Rattle.span_store.proofs.Plain.{span_at}
use Rattle.span_store.proofs.Ends.{HasEnded, ended_root, ended_child, parent_counts, closing_above}
use Rattle.span_store.proofs.Views.{view_of, ended_at, after_accepted, told_accepted}

-- an entry that nothing holds was taken out
pub record IsEnding (t less : Table Entry) (id : ℕ) (entry : Entry) : Type 0 where
  pub found : find t.entries id ≡ Some entry
  pub none_holds : entry.handles + entry.children ≡ 0
  pub taken : less ≡ table_removed t id

pub ending : (t less : Table Entry) (id : ℕ) (entry : Entry) (o : Option Entry) → o ≡ find t.entries id → o ≡ Some entry → less ≡ table_removed t id → IsSomeAnd (find t.entries id) (λ e. e.handles + e.children ≡ 0) → IsEnding t less id entry
ending t less id entry o value is taken closing =
    let found = sym value ∙ is in record {
      found = found;
      none_holds = subst (λ p. IsSomeAnd p (λ (e : Entry). e.handles + e.children ≡ 0)) found closing;
      taken = taken;
    }

module _ (t less : Table Entry) (max_count handles id : ℕ) (entry : Entry)
    (w : IsConsistent t max_count handles) (k : IsEnding t less id entry) where
  pub ending_accepted : refusal (view_of t max_count) (Ended id) ≡ None
  ending_accepted = ended_at t max_count id entry w.counted k.found k.none_holds

  view_after : (new : Table Entry) → HasEnded t new max_count handles id → view_of new max_count ≡ store_after (view_of t max_count) (Ended id)
  view_after new h =
      let a : view_of new max_count ≡ store_then (view_of t max_count) (Ended id) = ap (λ x. record (view_of t max_count) { table = x }) h.table in
      a ∙ sym (after_accepted (view_of t max_count) (Ended id) ending_accepted)

  told_after : (new : Table Entry) (o : Option ℕ) → HasEnded t new max_count handles id → entry.parent ≡ o → told (view_of t max_count) (Ended id) ≡ if_closing (spans_of new.entries) o
  told_after new o h parent =
      let a = told_accepted (view_of t max_count) (Ended id) ending_accepted in
      let b = ap (λ (s : StoreView). if_closing s.table.entries (parent_there (spans_of t.entries) id)) (sym (view_after new h)) in
      let p : parent_there (spans_of t.entries) id ≡ o = ap parent_if_there (span_at t.entries id entry k.found) ∙ parent in
      a ∙ (b ∙ ap (if_closing (spans_of new.entries)) p)

  root_ended : entry.parent ≡ None → HasEnded t less max_count handles id
  root_ended root = ended_root t less max_count handles id entry w k.found k.none_holds k.taken root

  pub root_consistent : entry.parent ≡ None → IsConsistent less max_count handles
  root_consistent root = (root_ended root).consistent

  pub root_view : entry.parent ≡ None → view_of less max_count ≡ store_after (view_of t max_count) (Ended id)
  root_view root = view_after less (root_ended root)

  pub root_told : entry.parent ≡ None → None ≡ told (view_of t max_count) (Ended id)
  root_told root = sym (told_after less None (root_ended root) root)

  module _ (p : ℕ) (parent : entry.parent ≡ Some p) where
    above : (up : Entry) × (find less.entries p ≡ Some up) × (0 < up.children)
    above = parent_counts t less max_count handles id entry w k.found k.none_holds k.taken p parent

    pub parent_counted : IsSomeAnd (find less.entries p) (λ e. 0 < e.children)
    parent_counted = let up = above in subst (λ o. IsSomeAnd o (λ (e : Entry). 0 < e.children)) (sym up.1) up.2

    module _ (new : Table Entry) (written : (e : Entry) → find less.entries p ≡ Some e → new ≡ record less { entries = with_value less.entries p (record e { children = e.children - 1 }) }) where
      child_ended : HasEnded t new max_count handles id
      child_ended = let up = above in ended_child t less max_count handles id entry w k.found k.none_holds k.taken p parent new up.0 up.1 up.2 (written up.0 up.1)

      pub child_consistent : IsConsistent new max_count handles
      child_consistent = child_ended.consistent

      pub child_view : view_of new max_count ≡ store_after (view_of t max_count) (Ended id)
      child_view = view_after new child_ended

      pub child_told : (result : Bool) → ((e : Entry) → find less.entries p ≡ Some e → result ≡ eqb (e.handles + (e.children - 1)) 0) → cond result (Some p) None ≡ told (view_of t max_count) (Ended id)
      child_told result last =
          let up = above in
          let c : is_closing (spans_of new.entries) p ≡ result = closing_above t less max_count handles id entry w k.found k.none_holds k.taken p parent new up.0 up.1 up.2 (written up.0 up.1) ∙ sym (last up.0 up.1) in
          sym (told_after new (Some p) child_ended parent ∙ ap (λ b. cond b (Some p) None) c)
