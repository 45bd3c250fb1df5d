-- A call that gives a holder back closes the span that it names, where it closes any.
use Rattle.std.proofs.Common.{◌≡◌, ℕ, zero, suc, ◌<◌, true, List, [], ◌∷◌, length, take, Some, None, IsTrue, refl, sym, ap, subst, ◌∙◌, inl, inr, arith}
use Rattle.std.specs.Prelude.{◌↔◌, nat_lt}
use Rattle.std.proofs.lemmas.Bool.{cases_Bool, lt-ltb, false≢true}
use Rattle.std.proofs.lemmas.Bool.Decides.{eqb_tells}
use Rattle.span_id.specs.Ids.{has}
use Rattle.span_layers.specs.Filter.{Filter}
use Rattle.span_forest.specs.declared.span.Holder.{Holder}
use Rattle.span_forest.specs.declared.span.Holder.TheVariants.{Handle, Entry}
use Rattle.span_forest.specs.Spans.{Spans, find, IsOpen}
use Rattle.span_forest.specs.Walk.{walk_within}
use Rattle.span_forest.specs.Release.{closing_list}
use Rattle.span_forest.proofs.Spared.{list_first}
use Rattle.span_forest.proofs.Upheld.{IsUpheld}
use Rattle.span_core.specs.World.{World, IsWorld}
use Rattle.span_outlet.specs.Request.{exit, try_close, exited, released}
use Rattle.span_core.specs.Step.{Changes, stays_inside}
use Rattle.span_core.proofs.Deciding.{held_from}
use Rattle.span_core.proofs.Steps.{exit_closes, release_closes}
use Rattle.span_core.proofs.Effects.{open_held}
use Rattle.span_core.proofs.Legal.{IsSettled}
use Rattle.span_core.proofs.Released.{ClosesExactly, closes_exactly}

stands_first : (id : ℕ) (ids : List ℕ) → has (id ∷ ids) id ≡ true
stands_first id ids = elim (eqb_tells id id) [ inl t ↦ rw t.0 refl | inr t ↦ absurd (t.1 refl) ]

-- a first part of a walk has the span that the walk begins with, where it has any
begins : (n steps : ℕ) (spans : Spans) (id : ℕ) (listed : List ℕ) → listed ≡ take n (walk_within steps spans (Some id)) → 0 < length listed → has listed id ≡ true
begins zero zero spans id listed is some = absurd (let none = ap length is in omega (arith, none, some))
begins zero (suc steps) spans id listed is some = absurd (let none = ap length is in omega (arith, none, some))
begins (suc n) zero spans id listed is some = absurd (let none = ap length is in omega (arith, none, some))
begins (suc n) (suc steps) spans id listed is some = ap (λ ids. has ids id) is ∙ stands_first id _

named_first : (spans : Spans) (id : ℕ) (holder : Holder) → IsUpheld spans → 0 < length (closing_list spans id holder) → has (closing_list spans id holder) id ≡ true
named_first spans id holder w some = begins (length (closing_list spans id holder)) (length spans) spans id (closing_list spans id holder) (list_first spans w.forest w.positive id holder) some

named_gone : (closed : List ℕ) (old new : Spans) (id : ℕ) → ClosesExactly old closed new id → IsOpen old id → (0 < length closed → has closed id ≡ true)
    → IsTrue (nat_lt 0 (length closed)) ↔ (find new id ≡ None)
named_gone [] old new id exact there first = (λ some. absurd (false≢true some), λ gone. absurd (false≢true (exact.1 (there, gone))))
named_gone (x ∷ xs) old new id exact there first = (λ some. (exact.0 (first (omega arith))).1, λ gone. lt-ltb 0 (length (x ∷ xs)) (omega arith))

module _ (rules : List Filter) (ids before : List ℕ) (old : World) (worker id : ℕ) (closed : List ℕ) (new : World) (w : IsSettled rules ids before old.spans) (world : IsWorld old) where
  pub named_by_close : Changes rules ids old (try_close worker id) (released closed) new → IsTrue (nat_lt 0 (length closed)) ↔ (find new.spans id ≡ None)
  named_by_close change =
      named_gone closed old.spans new.spans id (closes_exactly rules ids before old (try_close worker id) (released closed) new change w world id) (open_held old.spans id Handle (held_from old.spans id change.known))
      (λ some. subst (λ (list : List ℕ). has list id ≡ true) (sym (release_closes change)) (named_first old.spans id Handle w.upheld (subst (λ (list : List ℕ). 0 < length list) (release_closes change) some)))

  pub named_by_exit : Changes rules ids old (exit worker id) (exited closed) new → IsOpen old.spans id → IsTrue (nat_lt 0 (length closed)) ↔ (find new.spans id ≡ None)
  named_by_exit change there =
      named_gone closed old.spans new.spans id (closes_exactly rules ids before old (exit worker id) (exited closed) new change w world id) there
      (λ some. elim (cases_Bool (stays_inside old worker id)) [
        | inl t ↦ absurd (let none : closed ≡ [] = exit_closes change ∙ rw t refl in let few = ap length none in omega (arith, some, few))
        | inr t ↦ (let is : closed ≡ closing_list old.spans id Entry = exit_closes change ∙ rw t refl in
            subst (λ (list : List ℕ). has list id ≡ true) (sym is) (named_first old.spans id Entry w.upheld (subst (λ (list : List ℕ). 0 < length list) is some)))
      ])
