-- What a search among the entries finds from the top on.
use Rattle.std.proofs.Common.{◌≡◌, ℕ, ◌+◌, Bool, true, false, not, cond, ◌||◌, List, [], ◌∷◌, ◌++◌, length, eqb, refl, sym, ap, subst, ◌∙◌, arith, append_assoc, Option, Some, None, Bor, Iter, MatchOption, IfSome, IsSomeAnd}
use denote.Param.Members.{Mut, Called}
use Rattle.std.specs.Fn.{CalledAt}
use Rattle.std.specs.List.{FoldsTo}
use Rattle.std.specs.Iterator.{Yields, YieldsThen, YieldsFirst, MakesProgress, item_count}
use Rattle.std.specs.Slice.Iter.{iter_rest, iter_steps_back}
use Rattle.std.proofs.lemmas.Bool.{eqb-true, not-true, not-false}
use Rattle.std.proofs.lemmas.List.{append-nil, length-append, nil_from_length}
use Rattle.span_id.specs.Ids.{has}
use Rattle.span_stack.specs.declared.entry.Entry.{Entry}
use Rattle.span_stack.specs.inside.Entry.{ids_of, unflagged, IsLastPlace}
use Rattle.span_stack.proofs.Entries.{ids_of-append, has-append, or_false, unflagged-push}

-- calls that leave the closure as it was
module _ {F A : Type 0} (R : F → A → F → Type 0) (f : F) where
  stays : ((x : A) (g : F) → R f x g → g ≡ f) → (xs : List A) (g : F) → FoldsTo R f xs g → g ≡ f
  stays same [] g turns = sym turns
  stays same (x ∷ xs) g turns = stays same xs g (subst (λ h. FoldsTo R h xs g) (same x turns.0 turns.1) turns.2)

-- the entries that calls of `next_back` passed over stood on top, and none has the id
passed_over : {F : Type 0} (R : F → Bor Entry → F → Type 0) (f : F) (id : ℕ)
    → ((x : Bor Entry) (g : F) → R f x g → (g ≡ f) × (eqb x.now.id id ≡ false))
    → (xs : List (Bor Entry)) (s t : Iter Entry) (g : F) → Yields iter_steps_back s xs t → FoldsTo R f xs g
    → (above : List Entry) × (iter_rest s ≡ iter_rest t ++ above) × (has (ids_of above) id ≡ false) × (length above ≡ length xs)
passed_over R f id other [] s t g calls turns = ([], ap iter_rest calls ∙ sym (append-nil (iter_rest t)), refl, refl)
passed_over R f id other (x ∷ xs) s t g calls turns =
    let turn = other x turns.0 turns.1 in
    let later = passed_over R f id other xs calls.0 t g calls.2 (subst (λ h. FoldsTo R h xs g) turn.0 turns.2) in (
      later.0 ++ x.now ∷ [],
      calls.1 ∙ ap (λ l. l ++ x.now ∷ []) later.1 ∙ append_assoc (iter_rest t) later.0 (x.now ∷ []),
      ap (λ l. has l id) (ids_of-append later.0 (x.now ∷ [])) ∙ has-append (ids_of later.0) (x.now.id ∷ []) id
          ∙ ap (λ b. b || (eqb x.now.id id || false)) later.2 ∙ or_false (eqb x.now.id id) ∙ turn.1,
      length-append later.0 (x.now ∷ []) ∙ ap (λ n. n + 1) later.3 ∙ omega arith,
    )

-- so the place where they stopped is the last of the id
last_place_where : (entries : List Entry) (id : ℕ) (r : Option ℕ) (o : Option (Bor Entry)) (s t u : Iter Entry)
    → iter_rest s ≡ entries → iter_steps_back t o u
    → (above : List Entry) (passed : ℕ) → iter_rest s ≡ iter_rest t ++ above → has (ids_of above) id ≡ false
    → length above ≡ passed
    → MatchOption o (r ≡ None) (λ x. IsSomeAnd r (λ i. i + 1 + passed ≡ length (iter_rest s)) × (eqb x.now.id id ≡ true))
    → MatchOption r (has (ids_of entries) id ≡ false) (IsLastPlace entries id)
last_place_where entries id r None s t u starts call above passed splits absent count stops =
    let whole : entries ≡ above = sym starts ∙ splits ∙ ap (λ l. l ++ above) (nil_from_length (iter_rest t) call.0) in
    rw stops (ap (λ l. has (ids_of l) id) whole ∙ absent)
last_place_where entries id None (Some x) s t u starts call above passed splits absent count stops = absurd stops.0
last_place_where entries id (Some place) (Some x) s t u starts call above passed splits absent count stops =
    let whole : iter_rest s ≡ iter_rest u ++ x.now ∷ above =
    splits ∙ ap (λ l. l ++ above) call ∙ append_assoc (iter_rest u) (x.now ∷ []) above in
    record {
      below = iter_rest u;
      entry = x.now;
      above = above;
      was = sym starts ∙ whole;
      place_is = omega (arith, ap length whole, length-append (iter_rest u) (x.now ∷ above));
      id_is = eqb-true x.now.id id stops.1;
      last = absent;
    }

-- what `rposition` finds, where its closure asks for the id
pub last_place_found : {F : Type 0} {G : Mut F (Bor Entry × Unit {0}) Bool} (entries : List Entry) (id : ℕ)
    (s u : Iter Entry) (f : F) (r : Option ℕ) → iter_rest s ≡ entries
    → ((x : Bor Entry) (b : Bool) (g : F) → Called G f (x, tt) b g → (g ≡ f) × (b ≡ eqb x.now.id id))
    → (xs : List (Bor Entry)) × (o : Option (Bor Entry)) × (g : F) × YieldsThen iter_steps_back s xs o u
    × FoldsTo (λ p x q. Called G p (x, tt) false q) f xs g
    × MatchOption o (r ≡ None) (λ x. IsSomeAnd r (λ i. i + 1 + length xs ≡ length (iter_rest s))
    × ((h : F) × Called G g (x, tt) true h))
    → MatchOption r (has (ids_of entries) id ≡ false) (IsLastPlace entries id)
last_place_found {F} {G} entries id s u f r starts asks ran =
    let turns : F → Bor Entry → F → Type 0 = λ p x q. Called G p (x, tt) false q in
    let same = stays turns f (λ x g turn. (asks x false g turn).0) ran.0 ran.2 ran.4 in
    let passed = passed_over turns f id (λ x g turn. let said = asks x false g turn in (said.0, sym said.1))
    ran.0 s ran.3.0 ran.2 ran.3.1 ran.4 in
    last_place_where entries id r ran.1 s ran.3.0 u starts ran.3.2 passed.0 (length ran.0) passed.1 passed.2 passed.3
    (stopped ran.1 _ _ same ran.5)
  where
    stopped : (o : Option (Bor Entry)) (P Q : Type 0) {g : F} → g ≡ f
        → MatchOption o P (λ x. Q × ((h : F) × Called G g (x, tt) true h))
        → MatchOption o P (λ x. Q × (eqb x.now.id id ≡ true))
    stopped None P Q same stop = stop
    stopped (Some x) P Q same stop =
        (stop.0, sym (asks x true stop.1.0 (subst (λ p. Called G p (x, tt) true stop.1.0) same stop.1.1)).1)

-- flagged entries that calls of `next_back` passed over are no part of the walk
passed_flagged : {F : Type 0} (R : F → Bor Entry → F → Type 0) (f : F)
    → ((x : Bor Entry) (g : F) → R f x g → (g ≡ f) × (x.now.duplicate ≡ true))
    → (xs : List (Bor Entry)) (s t : Iter Entry) (g : F) → Yields iter_steps_back s xs t → FoldsTo R f xs g
    → unflagged (iter_rest s) ≡ unflagged (iter_rest t)
passed_flagged R f flagged [] s t g calls turns = ap (λ i. unflagged (iter_rest i)) calls
passed_flagged R f flagged (x ∷ xs) s t g calls turns =
    let turn = flagged x turns.0 turns.1 in
    ap unflagged calls.1 ∙ unflagged-push (iter_rest calls.0) x.now
    ∙ ap (λ b. cond (not b) (x.now.id ∷ unflagged (iter_rest calls.0)) (unflagged (iter_rest calls.0))) turn.1
    ∙ passed_flagged R f flagged xs calls.0 t g calls.2 (subst (λ h. FoldsTo R h xs g) turn.0 turns.2)

-- so what they stopped at is the first of the walk
first_unflagged : (s t u : Iter Entry) (r : Option (Bor Entry)) → unflagged (iter_rest s) ≡ unflagged (iter_rest t)
    → iter_steps_back t r u → IfSome r (λ x. x.now.duplicate ≡ false)
    → MatchOption r ((unflagged (iter_rest s) ≡ []) × (unflagged (iter_rest u) ≡ []))
    (λ x. unflagged (iter_rest s) ≡ x.now.id ∷ unflagged (iter_rest u))
first_unflagged s t u None passed call stops =
    let none : unflagged (iter_rest t) ≡ [] = ap unflagged (nil_from_length (iter_rest t) call.0) in
    (passed ∙ none, ap (λ i. unflagged (iter_rest i)) call.1 ∙ none)
first_unflagged s t u (Some x) passed call stops =
    passed ∙ ap unflagged call ∙ unflagged-push (iter_rest u) x.now
    ∙ ap (λ b. cond (not b) (x.now.id ∷ unflagged (iter_rest u)) (unflagged (iter_rest u))) stops

-- what `rfind` finds, where its closure asks for an entry that isn't flagged
pub unflagged_found : {F : Type 0} {G : Mut F (Bor (Bor Entry) × Unit {0}) Bool} (s u : Iter Entry) (f : F)
    (r : Option (Bor Entry))
    → ((x : Bor Entry) (b : Bool) (g : F) → CalledAt G f x b g → (g ≡ f) × (b ≡ not x.now.duplicate))
    → (xs : List (Bor Entry)) × (g : F) × YieldsThen iter_steps_back s xs r u
    × FoldsTo (λ p x q. CalledAt G p x false q) f xs g × IfSome r (λ x. (h : F) × CalledAt G g x true h)
    → MatchOption r ((unflagged (iter_rest s) ≡ []) × (unflagged (iter_rest u) ≡ []))
    (λ x. unflagged (iter_rest s) ≡ x.now.id ∷ unflagged (iter_rest u))
unflagged_found {F} {G} s u f r asks ran =
    let turns : F → Bor Entry → F → Type 0 = λ p x q. CalledAt G p x false q in
    let same = stays turns f (λ x g turn. (asks x false g turn).0) ran.0 ran.1 ran.3 in
    let passed = passed_flagged turns f
    (λ x g turn. let said = asks x false g turn in (said.0, not-false x.now.duplicate (sym said.1)))
    ran.0 s ran.2.0 ran.1 ran.2.1 ran.3 in
    first_unflagged s ran.2.0 u r passed ran.2.2 (stopped r same ran.4)
  where
    stopped : (o : Option (Bor Entry)) {g : F} → g ≡ f → IfSome o (λ x. (h : F) × CalledAt G g x true h)
        → IfSome o (λ x. x.now.duplicate ≡ false)
    stopped None same stop = stop
    stopped (Some x) same stop =
        not-true x.now.duplicate (sym (asks x true stop.0 (subst (λ p. CalledAt G p x true stop.0) same stop.1)).1)

-- the same, once `map` has read the id
pub steps_mapped : (Reads : Bor Entry → ℕ → Type 0) (r : Option (Bor Entry)) (m : Option ℕ) (old between new : List ℕ)
    → between ≡ old → MatchOption r ((between ≡ []) × (new ≡ [])) (λ x. between ≡ x.now.id ∷ new)
    → MatchOption r (m ≡ None) (λ x. IsSomeAnd m (Reads x)) → ((x : Bor Entry) (y : ℕ) → Reads x y → y ≡ x.now.id)
    → YieldsFirst (λ rest. rest) old m new
steps_mapped Reads None m old between new same step mapped says = rw mapped (sym same ∙ step.0, step.1)
steps_mapped Reads (Some x) None old between new same step mapped says = absurd mapped
steps_mapped Reads (Some x) (Some y) old between new same step mapped says =
    sym same ∙ step ∙ ap (λ id. id ∷ new) (sym (says x y mapped))

-- an item is one less that is left
pub makes_progress : (old new : List ℕ) (m : Option ℕ) → YieldsFirst (λ rest. rest) old m new
    → MakesProgress (λ _. Unit {0}) (item_count {A = ℕ} (λ rest. rest)) old m new
makes_progress old new None step = record { on = λ _. tt; keeps = tt; rests = λ _. tt }
makes_progress old new (Some id) step =
    record { on = λ _. (tt, tt, omega (arith, ap length step)); keeps = tt; rests = λ _. tt }
