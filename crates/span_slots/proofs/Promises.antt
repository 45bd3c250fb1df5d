-- The promises of a table, from what is true of every table.
use Rattle.std.proofs.Common.{◌≡◌, ◌≢◌, ℕ, zero, suc, ◌+◌, ◌<◌, ◌≤◌, ◌↔◌, Bool, true, false, not, ◌||◌, ltb, leb, List, [], ◌∷◌, length, get_or, map, Option, Some, None, IsSome, refl, sym, ap, subst, ◌∙◌, ◌⊎◌, inl, inr, arith, rules}
use Rattle.std.specs.Prelude.{IfSome, All, AllPairs, Contains}
use Rattle.std.specs.List.Sorted.{IsStrictlyIncreasing}
use Rattle.std.proofs.lemmas.List.{get_or_past}
use Rattle.std.proofs.lemmas.Bool.{eq-eqb, ne_eqb, cases_Bool, cases_lt, lt-ltb, le-ltb, le-leb, lt-leb, ltb-true, ltb-false, not-false, true≢false}
use Rattle.std.proofs.lemmas.Bool.Decides.{eqb_tells}
use Rattle.span_id.specs.Id.{id_of, slot_of, generation_of, IsId}
use Rattle.span_slots.specs.Table.{Table, find, IsIssued, IsUsed, IsFull, is_free, is_occupied, is_retired, next_slot, next_slot_of, next_id, id_at, table_removed, freed_with}
use Rattle.span_slots.specs.Change.{Change, Insert, after, after_all}
use Rattle.span_slots.specs.inside.Rows.{times_in}
use Rattle.span_slots.proofs.Ids.{slot_of_id, generation_of_id}
use Rattle.span_slots.proofs.Entries.{find-with_same, find-with_other, find-without_other}
use Rattle.span_slots.proofs.Issued.{IsKept, issued_since, used_since, next_slot_low, not_issued, issued-inserted, issued_for_good, last-after_all}
use Rattle.span_slots.proofs.Described.{IsTable, AreNewest, AreAscending}

none_some : {A : Type 0} (x : A) → ◌≡◌ {A = Option A} None (Some x) → ⊥
none_some x e = cc

some_same : {A : Type 0} (x y : A) → ◌≡◌ {A = Option A} (Some x) (Some y) → x ≡ y
some_same x y e = cc

Contains-from_times : (xs : List ℕ) (x : ℕ) → 0 < times_in x xs → Contains xs x
Contains-from_times [] x h = absurd (omega arith)
Contains-from_times (y ∷ ys) x h =
    elim (eqb_tells y x) [
      | inl t ↦ (0, omega arith, t.1)
      | inr t ↦ (let q = rw t.0 at h in let r = Contains-from_times ys x (omega arith) in (suc r.0, omega (arith, r.1), r.2))
    ]

times-from_at : (xs : List ℕ) (k d : ℕ) → k < length xs → 0 < times_in (get_or xs k d) xs
times-from_at [] k d l = absurd (omega arith)
times-from_at (y ∷ ys) zero d l = rw (eq-eqb y y refl) (omega arith)
times-from_at (y ∷ ys) (suc k) d l = let r = times-from_at ys k d (omega arith) in omega arith

times-from_Contains : (xs : List ℕ) (x : ℕ) → Contains xs x → 0 < times_in x xs
times-from_Contains xs x c = subst (λ y. 0 < times_in y xs) c.2 (times-from_at xs c.0 x c.1)

apart_once : (xs : List ℕ) → ((x : ℕ) → times_in x xs ≤ 1) → (i j : ℕ) (d : ℕ) → i < j → j < length xs → get_or xs i d ≢ get_or xs j d
apart_once [] h i j d l m = absurd (omega arith)
apart_once (x ∷ xs) h i zero d l m = absurd (omega arith)
apart_once (x ∷ xs) h zero (suc j) d l m = λ e. (
    let again : 0 < times_in x xs = subst (λ y. 0 < times_in y xs) (sym e) (times-from_at xs j d (omega arith)) in
    let once = rw (eq-eqb x x refl) at (h x) in
    omega arith)
apart_once (x ∷ xs) h (suc i) (suc j) d l m =
    apart_once xs (λ y. (let q = h y in omega arith)) i j d (omega arith) (omega arith)

free_is_unretired : (o : Bool) (r : Bool) → not (o || r) ≡ true → r ≡ false
free_is_unretired true r q = absurd (true≢false (sym q))
free_is_unretired false true q = absurd (true≢false (sym q))
free_is_unretired false false q = refl

module _ {T : Type 0} where
  low_slot : (t : Table T) (s : ℕ) → IsKept t → next_slot t ≡ Some s → s < 16777216
  low_slot t s k e = let l = next_slot_low t s k e in let h = k.slots_high in omega (arith, l.0)

  -- what holds of the id of the next slot holds of the next id
  if_next : (t : Table T) (P : ℕ → Type 0) → ((s : ℕ) → next_slot t ≡ Some s → P (id_at t s)) → IfSome (next_id t) P
  if_next t P h = go (next_slot t) refl
    where
      go : (o : Option ℕ) → next_slot t ≡ o → IfSome (next_id t) P
      go None e = rw e (search rules)
      go (Some s) e = rw e (h s e)

  some_next : (t : Table T) (s : ℕ) → next_slot t ≡ Some s → next_id t ≡ Some (id_at t s)
  some_next t s e = rw e refl

  -- refusal
  next_is_free : (t : Table T) (s : ℕ) → IsTable t → next_slot t ≡ Some s → is_free t s ≡ true
  next_is_free t s h e = go t.freed refl
    where
      go : (f : List ℕ) → t.freed ≡ f → is_free t s ≡ true
      go [] q =
          let low = low_slot t s h.kept e in
          let n : next_slot_of t.slots (length t.given) [] ≡ Some s = subst (λ x. next_slot_of t.slots (length t.given) x ≡ Some s) q e in
          elim (cases_lt (length t.given) t.slots) [
            | inl u ↦ (let same = some_same _ _ (rw (lt-ltb (length t.given) t.slots u) at n) in h.past_are_free s (omega arith) low)
            | inr u ↦ absurd (none_some s (rw (le-ltb (length t.given) t.slots u) at n))
          ]
      go (x ∷ xs) q =
          let n : next_slot_of t.slots (length t.given) (x ∷ xs) ≡ Some s = subst (λ y. next_slot_of t.slots (length t.given) y ≡ Some s) q e in
          let same : x ≡ s = some_same _ _ n in
          h.freed_are_free s (rw (q, eq-eqb x s same) (omega arith))

  full_where : (t : Table T) → IsTable t → next_slot t ≡ None → IsFull t
  full_where t h e slot l = go t.freed refl
    where
      go : (f : List ℕ) → t.freed ≡ f → (is_occupied t slot || is_retired t slot) ≡ true
      go [] q =
          let n : next_slot_of t.slots (length t.given) [] ≡ None = subst (λ x. next_slot_of t.slots (length t.given) x ≡ None) q e in
          elim (cases_lt (length t.given) t.slots) [
            | inl u ↦ absurd (none_some (length t.given) (sym (rw (lt-ltb (length t.given) t.slots u) at n)))
            | inr u ↦ (elim (cases_Bool (is_free t slot)) [
              | inl f ↦ absurd (let in_freed = rw q at (h.free_are_freed slot (omega arith) f) in omega arith)
              | inr f ↦ not-false (is_occupied t slot || is_retired t slot) f
            ])
          ]
      go (x ∷ xs) q =
          let n : next_slot_of t.slots (length t.given) (x ∷ xs) ≡ None = subst (λ y. next_slot_of t.slots (length t.given) y ≡ None) q e in
          absurd (none_some x (sym n))

  pub full_exactly : (t : Table T) → IsTable t → (next_id t ≡ None) ↔ IsFull t
  full_exactly t h = go (next_slot t) refl
    where
      go : (o : Option ℕ) → next_slot t ≡ o → (next_id t ≡ None) ↔ IsFull t
      go None e = (λ _. full_where t h e, λ _. rw e refl)
      go (Some s) e = (
        λ n. absurd (none_some (id_at t s) (sym n ∙ some_next t s e)),
        λ f. absurd (true≢false (sym (f s (next_slot_low t s h.kept e).0) ∙ free_is_neither (is_occupied t s || is_retired t s) (next_is_free t s h e))),
      )
        where
          free_is_neither : (b : Bool) → not b ≡ true → b ≡ false
          free_is_neither true q = absurd (true≢false (sym q))
          free_is_neither false q = refl

  next_is_unretired : (t : Table T) (s : ℕ) → IsTable t → next_slot t ≡ Some s → is_retired t s ≡ false
  next_is_unretired t s h e = free_is_unretired (is_occupied t s) (is_retired t s) (next_is_free t s h e)

  retired_is : (t : Table T) (s : ℕ) → s < 16777216 → is_retired t s ≡ ltb t.last_generation (get_or t.given s 0)
  retired_is t s l = rw (slot_of_id s t.last_generation l, generation_of_id s t.last_generation l) refl

  -- the ids
  pub next_in_layout : (t : Table T) → IsTable t → t.last_generation ≤ 4294967295 → IfSome (next_id t) IsId
  next_in_layout t h m = if_next t IsId (λ s e. (
      let low = low_slot t s h.kept e in
      let g : get_or t.given s 0 ≤ t.last_generation = next_generation s e in
      (omega arith, omega arith)))
    where
      next_generation : (s : ℕ) → next_slot t ≡ Some s → get_or t.given s 0 ≤ t.last_generation
      next_generation s e =
          let low = low_slot t s h.kept e in
          ltb-false t.last_generation (get_or t.given s 0) (sym (retired_is t s low) ∙ next_is_unretired t s h e)

  pub never_issued : (t : Table T) → IsKept t → IfSome (next_id t) (λ id. IsIssued t id → ⊥)
  never_issued t k = if_next t (λ id. IsIssued t id → ⊥) (λ s e. not_issued t s (low_slot t s k e))

  pub insert_issues : (t : Table T) (v : T) (id : ℕ) → IsKept t → IsId id → IsIssued (after t (Insert v)) id ↔ (IsIssued t id ⊎ (next_id t ≡ Some id))
  insert_issues t v id k layout = go (next_slot t) refl
    where
      go : (o : Option ℕ) → next_slot t ≡ o → IsIssued (after t (Insert v)) id ↔ (IsIssued t id ⊎ (next_id t ≡ Some id))
      go None e = rw e (λ i. inl i, elim [ inl i ↦ i | inr q ↦ absurd (none_some id q) ])
      go (Some s) e =
          let is = issued-inserted t s id v layout (low_slot t s k e) (next_slot_low t s k e).1 in
          rw e (
            λ i. elim (is.0 i) [ inl a ↦ inl a | inr q ↦ inr (ap (λ x. Some x) q) ],
            elim [ inl a ↦ is.1 (inl a) | inr q ↦ is.1 (inr (some_same _ _ q)) ],
          )

  given-removed : (t : Table T) (id : ℕ) → (table_removed t id).given ≡ t.given
  given-removed t id = go (find t.entries id) refl
    where
      go : (o : Option T) → find t.entries id ≡ o → (table_removed t id).given ≡ t.given
      go None e = rw e refl
      go (Some v) e = rw e refl

  pub remove_issues_none : (t : Table T) (id other : ℕ) → IsIssued (table_removed t other) id ↔ IsIssued t id
  remove_issues_none t id other =
      let same = given-removed t other in
      (λ i. subst (λ x. generation_of id < get_or x (slot_of id) 0) same i, λ i. subst (λ x. generation_of id < get_or x (slot_of id) 0) (sym same) i)

  pub issued_slot : (t : Table T) (id : ℕ) → IsKept t → IsIssued t id → slot_of id < t.slots
  issued_slot t id k i = let u = used_since t.given (slot_of id) (generation_of id) i in let h = k.used in omega arith

  pub issued_generation : (t : Table T) (id : ℕ) → IsTable t → IsIssued t id → generation_of id ≤ t.last_generation
  issued_generation t id h i = let m = h.gave_no_more (slot_of id) in omega arith

  -- the map
  newest_since : (given : List ℕ) (es : List (ℕ × T)) (id : ℕ) → AreNewest given es → IsSome (find es id) → IsId id × (get_or given (slot_of id) 0 ≡ generation_of id + 1)
  newest_since given [] id a there = cc
  newest_since given (e ∷ es) id a there =
      elim (eqb_tells e.0 id) [
        | inl t ↦ subst (λ x. IsId x × (get_or given (slot_of x) 0 ≡ generation_of x + 1)) t.1 a.0
        | inr t ↦ newest_since given es id a.1 (rw t.0 at there)
      ]

  pub newest : (t : Table T) (id : ℕ) → IsTable t → IsSome (find t.entries id) → IsId id × (get_or t.given (slot_of id) 0 ≡ generation_of id + 1)
  newest t id h there = newest_since t.given t.entries id h.newest there

  pub next_not_issued : (t : Table T) (id : ℕ) → IsTable t → IsSome (find t.entries id) → IsIssued t (id_of (slot_of id) (generation_of id + 1)) → ⊥
  next_not_issued t id h there i =
      let n = newest t id h there in
      let u = used_since t.given (slot_of id) (generation_of id) (omega (arith, n.1)) in
      let k = h.kept.used in
      let m = h.kept.slots_high in
      let low : slot_of id < 16777216 = omega arith in
      let q : generation_of id + 1 < get_or t.given (slot_of id) 0 = rw (slot_of_id (slot_of id) (generation_of id + 1) low, generation_of_id (slot_of id) (generation_of id + 1) low) at i in
      omega (arith, n.1)

  above_since : (es : List (ℕ × T)) (low id : ℕ) → AreAscending low es → IsSome (find es id) → low ≤ slot_of id
  above_since [] low id a there = cc
  above_since (e ∷ es) low id a there =
      elim (eqb_tells e.0 id) [
        | inl t ↦ subst (λ x. low ≤ slot_of x) t.1 a.0
        | inr t ↦ (let r = above_since es (slot_of e.0 + 1) id a.1 (rw t.0 at there) in omega (arith, a.0))
      ]

  pub one_slot : (es : List (ℕ × T)) (low id other : ℕ) → AreAscending low es → IsSome (find es id) → IsSome (find es other) → slot_of id ≡ slot_of other → id ≡ other
  one_slot [] low id other a there too same = cc
  one_slot (e ∷ es) low id other a there too same =
      elim (eqb_tells e.0 id) [
        | inl t ↦ (elim (eqb_tells e.0 other) [
          | inl u ↦ sym t.1 ∙ u.1
          | inr u ↦ absurd (let r = above_since es (slot_of e.0 + 1) other a.1 (rw u.0 at too) in let q = ap slot_of t.1 in omega arith)
        ])
        | inr t ↦ (elim (eqb_tells e.0 other) [
          | inl u ↦ absurd (let r = above_since es (slot_of e.0 + 1) id a.1 (rw t.0 at there) in let q = ap slot_of u.1 in omega arith)
          | inr u ↦ one_slot es (slot_of e.0 + 1) id other a.1 (rw t.0 at there) (rw u.0 at too) same
        ])
      ]

  pub ascending : (es : List (ℕ × T)) (low : ℕ) → AreAscending low es → IsStrictlyIncreasing (map (λ e. slot_of e.0) es)
  ascending [] low a k l = absurd (omega arith)
  ascending (e ∷ []) low a k l = absurd (omega arith)
  ascending (e ∷ (d ∷ ds)) low a zero l = omega (arith, a.1.0)
  ascending (e ∷ (d ∷ ds)) low a (suc k) l =
      let more : suc k + 1 ≡ suc (k + 1) = omega arith in
      let r = ascending (d ∷ ds) (slot_of e.0 + 1) a.1 k (omega arith) in
      rw more r

  above_at : (es : List (ℕ × T)) (low k : ℕ) (d : ℕ × T) → AreAscending low es → k < length es → low ≤ slot_of (get_or es k d).0
  above_at [] low k d a l = absurd (omega arith)
  above_at (e ∷ es) low zero d a l = a.0
  above_at (e ∷ es) low (suc k) d a l = let r = above_at es (slot_of e.0 + 1) k d a.1 (omega arith) in omega (arith, a.0)

  pub found : (es : List (ℕ × T)) (low : ℕ) → AreAscending low es → All (λ e. find es e.0 ≡ Some e.1) es
  found [] low a k d l = absurd (omega arith)
  found (e ∷ es) low a zero d l = rw (eq-eqb e.0 e.0 refl) refl
  found (e ∷ es) low a (suc k) d l =
      let r = above_at es (slot_of e.0 + 1) k d a.1 (omega arith) in
      let apart : e.0 ≢ (get_or es k d).0 = λ q. (let w = ap slot_of q in omega arith) in
      rw (ne_eqb e.0 (get_or es k d).0 apart) (found es (slot_of e.0 + 1) a.1 k d (omega arith))

  -- the freed slots
  pub freed_exactly : (t : Table T) (slot : ℕ) → IsTable t → slot < t.slots → Contains t.freed slot ↔ (IsUsed t slot × (is_free t slot ≡ true))
  freed_exactly t slot h l =
      let m = h.kept.slots_high in
      let low : slot < 16777216 = omega arith in (
        λ c. (
            let times = times-from_Contains t.freed slot c in
            let used = h.freed_are_used slot times in
            (rw (slot_of_id slot 0 low, generation_of_id slot 0 low) (h.gave_some slot used), h.freed_are_free slot times)),
        λ u. (
            let gave : 0 < get_or t.given slot 0 = rw (slot_of_id slot 0 low, generation_of_id slot 0 low) at u.0 in
            Contains-from_times t.freed slot (h.free_are_freed slot (used_since t.given slot 0 gave) u.1)),
      )

  pub freed_apart : (t : Table T) → IsTable t → AllPairs (λ slot other. slot ≢ other) t.freed
  freed_apart t h i j d l m = apart_once t.freed h.freed_once i j d l m

  next-removed : (t : Table T) (id : ℕ) (v : T) → find t.entries id ≡ Some v → next_id (table_removed t id) ≡ next_id (record t { freed = freed_with t.last_generation t.given t.freed id })
  next-removed t id v e = rw e refl

  pub freed_last : (t : Table T) (id : ℕ) → IsTable t → IsSome (find t.entries id) → generation_of id < t.last_generation → next_id (table_removed t id) ≡ Some (id_of (slot_of id) (generation_of id + 1))
  freed_last t id h there l = go (find t.entries id) refl
    where
      go : (o : Option T) → find t.entries id ≡ o → next_id (table_removed t id) ≡ Some (id_of (slot_of id) (generation_of id + 1))
      go None e = absurd (let q = rw e at there in cc)
      go (Some v) e =
          let n = newest t id h there in
          let test : leb (get_or t.given (slot_of id) 0) t.last_generation ≡ true = le-leb (get_or t.given (slot_of id) 0) t.last_generation (omega (arith, n.1)) in
          next-removed t id v e ∙ rw (test, n.1) refl

  pub retired_at_last : (t : Table T) (id : ℕ) → IsKept t → IsIssued t id → generation_of id ≡ t.last_generation → is_retired t (slot_of id) ≡ true
  retired_at_last t id k i e =
      let u = used_since t.given (slot_of id) (generation_of id) i in
      let h = k.used in
      let m = k.slots_high in
      retired_is t (slot_of id) (omega arith) ∙ lt-ltb t.last_generation (get_or t.given (slot_of id) 0) (omega arith)

  pub retired_for_good : (t : Table T) (slot : ℕ) (changes : List (Change T)) → IsKept t → slot < t.slots → is_retired t slot ≡ true → is_retired (after_all t changes) slot ≡ true
  retired_for_good t slot changes k l r =
      let m = k.slots_high in
      let low : slot < 16777216 = omega arith in
      let gave = ltb-true t.last_generation (get_or t.given slot 0) (sym (retired_is t slot low) ∙ r) in
      let issued : IsIssued t (id_of slot t.last_generation) = rw (slot_of_id slot t.last_generation low, generation_of_id slot t.last_generation low) gave in
      let still = issued_for_good t changes (id_of slot t.last_generation) k issued in
      let same = last-after_all t changes in
      let later = rw (slot_of_id slot t.last_generation low, generation_of_id slot t.last_generation low) at still in
      retired_is (after_all t changes) slot low ∙ lt-ltb (after_all t changes).last_generation (get_or (after_all t changes).given slot 0) (omega arith)

  pub retired_never_next : (t : Table T) (slot : ℕ) → IsTable t → is_retired t slot ≡ true → IfSome (next_id t) (λ id. slot_of id ≢ slot)
  retired_never_next t slot h r = if_next t (λ id. slot_of id ≢ slot) (λ s e q. (
      let low = low_slot t s h.kept e in
      let same : s ≡ slot = sym (slot_of_id s (get_or t.given s 0) low) ∙ q in
      absurd (true≢false (sym r ∙ (ap (is_retired t) (sym same) ∙ next_is_unretired t s h e)))))

  pub retired : (t : Table T) (id : ℕ) → IsTable t → IsSome (find t.entries id) → generation_of id ≡ t.last_generation → next_id (table_removed t id) ≡ next_id t
  retired t id h there l = go (find t.entries id) refl
    where
      go : (o : Option T) → find t.entries id ≡ o → next_id (table_removed t id) ≡ next_id t
      go None e = absurd (let q = rw e at there in cc)
      go (Some v) e =
          let n = newest t id h there in
          let test : leb (get_or t.given (slot_of id) 0) t.last_generation ≡ false = lt-leb (get_or t.given (slot_of id) 0) t.last_generation (omega (arith, n.1)) in
          next-removed t id v e ∙ rw test refl

  first_use_of : (t : Table T) (s : ℕ) → IsKept t → t.freed ≡ [] → next_slot t ≡ Some s → length t.given ≡ s
  first_use_of t s k none e =
      let n : next_slot_of t.slots (length t.given) [] ≡ Some s = subst (λ x. next_slot_of t.slots (length t.given) x ≡ Some s) none e in
      elim (cases_lt (length t.given) t.slots) [
        | inl u ↦ some_same _ _ (rw (lt-ltb (length t.given) t.slots u) at n)
        | inr u ↦ absurd (none_some s (rw (le-ltb (length t.given) t.slots u) at n))
      ]

  pub first_use : (t : Table T) → IsTable t → t.freed ≡ [] → IfSome (next_id t) (λ id. generation_of id ≡ 0)
  first_use t h none = if_next t (λ id. generation_of id ≡ 0) (λ s e. (
      let past = get_or_past t.given s 0 (let f = first_use_of t s h.kept none e in omega arith) in
      generation_of_id s (get_or t.given s 0) (low_slot t s h.kept e) ∙ past))

  pub lowest : (t : Table T) → IsTable t → t.freed ≡ [] → IfSome (next_id t) (λ id. (slot : ℕ) → slot < t.slots → IsUsed t slot ↔ (slot < slot_of id))
  lowest t h none = if_next t (λ id. (slot : ℕ) → slot < t.slots → IsUsed t slot ↔ (slot < slot_of id)) (λ s e slot l. (
      let f = first_use_of t s h.kept none e in
      let m = h.kept.slots_high in
      let low : slot < 16777216 = omega arith in
      let at = slot_of_id s (get_or t.given s 0) (low_slot t s h.kept e) in
      rw (slot_of_id slot 0 low, generation_of_id slot 0 low, at) (
        λ u. (let q = used_since t.given slot 0 u in omega arith),
        λ u. h.gave_some slot (omega arith),
      )))

  -- what each call does to the map
  pub next_absent : (t : Table T) → IsKept t → IfSome (next_id t) (λ id. find t.entries id ≡ None)
  next_absent t k = if_next t (λ id. find t.entries id ≡ None) (λ s e. absent_at t s k (low_slot t s k e))
    where
      absent_at : (t : Table T) (s : ℕ) → IsKept t → s < 16777216 → find t.entries (id_at t s) ≡ None
      absent_at t s k l = go (find t.entries (id_at t s)) refl
        where
          go : (o : Option T) → find t.entries (id_at t s) ≡ o → find t.entries (id_at t s) ≡ None
          go None e = e
          go (Some v) e = absurd (not_issued t s l (issued_since t.given t.entries (id_at t s) k.issued (rw e cc)))

  pub added : (t : Table T) (v : T) → IsKept t → IfSome (next_id t) (λ id. find (after t (Insert v)).entries id ≡ Some v)
  added t v k = go (next_slot t) refl
    where
      go : (o : Option ℕ) → next_slot t ≡ o → IfSome (next_id t) (λ id. find (after t (Insert v)).entries id ≡ Some v)
      go None e = rw e (search rules)
      go (Some s) e =
          let none : find t.entries (id_at t s) ≡ None = subst (λ o. IfSome o (λ id. find t.entries id ≡ None)) (some_next t s e) (next_absent t k) in
          rw e (find-with_same t.entries (id_at t s) v none)

  pub others-inserted : (t : Table T) (v : T) (other : ℕ) → next_id t ≢ Some other → find (after t (Insert v)).entries other ≡ find t.entries other
  others-inserted t v other ne = go (next_slot t) refl
    where
      go : (o : Option ℕ) → next_slot t ≡ o → find (after t (Insert v)).entries other ≡ find t.entries other
      go None e = rw e refl
      go (Some s) e = rw e (find-with_other t.entries (id_at t s) other v (λ q. ne (some_next t s e ∙ ap (λ x. Some x) (sym q))))

  pub others-removed : (t : Table T) (id other : ℕ) → other ≢ id → find (table_removed t id).entries other ≡ find t.entries other
  others-removed t id other ne = go (find t.entries id) refl
    where
      go : (o : Option T) → find t.entries id ≡ o → find (table_removed t id).entries other ≡ find t.entries other
      go None e = rw e refl
      go (Some v) e = rw e (find-without_other t.entries id other ne)
