-- Which ids a table has issued, from call to call.
use Rattle.std.proofs.Common.{◌≡◌, ◌≢◌, ℕ, ◌+◌, ◌<◌, ◌≤◌, eqb, ltb, leb, List, [], ◌∷◌, ◌++◌, length, get_or, drop, Option, Some, None, IsSome, refl, sym, ap, subst, ◌∙◌, ◌⊎◌, inl, inr, ◌↔◌, arith}
use Rattle.std.proofs.lemmas.List.{get_or-set_same, get_or-set_other, get_or_push, get_or_past, length-set, length-append}
use Rattle.std.proofs.Math.ListN.{get_or-append}
use Rattle.std.proofs.lemmas.Bool.{cases_Bool, cases_lt, lt-ltb, le-ltb}
use Rattle.std.proofs.lemmas.Bool.Decides.{eqb_tells}
use Rattle.span_id.specs.Id.{id_of, slot_of, generation_of, IsId}
use Rattle.span_slots.specs.Table.{Table, find, with_entry, without_entry, with_value, IsIssued, next_slot, next_slot_of, id_at, issue, table_inserted, table_removed}
use Rattle.span_slots.specs.Change.{Change, Insert, Remove, Write, after, after_all}
use Rattle.span_slots.proofs.Ids.{slot_of_id, generation_of_id, id_again}
use Rattle.span_slots.proofs.Entries.{find-with_other, find-without_none, find-without_same, find-with_value_none}

-- a slot that gave an id is one of those that were used
pub used_since : (given : List ℕ) (k g : ℕ) → g < get_or given k 0 → k < length given
used_since given k g h =
    elim (cases_lt k (length given)) [ inl t ↦ t | inr t ↦ absurd (let past = get_or_past given k 0 t in omega arith) ]

-- one more id of a slot, and of no other
pub get_or-issue_same : (given : List ℕ) (s : ℕ) → s ≤ length given → get_or (issue given s) s 0 ≡ get_or given s 0 + 1
get_or-issue_same given s h =
    elim (cases_lt s (length given)) [
      | inl t ↦ rw (lt-ltb s (length given) t) (get_or-set_same given s (get_or given s 0 + 1) 0 t)
      | inr t ↦ rw (le-ltb s (length given) t) (get_or_push given 1 0 s (omega arith) ∙ (let past = get_or_past given s 0 t in omega arith))
    ]

pub get_or-issue_other : (given : List ℕ) (s k : ℕ) → s ≤ length given → k ≢ s → get_or (issue given s) k 0 ≡ get_or given k 0
get_or-issue_other given s k h ne =
    elim (cases_lt s (length given)) [
      | inl t ↦ rw (lt-ltb s (length given) t) (get_or-set_other given s k (get_or given s 0 + 1) 0 ne)
      | inr t ↦ rw (le-ltb s (length given) t) (
          elim (cases_lt k (length given)) [
            | inl u ↦ get_or-append given (1 ∷ []) 0 k u
            | inr u ↦ get_or_past (given ++ 1 ∷ []) k 0 (let a = length-append given (1 ∷ []) in omega arith) ∙ sym (get_or_past given k 0 u)
          ])
    ]

pub issue_grows : (given : List ℕ) (s k : ℕ) → s ≤ length given → get_or given k 0 ≤ get_or (issue given s) k 0
issue_grows given s k h =
    elim (eqb_tells k s) [
      | inl t ↦ (let e = get_or-issue_same given s h in rw t.1 (omega arith))
      | inr t ↦ (let e = get_or-issue_other given s k h t.1 in omega arith)
    ]

pub length-issue : (given : List ℕ) (s : ℕ) → length given ≤ length (issue given s)
length-issue given s =
    elim (cases_lt s (length given)) [
      | inl t ↦ rw (lt-ltb s (length given) t, length-set) (omega arith)
      | inr t ↦ rw (le-ltb s (length given) t) (let a = length-append given (1 ∷ []) in omega arith)
    ]

-- each slot of a list is one of the first n
abbrev pub AreBelow : ℕ → List ℕ → Type 0
AreBelow n [] = Unit {0}
AreBelow n (x ∷ xs) = (x < n) × AreBelow n xs

pub AreBelow-more : (n m : ℕ) (xs : List ℕ) → n ≤ m → AreBelow n xs → AreBelow m xs
AreBelow-more n m [] h a = tt
AreBelow-more n m (x ∷ xs) h a = (omega (arith, a.0), AreBelow-more n m xs h a.1)

pub AreBelow-drop : (n : ℕ) (xs : List ℕ) → AreBelow n xs → AreBelow n (drop 1 xs)
AreBelow-drop n [] a = tt
AreBelow-drop n (x ∷ xs) a = a.1

-- where the next value goes
next_slot_low_of : (slots used s : ℕ) (freed : List ℕ) → used ≤ slots → AreBelow used freed → next_slot_of slots used freed ≡ Some s → (s < slots) × (s ≤ used)
next_slot_low_of slots used s [] h a e =
    elim (cases_lt used slots) [
      | inl t ↦ (let q : Some used ≡ Some s = rw (lt-ltb used slots t) at e in let same : used ≡ s = cc in (omega arith, omega arith))
      | inr t ↦ (let q : None ≡ Some s = rw (le-ltb used slots t) at e in cc)
    ]
next_slot_low_of slots used s (x ∷ xs) h a e = let same : x ≡ s = cc in (omega (arith, a.0), omega (arith, a.0))

module _ {T : Type 0} where
  -- each id of the map was issued
  abbrev pub AreIssued : List ℕ → List (ℕ × T) → Type 0
  AreIssued given [] = Unit {0}
  AreIssued given (e ∷ es) = (generation_of e.0 < get_or given (slot_of e.0) 0) × AreIssued given es

  AreIssued-issue : (given : List ℕ) (s : ℕ) (es : List (ℕ × T)) → s ≤ length given → AreIssued given es → AreIssued (issue given s) es
  AreIssued-issue given s [] h a = tt
  AreIssued-issue given s (e ∷ es) h a =
      ((let more = issue_grows given s (slot_of e.0) h in omega (arith, a.0)), AreIssued-issue given s es h a.1)

  AreIssued-with_entry : (given : List ℕ) (es : List (ℕ × T)) (id : ℕ) (v : T) → generation_of id < get_or given (slot_of id) 0 → AreIssued given es → AreIssued given (with_entry es id v)
  AreIssued-with_entry given [] id v h a = (h, tt)
  AreIssued-with_entry given (e ∷ es) id v h a =
      elim (cases_Bool (ltb (slot_of id) (slot_of e.0))) [
        | inl t ↦ rw t (h, a)
        | inr t ↦ rw t (a.0, AreIssued-with_entry given es id v h a.1)
      ]

  AreIssued-without_entry : (given : List ℕ) (es : List (ℕ × T)) (id : ℕ) → AreIssued given es → AreIssued given (without_entry es id)
  AreIssued-without_entry given [] id a = tt
  AreIssued-without_entry given (e ∷ es) id a =
      elim (cases_Bool (eqb e.0 id)) [
        | inl t ↦ rw t (AreIssued-without_entry given es id a.1)
        | inr t ↦ rw t (a.0, AreIssued-without_entry given es id a.1)
      ]

  AreIssued-with_value : (given : List ℕ) (es : List (ℕ × T)) (id : ℕ) (v : T) → AreIssued given es → AreIssued given (with_value es id v)
  AreIssued-with_value given [] id v a = tt
  AreIssued-with_value given (e ∷ es) id v a = (a.0, AreIssued-with_value given es id v a.1)

  -- an id in the map was issued
  pub issued_since : (given : List ℕ) (es : List (ℕ × T)) (id : ℕ) → AreIssued given es → IsSome (find es id) → generation_of id < get_or given (slot_of id) 0
  issued_since given [] id a there = cc
  issued_since given (e ∷ es) id a there =
      elim (eqb_tells e.0 id) [
        | inl t ↦ subst (λ x. generation_of x < get_or given (slot_of x) 0) t.1 a.0
        | inr t ↦ issued_since given es id a.1 (rw t.0 at there)
      ]

  -- what every table keeps, of what it gave
  pub record IsKept (t : Table T) : Type 0 where
    pub slots_high : t.slots ≤ 16777216
    pub used : length t.given ≤ t.slots
    pub freed_used : AreBelow (length t.given) t.freed
    pub issued : AreIssued t.given t.entries

  pub next_slot_low : (t : Table T) (s : ℕ) → IsKept t → next_slot t ≡ Some s → (s < t.slots) × (s ≤ length t.given)
  next_slot_low t s k e = next_slot_low_of t.slots (length t.given) s t.freed k.used k.freed_used e

  -- the id that a slot gives next was not issued
  pub not_issued : (t : Table T) (s : ℕ) → s < 16777216 → IsIssued t (id_at t s) → ⊥
  not_issued t s h i =
      let a = slot_of_id s (get_or t.given s 0) h in
      let b = generation_of_id s (get_or t.given s 0) h in
      let q : get_or t.given s 0 < get_or t.given s 0 = rw (a, b) at i in
      omega arith

  -- and it is issued once a value is inserted
  pub then_issued : (t : Table T) (s : ℕ) (v : T) → s < 16777216 → s ≤ length t.given → IsIssued (table_inserted t s v) (id_at t s)
  then_issued t s v h l =
      let e = get_or-issue_same t.given s l in
      rw (slot_of_id s (get_or t.given s 0) h, generation_of_id s (get_or t.given s 0) h, e) (omega arith)

  IsKept-inserted : (t : Table T) (s : ℕ) (v : T) → IsKept t → next_slot t ≡ Some s → IsKept (table_inserted t s v)
  IsKept-inserted t s v k e =
      let low = next_slot_low t s k e in
      let longer = length-issue t.given s in
      let new = then_issued t s v (let h = k.slots_high in omega (arith, low.0)) low.1 in
      record {
        slots_high = k.slots_high;
        used = (elim (cases_lt s (length t.given)) [
          | inl u ↦ rw (lt-ltb s (length t.given) u, length-set) k.used
          | inr u ↦ rw (le-ltb s (length t.given) u) (let a = length-append t.given (1 ∷ []) in omega (arith, low.0))
        ]);
        freed_used = AreBelow-more (length t.given) (length (issue t.given s)) (drop 1 t.freed) longer (AreBelow-drop (length t.given) t.freed k.freed_used);
        issued = AreIssued-with_entry (issue t.given s) t.entries (id_at t s) v new (AreIssued-issue t.given s t.entries low.1 k.issued);
      }

  IsKept-removed : (t : Table T) (id : ℕ) → IsKept t → IsKept (table_removed t id)
  IsKept-removed t id k = go (find t.entries id) refl
    where
      go : (o : Option T) → find t.entries id ≡ o → IsKept (table_removed t id)
      go None e = rw e k
      go (Some v) e =
          let there : IsSome (find t.entries id) = rw e cc in
          let used = used_since t.given (slot_of id) (generation_of id) (issued_since t.given t.entries id k.issued there) in
          rw e (record {
            slots_high = k.slots_high;
            used = k.used;
            freed_used = (elim (cases_Bool (leb (get_or t.given (slot_of id) 0) t.last_generation)) [ inl u ↦ rw u (used, k.freed_used) | inr u ↦ rw u k.freed_used ]);
            issued = AreIssued-without_entry t.given t.entries id k.issued;
          })

  pub IsKept-after : (t : Table T) (change : Change T) → IsKept t → IsKept (after t change)
  IsKept-after t (Insert v) k = go (next_slot t) refl
    where
      go : (o : Option ℕ) → next_slot t ≡ o → IsKept (after t (Insert v))
      go None e = rw e k
      go (Some s) e = rw e (IsKept-inserted t s v k e)
  IsKept-after t (Remove id) k = IsKept-removed t id k
  IsKept-after t (Write id v) k = record {
    slots_high = k.slots_high;
    used = k.used;
    freed_used = k.freed_used;
    issued = AreIssued-with_value t.given t.entries id v k.issued;
  }

  -- an id that was issued stays so
  given_grows : (t : Table T) (change : Change T) (k : ℕ) → IsKept t → get_or t.given k 0 ≤ get_or (after t change).given k 0
  given_grows t (Insert v) j k = go (next_slot t) refl
    where
      go : (o : Option ℕ) → next_slot t ≡ o → get_or t.given j 0 ≤ get_or (after t (Insert v)).given j 0
      go None e = rw e (omega arith)
      go (Some s) e = rw e (issue_grows t.given s j (next_slot_low t s k e).1)
  given_grows t (Remove id) j k = go (find t.entries id) refl
    where
      go : (o : Option T) → find t.entries id ≡ o → get_or t.given j 0 ≤ get_or (table_removed t id).given j 0
      go None e = rw e (omega arith)
      go (Some v) e = rw e (omega arith)
  given_grows t (Write id v) j k = omega arith

  stays_issued : (t : Table T) (change : Change T) (id : ℕ) → IsKept t → IsIssued t id → IsIssued (after t change) id
  stays_issued t change id k i = let more = given_grows t change (slot_of id) k in omega arith

  -- an id that was issued and is not in the map stays out of it
  stays_absent : (t : Table T) (change : Change T) (id : ℕ) → IsKept t → IsIssued t id → find t.entries id ≡ None → find (after t change).entries id ≡ None
  stays_absent t (Insert v) id k i none = go (next_slot t) refl
    where
      go : (o : Option ℕ) → next_slot t ≡ o → find (after t (Insert v)).entries id ≡ None
      go None e = rw e none
      go (Some s) e =
          let low = next_slot_low t s k e in
          let new : id ≢ id_at t s = λ q. not_issued t s (let h = k.slots_high in omega (arith, low.0)) (subst (λ x. IsIssued t x) q i) in
          rw e (find-with_other t.entries (id_at t s) id v new ∙ none)
  stays_absent t (Remove j) id k i none = go (find t.entries j) refl
    where
      go : (o : Option T) → find t.entries j ≡ o → find (table_removed t j).entries id ≡ None
      go None e = rw e none
      go (Some v) e = rw e (find-without_none t.entries j id none)
  stays_absent t (Write j v) id k i none = find-with_value_none t.entries j id v none

  -- the limits never change
  slots-after : (t : Table T) (change : Change T) → (after t change).slots ≡ t.slots
  slots-after t (Insert v) = go (next_slot t) refl
    where
      go : (o : Option ℕ) → next_slot t ≡ o → (after t (Insert v)).slots ≡ t.slots
      go None e = rw e refl
      go (Some s) e = rw e refl
  slots-after t (Remove id) = go (find t.entries id) refl
    where
      go : (o : Option T) → find t.entries id ≡ o → (table_removed t id).slots ≡ t.slots
      go None e = rw e refl
      go (Some v) e = rw e refl
  slots-after t (Write id v) = refl

  last-after : (t : Table T) (change : Change T) → (after t change).last_generation ≡ t.last_generation
  last-after t (Insert v) = go (next_slot t) refl
    where
      go : (o : Option ℕ) → next_slot t ≡ o → (after t (Insert v)).last_generation ≡ t.last_generation
      go None e = rw e refl
      go (Some s) e = rw e refl
  last-after t (Remove id) = go (find t.entries id) refl
    where
      go : (o : Option T) → find t.entries id ≡ o → (table_removed t id).last_generation ≡ t.last_generation
      go None e = rw e refl
      go (Some v) e = rw e refl
  last-after t (Write id v) = refl

  pub slots-after_all : (t : Table T) (changes : List (Change T)) → (after_all t changes).slots ≡ t.slots
  slots-after_all t [] = refl
  slots-after_all t (change ∷ changes) = slots-after_all (after t change) changes ∙ slots-after t change

  pub last-after_all : (t : Table T) (changes : List (Change T)) → (after_all t changes).last_generation ≡ t.last_generation
  last-after_all t [] = refl
  last-after_all t (change ∷ changes) = last-after_all (after t change) changes ∙ last-after t change

  pub issued_for_good : (t : Table T) (changes : List (Change T)) (id : ℕ) → IsKept t → IsIssued t id → IsIssued (after_all t changes) id
  issued_for_good t [] id k i = i
  issued_for_good t (change ∷ changes) id k i =
      issued_for_good (after t change) changes id (IsKept-after t change k) (stays_issued t change id k i)

  pub absent_for_good : (t : Table T) (changes : List (Change T)) (id : ℕ) → IsKept t → IsIssued t id → find t.entries id ≡ None → find (after_all t changes).entries id ≡ None
  absent_for_good t [] id k i none = none
  absent_for_good t (change ∷ changes) id k i none =
      absent_for_good (after t change) changes id (IsKept-after t change k) (stays_issued t change id k i) (stays_absent t change id k i none)

  -- a removal takes the id out of the map
  pub absent-removed : (t : Table T) (id : ℕ) → find (table_removed t id).entries id ≡ None
  absent-removed t id = go (find t.entries id) refl
    where
      go : (o : Option T) → find t.entries id ≡ o → find (table_removed t id).entries id ≡ None
      go None e = rw e e
      go (Some v) e = rw e (find-without_same t.entries id)

  pub removed_for_good : (t : Table T) (changes : List (Change T)) (id : ℕ) → IsKept t → IsSome (find t.entries id) → find (after_all (after t (Remove id)) changes).entries id ≡ None
  removed_for_good t changes id k there =
      absent_for_good (table_removed t id) changes id (IsKept-removed t id k) (stays_issued t (Remove id) id k (issued_since t.given t.entries id k.issued there)) (absent-removed t id)

  -- inserting issues the new id and no other
  pub issued-inserted : (t : Table T) (s id : ℕ) (v : T) → IsId id → s < 16777216 → s ≤ length t.given → IsIssued (table_inserted t s v) id ↔ (IsIssued t id ⊎ (id_at t s ≡ id))
  issued-inserted t s id v layout h l = (
    λ i. elim (eqb_tells (slot_of id) s) [
      | inl u ↦ (
          let same = get_or-issue_same t.given s l in
          let at : generation_of id < get_or t.given s 0 + 1 = rw (u.1, same) at i in
          let again = id_again id layout in
          elim (cases_lt (generation_of id) (get_or t.given s 0)) [
            | inl w ↦ inl (rw u.1 w)
            | inr w ↦ inr (let g : generation_of id ≡ get_or t.given s 0 = omega arith in sym (ap (λ x. id_of s x) g) ∙ (sym (ap (λ x. id_of x (generation_of id)) u.1) ∙ again))
          ])
      | inr u ↦ inl (let other = get_or-issue_other t.given s (slot_of id) l u.1 in omega (arith, i))
    ],
    elim [
      | inl i ↦ (let more = issue_grows t.given s (slot_of id) l in omega (arith, i))
      | inr e ↦ subst (λ x. IsIssued (table_inserted t s v) x) e (then_issued t s v h l)
    ],
  )
