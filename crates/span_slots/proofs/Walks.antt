-- The ids of a table one after another, by their slots.
use Rattle.std.proofs.Common.{◌≡◌, ℕ, zero, suc, ◌+◌, ◌-◌, ◌<◌, ◌≤◌, true, false, leb, List, [], ◌∷◌, length, get_or, map, Option, Some, None, is_some, refl, sym, ap, subst, ◌∙◌, inl, inr, arith}
use Rattle.std.proofs.lemmas.List.{length-map}
use Rattle.std.proofs.lemmas.Bool.{cases_Bool}
use Rattle.std.proofs.lemmas.Bool.Decides.{nat_tests}
use Rattle.span_id.specs.Id.{id_of, slot_of}
use Rattle.span_slots.specs.Table.{id_from, ids_from}
use Rattle.span_slots.specs.declared.cells.Cell.{Cell}
use Rattle.span_slots.specs.inside.Cells.{row_of}
use Rattle.span_slots.specs.inside.Rows.{entries_from}
use Rattle.span_slots.proofs.Ids.{slot_of_id}
use Rattle.span_slots.proofs.CellLemmas.{row_at, le-leb, lt-leb_false}
use Rattle.span_slots.proofs.Described.{AreAscending}

leb-le : (a b : ℕ) → leb a b ≡ true → a ≤ b
leb-le a b h = grind (arith, nat_tests)

leb_false : (a b : ℕ) → leb a b ≡ false → b < a
leb_false a b h = grind (arith, nat_tests)

module _ {T : Type 0} where
  -- the id of the first entry
  abbrev first_id : List (ℕ × T) → Option ℕ
  first_id [] = None
  first_id (e ∷ es) = Some e.0

  from_the_first : (rows : List (ℕ × Option T)) (b slot : ℕ) → b + length rows ≤ 16777216 → slot ≤ b → id_from (entries_from b rows) slot ≡ first_id (entries_from b rows)
  from_the_first [] b slot h l = refl
  from_the_first ((g, None) ∷ rest) b slot h l = from_the_first rest (b + 1) slot (omega arith) (omega arith)
  from_the_first ((g, Some v) ∷ rest) b slot h l =
      rw (slot_of_id b (g - 1) (omega arith), le-leb slot b l) refl

  -- from a row with no value on it goes on at the next one
  from_none : (rows : List (ℕ × Option T)) (b k slot g : ℕ) (d : ℕ × Option T) → b + length rows ≤ 16777216 → slot ≡ b + k → k < length rows → get_or rows k d ≡ (g, None) → id_from (entries_from b rows) slot ≡ id_from (entries_from b rows) (slot + 1)
  from_none [] b k slot g d h e l q = absurd (omega arith)
  from_none (row ∷ rest) b zero slot g d h e l q =
      let P : ℕ × Option T → Type 0 = λ x. id_from (entries_from b (x ∷ rest)) slot ≡ id_from (entries_from b (x ∷ rest)) (slot + 1) in
      subst P (sym q) (from_the_first rest (b + 1) slot (omega arith) (omega arith) ∙ sym (from_the_first rest (b + 1) (slot + 1) (omega arith) (omega arith)))
  from_none ((g1, None) ∷ rest) b (suc k) slot g d h e l q = from_none rest (b + 1) k slot g d (omega arith) (omega arith) (omega arith) q
  from_none ((g1, Some v) ∷ rest) b (suc k) slot g d h e l q =
      let r = from_none rest (b + 1) k slot g d (omega arith) (omega arith) (omega arith) q in
      rw (slot_of_id b (g1 - 1) (omega arith), lt-leb_false b slot (omega arith), lt-leb_false b (slot + 1) (omega arith)) r

  from_some : (rows : List (ℕ × Option T)) (b k slot g : ℕ) (v : T) (d : ℕ × Option T) → b + length rows ≤ 16777216 → slot ≡ b + k → k < length rows → get_or rows k d ≡ (g, Some v) → id_from (entries_from b rows) slot ≡ Some (id_of slot (g - 1))
  from_some [] b k slot g v d h e l q = absurd (omega arith)
  from_some (row ∷ rest) b zero slot g v d h e l q =
      let same : slot ≡ b = omega arith in
      let P : ℕ × Option T → Type 0 = λ x. id_from (entries_from b (x ∷ rest)) b ≡ Some (id_of b (g - 1)) in
      rw same (subst P (sym q) (rw (slot_of_id b (g - 1) (omega arith), le-leb b b (omega arith)) refl))
  from_some ((g1, None) ∷ rest) b (suc k) slot g v d h e l q = from_some rest (b + 1) k slot g v d (omega arith) (omega arith) (omega arith) q
  from_some ((g1, Some v1) ∷ rest) b (suc k) slot g v d h e l q =
      let r = from_some rest (b + 1) k slot g v d (omega arith) (omega arith) (omega arith) q in
      rw (slot_of_id b (g1 - 1) (omega arith), lt-leb_false b slot (omega arith)) r

  from_past : (rows : List (ℕ × Option T)) (b slot : ℕ) → b + length rows ≤ 16777216 → b + length rows ≤ slot → id_from (entries_from b rows) slot ≡ None
  from_past [] b slot h l = refl
  from_past ((g, None) ∷ rest) b slot h l = from_past rest (b + 1) slot (omega arith) (omega arith)
  from_past ((g, Some v) ∷ rest) b slot h l =
      let r = from_past rest (b + 1) slot (omega arith) (omega arith) in
      rw (slot_of_id b (g - 1) (omega arith), lt-leb_false b slot (omega arith)) r

  -- the same of the cells
  pub from_empty : (cells : List (Cell T)) (k : ℕ) (cell : Cell T) → length cells ≤ 16777216 → k < length cells → cell ≡ get_or cells k cell → is_some cell.value ≡ false → id_from (entries_from 0 (map row_of cells)) k ≡ id_from (entries_from 0 (map row_of cells)) (k + 1)
  from_empty cells k cell n l e none = go cell.value refl
    where
      go : (o : Option T) → cell.value ≡ o → id_from (entries_from 0 (map row_of cells)) k ≡ id_from (entries_from 0 (map row_of cells)) (k + 1)
      go None q =
          let row : get_or (map row_of cells) k (0, None) ≡ (cell.given, None) = row_at cells k cell l e ∙ ap (λ x. (cell.given, x)) q in
          from_none (map row_of cells) 0 k k cell.given (0, None) (omega (arith, n, length-map cells row_of)) (omega arith) (omega (arith, l, length-map cells row_of)) row
      go (Some v) q = absurd (let same = rw q at none in cc)

  pub from_full : (cells : List (Cell T)) (k : ℕ) (cell : Cell T) → length cells ≤ 16777216 → k < length cells → cell ≡ get_or cells k cell → is_some cell.value ≡ true → id_from (entries_from 0 (map row_of cells)) k ≡ Some (id_of k (cell.given - 1))
  from_full cells k cell n l e some = go cell.value refl
    where
      go : (o : Option T) → cell.value ≡ o → id_from (entries_from 0 (map row_of cells)) k ≡ Some (id_of k (cell.given - 1))
      go None q = absurd (let same = rw q at some in cc)
      go (Some v) q =
          let row : get_or (map row_of cells) k (0, None) ≡ (cell.given, Some v) = row_at cells k cell l e ∙ ap (λ x. (cell.given, x)) q in
          from_some (map row_of cells) 0 k k cell.given v (0, None) (omega (arith, n, length-map cells row_of)) (omega arith) (omega (arith, l, length-map cells row_of)) row

  pub from_end : (cells : List (Cell T)) (k : ℕ) → length cells ≤ 16777216 → length cells ≤ k → id_from (entries_from 0 (map row_of cells)) k ≡ None
  from_end cells k n l = from_past (map row_of cells) 0 k (omega (arith, n, length-map cells row_of)) (omega (arith, l, length-map cells row_of))

  -- a walk over ascending entries
  pub walk_all : (es : List (ℕ × T)) → ids_from es 0 ≡ map (λ e. e.0) es
  walk_all [] = refl
  walk_all (e ∷ es) = rw (le-leb 0 (slot_of e.0) (omega arith), walk_all es) refl

  all_above : (es : List (ℕ × T)) (low slot : ℕ) → AreAscending low es → slot ≤ low → ids_from es slot ≡ map (λ e. e.0) es
  all_above [] low slot a l = refl
  all_above (e ∷ es) low slot a l =
      rw (le-leb slot (slot_of e.0) (omega (arith, a.0)), all_above es (slot_of e.0 + 1) slot a.1 (omega (arith, a.0))) refl

  from_low : (es : List (ℕ × T)) (slot id : ℕ) → id_from es slot ≡ Some id → slot ≤ slot_of id
  from_low [] slot id h = cc
  from_low (e ∷ es) slot id h =
      elim (cases_Bool (leb slot (slot_of e.0))) [
        | inl t ↦ (let same : Some e.0 ≡ Some id = rw t at h in
            let is : e.0 ≡ id = cc in
            subst (λ x. slot ≤ slot_of x) is (leb-le slot (slot_of e.0) t))
        | inr t ↦ from_low es slot id (rw t at h)
      ]

  pub walk_next : (es : List (ℕ × T)) (low slot id : ℕ) → AreAscending low es → id_from es slot ≡ Some id → ids_from es slot ≡ id ∷ ids_from es (slot_of id + 1)
  walk_next [] low slot id a h = cc
  walk_next (e ∷ es) low slot id a h =
      elim (cases_Bool (leb slot (slot_of e.0))) [
        | inl t ↦ (let same : Some e.0 ≡ Some id = rw t at h in
            let is : e.0 ≡ id = cc in
            let here = all_above es (slot_of e.0 + 1) slot a.1 (let l = leb-le slot (slot_of e.0) t in omega arith) in
            let after = all_above es (slot_of e.0 + 1) (slot_of e.0 + 1) a.1 (omega arith) in
            rw (← is, t, lt-leb_false (slot_of e.0) (slot_of e.0 + 1) (omega arith), here, after) refl)
        | inr t ↦ (let r = walk_next es (slot_of e.0 + 1) slot id a.1 (rw t at h) in
            let l = from_low es slot id (rw t at h) in
            let m = leb_false slot (slot_of e.0) t in
            rw (t, lt-leb_false (slot_of e.0) (slot_of id + 1) (omega arith)) r)
      ]

  pub walk_end : (es : List (ℕ × T)) (slot : ℕ) → id_from es slot ≡ None → ids_from es slot ≡ []
  walk_end [] slot h = refl
  walk_end (e ∷ es) slot h =
      elim (cases_Bool (leb slot (slot_of e.0))) [
        | inl t ↦ (let bad : Some e.0 ≡ None = rw t at h in cc)
        | inr t ↦ rw t (walk_end es slot (rw t at h))
      ]
