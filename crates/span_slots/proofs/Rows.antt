-- The rows of a table against its entries.
use Rattle.std.proofs.Common.{◌≡◌, ◌≢◌, ℕ, zero, suc, ◌+◌, ◌-◌, ◌<◌, ◌≤◌, true, false, cond, eqb, ltb, List, [], ◌∷◌, ◌++◌, length, get_or, set, take, Option, Some, None, refl, sym, ap, subst, ◌∙◌, inl, inr, arith}
use Rattle.std.proofs.lemmas.Bool.Decides.{nat_tests, eqb_tells}
use Rattle.std.proofs.lemmas.Bool.{eq-eqb, ne_eqb, cases_Bool}
use Rattle.span_id.specs.Id.{id_of, slot_of, generation_of, IsId}
use Rattle.span_slots.specs.Table.{find, with_entry, without_entry, with_value}
use Rattle.span_slots.specs.inside.Rows.{entries_from, IsGoodRow, AreGoodRows, is_free, free_rows, free_at, times_in}
use Rattle.span_slots.proofs.Ids.{slot_of_id, id_again, ids_differ}

other_slot : (b g s j : ℕ) → b < 16777216 → s < 16777216 → b < s → eqb (id_of b g) (id_of s j) ≡ false
other_slot b g s j h k l = ne_eqb (id_of b g) (id_of s j) (λ e. let q : b ≡ s = sym (slot_of_id b g h) ∙ (ap slot_of e ∙ slot_of_id s j k) in omega arith)

ids_differ_back : (b g s j : ℕ) → b < 16777216 → s < 16777216 → s < b → eqb (id_of b g) (id_of s j) ≡ false
ids_differ_back b g s j h k l = ne_eqb (id_of b g) (id_of s j) (λ e. let q : b ≡ s = sym (slot_of_id b g h) ∙ (ap slot_of e ∙ slot_of_id s j k) in omega arith)

later_slot : (b g s j : ℕ) → b < 16777216 → s < 16777216 → b < s → ltb (slot_of (id_of s j)) (slot_of (id_of b g)) ≡ false
later_slot b g s j h k l = rw (slot_of_id s j k, slot_of_id b g h) (grind (arith, nat_tests))

earlier_slot : (b g s j : ℕ) → b < 16777216 → s < 16777216 → s < b → ltb (slot_of (id_of s j)) (slot_of (id_of b g)) ≡ true
earlier_slot b g s j h k l = rw (slot_of_id s j k, slot_of_id b g h) (grind (arith, nat_tests))

module _ {T : Type 0} where
  -- what a row says of an id of its slot
  abbrev pub row_value : ℕ × Option T → ℕ → Option T
  row_value row generation = cond (eqb row.0 (generation + 1)) row.1 None

  pub row_none : (g generation : ℕ) → row_value (g, None) generation ≡ None
  row_none g generation = elim (cases_Bool (eqb g (generation + 1))) [ inl t ↦ rw t refl | inr t ↦ rw t refl ]

  pub value_below : (rows : List (ℕ × Option T)) (b id : ℕ) → b + length rows ≤ 16777216 → slot_of id < b → find (entries_from b rows) id ≡ None
  value_below [] b id h l = refl
  value_below ((g, None) ∷ rest) b id h l = value_below rest (b + 1) id (omega arith) (omega arith)
  value_below ((g, Some v) ∷ rest) b id h l =
      rw (ids_differ b (g - 1) id (omega arith) (omega arith)) (value_below rest (b + 1) id (omega arith) (omega arith))

  value_here : (es : List (ℕ × T)) (b g id : ℕ) (v : T) → IsId id → 0 < g → slot_of id ≡ b → find es id ≡ None → cond (eqb (id_of b (g - 1)) id) (Some v) (find es id) ≡ cond (eqb g (generation_of id + 1)) (Some v) None
  value_here es b g id v i p e none =
      elim (eqb_tells g (generation_of id + 1)) [
        | inl t ↦ (let q : id_of b (g - 1) ≡ id = (let r = id_again id i in omega (arith, t.1)) in rw (t.0, eq-eqb (id_of b (g - 1)) id q) refl)
        | inr t ↦ (let q : id_of b (g - 1) ≢ id = λ u. t.1 (let r = id_again id i in omega arith) in rw (t.0, ne_eqb (id_of b (g - 1)) id q, none) refl)
      ]

  pub found_in_rows : (last : ℕ) (rows : List (ℕ × Option T)) (b k id : ℕ) → IsId id → AreGoodRows last rows → b + length rows ≤ 16777216 → slot_of id ≡ b + k → find (entries_from b rows) id ≡ row_value (get_or rows k (0, None)) (generation_of id)
  found_in_rows last [] b k id i a h e = rw (ne_eqb 0 (generation_of id + 1) (λ q. absurd (omega arith))) refl
  found_in_rows last ((g, None) ∷ rest) b zero id i a h e =
      value_below rest (b + 1) id (omega arith) (omega arith) ∙ sym (row_none g (generation_of id))
  found_in_rows last ((g, None) ∷ rest) b (suc k) id i a h e = found_in_rows last rest (b + 1) k id i a.1 (omega arith) (omega arith)
  found_in_rows last ((g, Some v) ∷ rest) b zero id i a h e =
      value_here (entries_from (b + 1) rest) b g id v i a.0.0 (omega arith) (value_below rest (b + 1) id (omega arith) (omega arith))
  found_in_rows last ((g, Some v) ∷ rest) b (suc k) id i a h e =
      rw (ids_differ b (g - 1) id (omega arith) (omega arith)) (found_in_rows last rest (b + 1) k id i a.1 (omega arith) (omega arith))

  without_below : (rows : List (ℕ × Option T)) (b s g : ℕ) → b + length rows ≤ 16777216 → s < b → without_entry (entries_from b rows) (id_of s g) ≡ entries_from b rows
  without_below [] b s g h l = refl
  without_below ((g1, None) ∷ rest) b s g h l = without_below rest (b + 1) s g (omega arith) (omega arith)
  without_below ((g1, Some v1) ∷ rest) b s g h l =
      let r = without_below rest (b + 1) s g (omega arith) (omega arith) in
      rw (ids_differ_back b (g1 - 1) s g (omega arith) (omega arith) l, r) refl

  with_below : (rows : List (ℕ × Option T)) (b s g : ℕ) (w : T) → b + length rows ≤ 16777216 → s < b → with_entry (entries_from b rows) (id_of s g) w ≡ (id_of s g, w) ∷ entries_from b rows
  with_below [] b s g w h l = refl
  with_below ((g1, None) ∷ rest) b s g w h l = with_below rest (b + 1) s g w (omega arith) (omega arith)
  with_below ((g1, Some v1) ∷ rest) b s g w h l = rw (earlier_slot b (g1 - 1) s g (omega arith) (omega arith) l) refl

  -- the row k loses its value
  pub without_rows : (rows : List (ℕ × Option T)) (b k s g : ℕ) (v : T) (d : ℕ × Option T) → b + length rows ≤ 16777216 → s ≡ b + k → k < length rows → get_or rows k d ≡ (g, Some v) → without_entry (entries_from b rows) (id_of s (g - 1)) ≡ entries_from b (set rows k (g, None))
  without_rows [] b k s g v d h e l q = absurd (omega arith)
  without_rows (row ∷ rest) b zero s g v d h e l q =
      let same : s ≡ b = omega arith in
      let own = eq-eqb (id_of b (g - 1)) (id_of b (g - 1)) refl in
      let r = without_below rest (b + 1) b (g - 1) (omega arith) (omega arith) in
      let P : ℕ × Option T → Type 0 = λ x. without_entry (entries_from b (x ∷ rest)) (id_of b (g - 1)) ≡ entries_from b ((g, None) ∷ rest) in
      rw same (subst P (sym q) (rw own r))
  without_rows ((g1, None) ∷ rest) b (suc k) s g v d h e l q = without_rows rest (b + 1) k s g v d (omega arith) (omega arith) (omega arith) q
  without_rows ((g1, Some v1) ∷ rest) b (suc k) s g v d h e l q =
      let r = without_rows rest (b + 1) k s g v d (omega arith) (omega arith) (omega arith) q in
      rw (other_slot b (g1 - 1) s (g - 1) (omega arith) (omega arith) (omega arith), r) refl

  -- the row k gets a value
  pub with_rows : (rows : List (ℕ × Option T)) (b k s g : ℕ) (w : T) (d : ℕ × Option T) → b + length rows ≤ 16777216 → s ≡ b + k → k < length rows → get_or rows k d ≡ (g, None) → with_entry (entries_from b rows) (id_of s g) w ≡ entries_from b (set rows k (g + 1, Some w))
  with_rows [] b k s g w d h e l q = absurd (omega arith)
  with_rows (row ∷ rest) b zero s g w d h e l q =
      let same : s ≡ b = omega arith in let n : g + 1 - 1 ≡ g = omega arith in
      let r = with_below rest (b + 1) b g w (omega arith) (omega arith) in
      let P : ℕ × Option T → Type 0 = λ x. with_entry (entries_from b (x ∷ rest)) (id_of b g) w ≡ entries_from b ((g + 1, Some w) ∷ rest) in
      rw same (subst P (sym q) (rw n r))
  with_rows ((g1, None) ∷ rest) b (suc k) s g w d h e l q = with_rows rest (b + 1) k s g w d (omega arith) (omega arith) (omega arith) q
  with_rows ((g1, Some v1) ∷ rest) b (suc k) s g w d h e l q =
      let r = with_rows rest (b + 1) k s g w d (omega arith) (omega arith) (omega arith) q in
      rw (later_slot b (g1 - 1) s g (omega arith) (omega arith) (omega arith), r) refl

  pub push_rows : (rows : List (ℕ × Option T)) (b s : ℕ) (w : T) → b + length rows < 16777216 → s ≡ b + length rows → with_entry (entries_from b rows) (id_of s 0) w ≡ entries_from b (rows ++ (1, Some w) ∷ [])
  push_rows [] b s w h e = let same : s ≡ b = omega arith in rw same refl
  push_rows ((g1, None) ∷ rest) b s w h e = push_rows rest (b + 1) s w (omega arith) (omega arith)
  push_rows ((g1, Some v1) ∷ rest) b s w h e =
      let r = push_rows rest (b + 1) s w (omega arith) (omega arith) in
      rw (later_slot b (g1 - 1) s 0 (omega arith) (omega arith) (omega arith), r) refl

  pub length-entries_set_none : (rows : List (ℕ × Option T)) (b k g j : ℕ) (v : T) (d : ℕ × Option T) → k < length rows → get_or rows k d ≡ (g, Some v) → length (entries_from b (set rows k (j, None))) + 1 ≡ length (entries_from b rows)
  length-entries_set_none [] b k g j v d l q = absurd (omega arith)
  length-entries_set_none (row ∷ rest) b zero g j v d l q =
      let P : ℕ × Option T → Type 0 = λ x. length (entries_from (b + 1) rest) + 1 ≡ length (entries_from b (x ∷ rest)) in
      subst P (sym q) (omega arith)
  length-entries_set_none ((g1, None) ∷ rest) b (suc k) g j v d l q = length-entries_set_none rest (b + 1) k g j v d (omega arith) q
  length-entries_set_none ((g1, Some v1) ∷ rest) b (suc k) g j v d l q = let r = length-entries_set_none rest (b + 1) k g j v d (omega arith) q in omega arith

  pub length-entries_set_some : (rows : List (ℕ × Option T)) (b k g j : ℕ) (w : T) (d : ℕ × Option T) → k < length rows → get_or rows k d ≡ (g, None) → length (entries_from b (set rows k (j, Some w))) ≡ length (entries_from b rows) + 1
  length-entries_set_some [] b k g j v d l q = absurd (omega arith)
  length-entries_set_some (row ∷ rest) b zero g j v d l q =
      let P : ℕ × Option T → Type 0 = λ x. suc (length (entries_from (b + 1) rest)) ≡ length (entries_from b (x ∷ rest)) + 1 in
      subst P (sym q) (omega arith)
  length-entries_set_some ((g1, None) ∷ rest) b (suc k) g j v d l q = length-entries_set_some rest (b + 1) k g j v d (omega arith) q
  length-entries_set_some ((g1, Some v1) ∷ rest) b (suc k) g j v d l q = let r = length-entries_set_some rest (b + 1) k g j v d (omega arith) q in omega arith

  pub length-entries_push : (rows : List (ℕ × Option T)) (b g : ℕ) (w : T) → length (entries_from b (rows ++ (g, Some w) ∷ [])) ≡ length (entries_from b rows) + 1
  length-entries_push [] b g w = refl
  length-entries_push ((g1, None) ∷ rest) b g w = length-entries_push rest (b + 1) g w
  length-entries_push ((g1, Some v1) ∷ rest) b g w = let r = length-entries_push rest (b + 1) g w in omega arith

  -- how a write to a row changes which rows are free
  pub free_rows-set : (last : ℕ) (rows : List (ℕ × Option T)) (k : ℕ) (new d : ℕ × Option T) → k < length rows → free_rows last (set rows k new) + cond (is_free last (get_or rows k d)) 1 0 ≡ free_rows last rows + cond (is_free last new) 1 0
  free_rows-set last [] k new d l = absurd (omega arith)
  free_rows-set last (row ∷ rest) zero new d l = omega arith
  free_rows-set last (row ∷ rest) (suc k) new d l = let r = free_rows-set last rest k new d (omega arith) in omega arith

  pub free_at-set_same : (last : ℕ) (rows : List (ℕ × Option T)) (k : ℕ) (new : ℕ × Option T) → k < length rows → free_at last (set rows k new) k ≡ cond (is_free last new) 1 0
  free_at-set_same last [] k new l = absurd (omega arith)
  free_at-set_same last (row ∷ rest) zero new l = refl
  free_at-set_same last (row ∷ rest) (suc k) new l = free_at-set_same last rest k new (omega arith)

  pub free_at-set_other : (last : ℕ) (rows : List (ℕ × Option T)) (k j : ℕ) (new : ℕ × Option T) → j ≢ k → free_at last (set rows k new) j ≡ free_at last rows j
  free_at-set_other last [] k j new ne = refl
  free_at-set_other last (row ∷ rest) zero zero new ne = absurd (ne refl)
  free_at-set_other last (row ∷ rest) zero (suc j) new ne = refl
  free_at-set_other last (row ∷ rest) (suc k) zero new ne = refl
  free_at-set_other last (row ∷ rest) (suc k) (suc j) new ne = free_at-set_other last rest k j new (λ e. ne (ap suc e))

  pub free_at_row : (last : ℕ) (rows : List (ℕ × Option T)) (k : ℕ) (d : ℕ × Option T) → 0 < free_at last rows k → (k < length rows) × (is_free last (get_or rows k d) ≡ true)
  free_at_row last [] k d h = absurd (omega arith)
  free_at_row last (row ∷ rest) zero d h = elim (cases_Bool (is_free last row)) [ inl t ↦ (omega arith, t) | inr t ↦ absurd (let q = rw t at h in omega arith) ]
  free_at_row last (row ∷ rest) (suc k) d h = let r = free_at_row last rest k d h in (omega arith, r.1)

  pub row_free_at : (last : ℕ) (rows : List (ℕ × Option T)) (k : ℕ) (d : ℕ × Option T) → k < length rows → free_at last rows k ≡ cond (is_free last (get_or rows k d)) 1 0
  row_free_at last [] k d h = absurd (omega arith)
  row_free_at last (row ∷ rest) zero d h = refl
  row_free_at last (row ∷ rest) (suc k) d h = row_free_at last rest k d (omega arith)

  pub free_at-push : (last : ℕ) (rows : List (ℕ × Option T)) (g j : ℕ) (w : T) → free_at last (rows ++ (g, Some w) ∷ []) j ≡ free_at last rows j
  free_at-push last [] g zero w = refl
  free_at-push last [] g (suc j) w = refl
  free_at-push last (row ∷ rest) g zero w = refl
  free_at-push last (row ∷ rest) g (suc j) w = free_at-push last rest g j w

  pub free_rows-push : (last : ℕ) (rows : List (ℕ × Option T)) (g : ℕ) (w : T) → free_rows last (rows ++ (g, Some w) ∷ []) ≡ free_rows last rows
  free_rows-push last [] g w = refl
  free_rows-push last (row ∷ rest) g w = let r = free_rows-push last rest g w in omega arith

  pub AreGoodRows-set : (last : ℕ) (rows : List (ℕ × Option T)) (k : ℕ) (new : ℕ × Option T) → IsGoodRow last new → AreGoodRows last rows → AreGoodRows last (set rows k new)
  AreGoodRows-set last [] k new h a = tt
  AreGoodRows-set last (row ∷ rest) zero new h a = (h, a.1)
  AreGoodRows-set last (row ∷ rest) (suc k) new h a = (a.0, AreGoodRows-set last rest k new h a.1)

  pub AreGoodRows-push : (last : ℕ) (rows : List (ℕ × Option T)) (new : ℕ × Option T) → IsGoodRow last new → AreGoodRows last rows → AreGoodRows last (rows ++ new ∷ [])
  AreGoodRows-push last [] new h a = (h, tt)
  AreGoodRows-push last (row ∷ rest) new h a = (a.0, AreGoodRows-push last rest new h a.1)

  pub good_row : (last : ℕ) (rows : List (ℕ × Option T)) (k : ℕ) (d : ℕ × Option T) → k < length rows → AreGoodRows last rows → IsGoodRow last (get_or rows k d)
  good_row last [] k d h a = absurd (omega arith)
  good_row last (row ∷ rest) zero d h a = a.0
  good_row last (row ∷ rest) (suc k) d h a = good_row last rest k d (omega arith) a.1

  pub free_rows-le-length : (last : ℕ) (rows : List (ℕ × Option T)) → free_rows last rows ≤ length rows
  free_rows-le-length last [] = omega arith
  free_rows-le-length last (row ∷ rest) =
      let r = free_rows-le-length last rest in
      elim (cases_Bool (is_free last row)) [ inl t ↦ rw t (omega arith) | inr t ↦ rw t (omega arith) ]

  -- a row that holds a value leaves a place among the free ones
  pub free_rows_less : (last : ℕ) (rows : List (ℕ × Option T)) (k : ℕ) (d : ℕ × Option T) → k < length rows → is_free last (get_or rows k d) ≡ false → free_rows last rows < length rows
  free_rows_less last [] k d h q = absurd (omega arith)
  free_rows_less last (row ∷ rest) zero d h q = let r = free_rows-le-length last rest in rw q (omega arith)
  free_rows_less last (row ∷ rest) (suc k) d h q =
      let r = free_rows_less last rest k d (omega arith) q in
      elim (cases_Bool (is_free last row)) [ inl t ↦ rw t (omega arith) | inr t ↦ rw t (omega arith) ]

pub times_in-push : (k : ℕ) (xs : List ℕ) (x : ℕ) → times_in k (xs ++ x ∷ []) ≡ times_in k xs + cond (eqb x k) 1 0
times_in-push k [] x = omega arith
times_in-push k (y ∷ xs) x = let r = times_in-push k xs x in omega arith

pub length-entries-le : {T : Type 0} (rows : List (ℕ × Option T)) (b : ℕ) → length (entries_from b rows) ≤ length rows
length-entries-le [] b = omega arith
length-entries-le ((g, None) ∷ rest) b = let r = length-entries-le rest (b + 1) in omega arith
length-entries-le ((g, Some v) ∷ rest) b = let r = length-entries-le rest (b + 1) in omega arith

pub is_free_tells : {T : Type 0} (last : ℕ) (row : ℕ × Option T) → is_free last row ≡ true → (row ≡ (row.0, None)) × (row.0 ≤ last)
is_free_tells last (g, None) h = (refl, grind (arith, nat_tests))
is_free_tells last (g, Some v) h = cc

module _ {T : Type 0} where
  written_below : (rows : List (ℕ × Option T)) (b s g : ℕ) (w : T) → b + length rows ≤ 16777216 → s < b → with_value (entries_from b rows) (id_of s g) w ≡ entries_from b rows
  written_below [] b s g w h l = refl
  written_below ((g1, None) ∷ rest) b s g w h l = written_below rest (b + 1) s g w (omega arith) (omega arith)
  written_below ((g1, Some v1) ∷ rest) b s g w h l =
      let r = written_below rest (b + 1) s g w (omega arith) (omega arith) in
      rw (ids_differ_back b (g1 - 1) s g (omega arith) (omega arith) l, r) refl

  -- the value of the row k is written
  pub written_rows : (rows : List (ℕ × Option T)) (b k s g : ℕ) (v w : T) (d : ℕ × Option T) → b + length rows ≤ 16777216 → s ≡ b + k → k < length rows → get_or rows k d ≡ (g, Some v) → with_value (entries_from b rows) (id_of s (g - 1)) w ≡ entries_from b (set rows k (g, Some w))
  written_rows [] b k s g v w d h e l q = absurd (omega arith)
  written_rows (row ∷ rest) b zero s g v w d h e l q =
      let same : s ≡ b = omega arith in
      let own = eq-eqb (id_of b (g - 1)) (id_of b (g - 1)) refl in
      let r = written_below rest (b + 1) b (g - 1) w (omega arith) (omega arith) in
      let P : ℕ × Option T → Type 0 = λ x. with_value (entries_from b (x ∷ rest)) (id_of b (g - 1)) w ≡ entries_from b ((g, Some w) ∷ rest) in
      rw same (subst P (sym q) (rw (own, r) refl))
  written_rows ((g1, None) ∷ rest) b (suc k) s g v w d h e l q = written_rows rest (b + 1) k s g v w d (omega arith) (omega arith) (omega arith) q
  written_rows ((g1, Some v1) ∷ rest) b (suc k) s g v w d h e l q =
      let r = written_rows rest (b + 1) k s g v w d (omega arith) (omega arith) (omega arith) q in
      rw (other_slot b (g1 - 1) s (g - 1) (omega arith) (omega arith) (omega arith), r) refl

  pub length-entries_written : (rows : List (ℕ × Option T)) (b k g : ℕ) (v w : T) (d : ℕ × Option T) → k < length rows → get_or rows k d ≡ (g, Some v) → length (entries_from b (set rows k (g, Some w))) ≡ length (entries_from b rows)
  length-entries_written [] b k g v w d l q = absurd (omega arith)
  length-entries_written (row ∷ rest) b zero g v w d l q =
      let P : ℕ × Option T → Type 0 = λ x. suc (length (entries_from (b + 1) rest)) ≡ length (entries_from b (x ∷ rest)) in
      subst P (sym q) refl
  length-entries_written ((g1, None) ∷ rest) b (suc k) g v w d l q = length-entries_written rest (b + 1) k g v w d (omega arith) q
  length-entries_written ((g1, Some v1) ∷ rest) b (suc k) g v w d l q = let r = length-entries_written rest (b + 1) k g v w d (omega arith) q in omega arith

pub last_item : (xs : List ℕ) (n : ℕ) → n + 1 ≡ length xs → xs ≡ take n xs ++ get_or xs n 0 ∷ []
last_item [] n h = absurd (omega arith)
last_item (x ∷ []) zero h = refl
last_item (x ∷ (y ∷ ys)) zero h = absurd (omega arith)
last_item (x ∷ xs) (suc n) h = ap (λ v. x ∷ v) (last_item xs n (omega arith))

-- the entries of one row more
pub entries-take_none : {T : Type 0} (rows : List (ℕ × Option T)) (b k g : ℕ) (d : ℕ × Option T) → k < length rows → get_or rows k d ≡ (g, None) → entries_from b (take (k + 1) rows) ≡ entries_from b (take k rows)
entries-take_none [] b k g d h q = absurd (omega arith)
entries-take_none (row ∷ rest) b zero g d h q = ap (λ x. entries_from b (x ∷ [])) q
entries-take_none ((g1, None) ∷ rest) b (suc k) g d h q =
    let more : suc k + 1 ≡ suc (k + 1) = omega arith in
    rw more (entries-take_none rest (b + 1) k g d (omega arith) q)
entries-take_none ((g1, Some v) ∷ rest) b (suc k) g d h q =
    let more : suc k + 1 ≡ suc (k + 1) = omega arith in
    let r = entries-take_none rest (b + 1) k g d (omega arith) q in
    rw (more, r) refl

pub entries-take_some : {T : Type 0} (rows : List (ℕ × Option T)) (b k s g : ℕ) (v : T) (d : ℕ × Option T) → k < length rows → s ≡ b + k → get_or rows k d ≡ (g, Some v) → entries_from b (take (k + 1) rows) ≡ entries_from b (take k rows) ++ (id_of s (g - 1), v) ∷ []
entries-take_some [] b k s g v d h e q = absurd (omega arith)
entries-take_some (row ∷ rest) b zero s g v d h e q =
    let same : s ≡ b = omega arith in
    rw same (ap (λ x. entries_from b (x ∷ [])) q)
entries-take_some ((g1, None) ∷ rest) b (suc k) s g v d h e q =
    let more : suc k + 1 ≡ suc (k + 1) = omega arith in
    rw more (entries-take_some rest (b + 1) k s g v d (omega arith) (omega arith) q)
entries-take_some ((g1, Some w) ∷ rest) b (suc k) s g v d h e q =
    let more : suc k + 1 ≡ suc (k + 1) = omega arith in
    let r = entries-take_some rest (b + 1) k s g v d (omega arith) (omega arith) q in
    rw (more, r) refl

pub length-entries_take : {T : Type 0} (rows : List (ℕ × Option T)) (b k g : ℕ) (v : T) (d : ℕ × Option T) → k < length rows → get_or rows k d ≡ (g, Some v) → length (entries_from b (take k rows)) < length (entries_from b rows)
length-entries_take [] b k g v d h q = absurd (omega arith)
length-entries_take (row ∷ rest) b zero g v d h q =
    subst (λ x. 0 < length (entries_from b (x ∷ rest))) (sym q) (omega arith)
length-entries_take ((g1, None) ∷ rest) b (suc k) g v d h q = length-entries_take rest (b + 1) k g v d (omega arith) q
length-entries_take ((g1, Some w) ∷ rest) b (suc k) g v d h q = let r = length-entries_take rest (b + 1) k g v d (omega arith) q in omega arith
