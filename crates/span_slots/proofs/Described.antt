-- A table by its rows: what stands in a slot, what it gave, and which slots are free.
use Rattle.std.proofs.Common.{◌≡◌, ℕ, zero, suc, ◌+◌, ◌-◌, ◌<◌, ◌≤◌, Bool, true, false, not, ◌||◌, eqb, ltb, List, [], ◌∷◌, length, get_or, map, reverse, Option, Some, None, is_some, refl, sym, ap, ◌∙◌, inl, inr, arith}
use Rattle.std.specs.List.{list_any, filter, range_with_len}
use Rattle.std.proofs.lemmas.List.{length-map, get_or_past, reverse-append}
use Rattle.std.proofs.lemmas.List.Sums.{length-filter}
use Rattle.std.proofs.lemmas.Bool.{eq-eqb, ne_eqb, cases_Bool, cases_lt, lt-ltb, le-ltb, le-leb, lt-leb}
use Rattle.span_id.specs.Id.{slot_of, generation_of, IsId}
use Rattle.span_slots.specs.declared.cells.Cell.{Cell}
use Rattle.span_slots.specs.inside.Cells.{row_of}
use Rattle.span_slots.specs.Table.{Table, is_occupied, is_retired, free_count}
use Rattle.span_slots.specs.Table as table
use Rattle.span_slots.specs.inside.Rows.{entries_from, AreGoodRows, is_free, free_rows, free_at, times_in, IsSound}
use Rattle.span_slots.proofs.Ids.{slot_of_id, generation_of_id}
use Rattle.span_slots.proofs.Issued.{AreBelow, AreIssued, IsKept}
use Rattle.span_slots.proofs.Rows.{free_at_row, row_free_at, good_row, times_in-push}
use Rattle.span_slots.proofs.CellLemmas.{table_of}

times_in-reverse : (k : ℕ) (xs : List ℕ) → times_in k (reverse xs) ≡ times_in k xs
times_in-reverse k [] = refl
times_in-reverse k (x ∷ xs) =
    ap (times_in k) (reverse-append (x ∷ []) xs) ∙ (let a = times_in-push k (reverse xs) x in let b = times_in-reverse k xs in omega arith)

AreBelow-by_times : (n : ℕ) (xs : List ℕ) → ((k : ℕ) → 0 < times_in k xs → k < n) → AreBelow n xs
AreBelow-by_times n [] h = tt
AreBelow-by_times n (x ∷ xs) h =
    ((let own = eq-eqb x x refl in h x (rw own (omega arith))), AreBelow-by_times n xs (λ k l. h k (omega arith)))

module _ {T : Type 0} where
  not_occupied_below : (rows : List (ℕ × Option T)) (b s : ℕ) → b + length rows ≤ 16777216 → s < b → list_any (λ e. eqb (slot_of e.0) s) (entries_from b rows) ≡ false
  not_occupied_below [] b s h l = refl
  not_occupied_below ((g, None) ∷ rest) b s h l = not_occupied_below rest (b + 1) s (omega arith) (omega arith)
  not_occupied_below ((g, Some v) ∷ rest) b s h l =
      let at = slot_of_id b (g - 1) (omega arith) in
      rw (at, ne_eqb b s (λ q. absurd (omega arith))) (not_occupied_below rest (b + 1) s (omega arith) (omega arith))

  occupied_row : (rows : List (ℕ × Option T)) (b k s : ℕ) → b + length rows ≤ 16777216 → s ≡ b + k → list_any (λ e. eqb (slot_of e.0) s) (entries_from b rows) ≡ is_some ((get_or rows k (0, None)).1)
  occupied_row [] b k s h e = refl
  occupied_row ((g, None) ∷ rest) b zero s h e = not_occupied_below rest (b + 1) s (omega arith) (omega arith)
  occupied_row ((g, None) ∷ rest) b (suc k) s h e = occupied_row rest (b + 1) k s (omega arith) (omega arith)
  occupied_row ((g, Some v) ∷ rest) b zero s h e =
      let at = slot_of_id b (g - 1) (omega arith) in
      rw (at, eq-eqb b s (omega arith)) refl
  occupied_row ((g, Some v) ∷ rest) b (suc k) s h e =
      let at = slot_of_id b (g - 1) (omega arith) in
      rw (at, ne_eqb b s (λ q. absurd (omega arith))) (occupied_row rest (b + 1) k s (omega arith) (omega arith))

  pub given_row : (cells : List (Cell T)) (k : ℕ) → get_or (map (λ c. c.given) cells) k 0 ≡ (get_or (map row_of cells) k (0, None)).0
  given_row [] k = refl
  given_row (cell ∷ cells) zero = refl
  given_row (cell ∷ cells) (suc k) = given_row cells k

  free_either : (last g : ℕ) (o : Option T) → not (is_some o || ltb last g) ≡ is_free last (g, o)
  free_either last g None = elim (cases_lt last g) [ inl t ↦ rw (lt-ltb last g t, lt-leb g last t) refl | inr t ↦ rw (le-ltb last g t, le-leb g last t) refl ]
  free_either last g (Some v) = refl

  -- the slot of a row is free where the row is
  free_row_at : (slots last k : ℕ) (cells : List (Cell T)) (freed : List ℕ) → length cells ≤ 16777216 → k < 16777216 → table.is_free (table_of slots last cells freed) k ≡ is_free last (get_or (map row_of cells) k (0, None))
  free_row_at slots last k cells freed n h =
      let o = occupied_row (map row_of cells) 0 k k (simp length-map (omega arith)) (omega arith) in
      rw (o, slot_of_id k last h, generation_of_id k last h, given_row cells k) (free_either last (get_or (map row_of cells) k (0, None)).0 (get_or (map row_of cells) k (0, None)).1)

  free_past : (slots last k : ℕ) (cells : List (Cell T)) (freed : List ℕ) → length cells ≤ 16777216 → length cells ≤ k → k < 16777216 → table.is_free (table_of slots last cells freed) k ≡ true
  free_past slots last k cells freed n p h =
      let past = get_or_past (map row_of cells) k (0, None) (simp length-map p) in
      free_row_at slots last k cells freed n h ∙ (ap (λ r. is_free last r) past ∙ le-leb 0 last (omega arith))

  -- counting the free slots
  length_free : (p : ℕ → Bool) (last : ℕ) (rows : List (ℕ × Option T)) (a n : ℕ) → length rows ≤ n → ((j k : ℕ) → j ≡ a + k → k < length rows → p j ≡ is_free last (get_or rows k (0, None))) → ((j k : ℕ) → j ≡ a + k → length rows ≤ k → k < n → p j ≡ true) → length (filter p (range_with_len a n)) ≡ free_rows last rows + (n - length rows)
  length_free p last [] a zero h w o = refl
  length_free p last [] a (suc n) h w o =
      let r = length_free p last [] (a + 1) n (omega arith) (λ j k e l. absurd (omega arith)) (λ j k e l m. o j (suc k) (omega arith) (omega arith) (omega arith)) in
      rw (o a 0 (omega arith) (omega arith) (omega arith)) (omega arith)
  length_free p last (row ∷ rest) a zero h w o = absurd (omega arith)
  length_free p last (row ∷ rest) a (suc n) h w o =
      let r = length_free p last rest (a + 1) n (omega arith) (λ j k e l. w j (suc k) (omega arith) (omega arith)) (λ j k e l m. o j (suc k) (omega arith) (omega arith) (omega arith)) in
      let here : p a ≡ is_free last row = w a 0 (omega arith) (omega arith) in
      elim (cases_Bool (is_free last row)) [
        | inl t ↦ rw (here, t) (omega arith)
        | inr t ↦ rw (here, t) (omega arith)
      ]

  AreIssued-rows : (given : List ℕ) (last : ℕ) (rows : List (ℕ × Option T)) (b : ℕ) → AreGoodRows last rows → b + length rows ≤ 16777216 → ((j k : ℕ) → j ≡ b + k → k < length rows → get_or given j 0 ≡ (get_or rows k (0, None)).0) → AreIssued given (entries_from b rows)
  AreIssued-rows given last [] b a h w = tt
  AreIssued-rows given last ((g, None) ∷ rest) b a h w =
      AreIssued-rows given last rest (b + 1) a.1 (omega arith) (λ j k e l. w j (suc k) (omega arith) (omega arith))
  AreIssued-rows given last ((g, Some v) ∷ rest) b a h w =
      let gave : get_or given b 0 ≡ g = w b 0 (omega arith) (omega arith) in (
        rw (slot_of_id b (g - 1) (omega arith), generation_of_id b (g - 1) (omega arith), gave) (omega (arith, a.0.0)),
        AreIssued-rows given last rest (b + 1) a.1 (omega arith) (λ j k e l. w j (suc k) (omega arith) (omega arith)),
      )

  pub kept : (slots last len rc rf : ℕ) (cells : List (Cell T)) (freed : List ℕ) → IsSound slots last len rc rf (map row_of cells) freed → IsKept (table_of slots last cells freed)
  kept slots last len rc rf cells freed s =
      let lm = length-map cells row_of in
      let lg = length-map cells (λ c. c.given) in
      record {
        slots_high = s.slots_high;
        used = (let u = s.used in omega arith);
        freed_used = AreBelow-by_times (length (map (λ c. c.given) cells)) (reverse freed) (λ k l. (
            let r = times_in-reverse k freed in
            let f = free_at_row last (map row_of cells) k (0, None) (let q = s.freed_are_free k in omega arith) in
            omega (arith, f.0)));
        issued = AreIssued-rows (map (λ c. c.given) cells) last (map row_of cells) 0 s.good (let u = s.used in let v = s.slots_high in omega arith) (λ j k e l. (let same : j ≡ k = omega arith in ap (λ x. get_or (map (λ c. c.given) cells) x 0) same ∙ given_row cells k));
      }

  pub free_counted : (slots last len rc rf : ℕ) (cells : List (Cell T)) (freed : List ℕ) → IsSound slots last len rc rf (map row_of cells) freed → free_count (table_of slots last cells freed) ≡ slots - length cells + length freed
  free_counted slots last len rc rf cells freed s =
      let lm = length-map cells row_of in
      let u = s.used in
      let v = s.slots_high in
      let n : length cells ≤ 16777216 = omega arith in
      let t = table_of slots last cells freed in
      let counted = length_free (table.is_free t) last (map row_of cells) 0 slots u (λ j k e l. (let same : j ≡ k = omega arith in ap (table.is_free t) same ∙ free_row_at slots last k cells freed n (omega arith))) (λ j k e l m. (let same : j ≡ k = omega arith in ap (table.is_free t) same ∙ free_past slots last k cells freed n (omega arith) (omega arith))) in
      sym (length-filter (table.is_free t) (range_with_len 0 slots)) ∙ (counted ∙ (let f = s.freed_count in omega arith))

  -- each id of the map is in the layout, and is the last that its slot gave
  abbrev pub AreNewest : List ℕ → List (ℕ × T) → Type 0
  AreNewest given [] = Unit {0}
  AreNewest given (e ∷ es) = (IsId e.0 × (get_or given (slot_of e.0) 0 ≡ generation_of e.0 + 1)) × AreNewest given es

  -- the slots of the map's ids rise, from a slot on
  abbrev pub AreAscending : ℕ → List (ℕ × T) → Type 0
  AreAscending low [] = Unit {0}
  AreAscending low (e ∷ es) = (low ≤ slot_of e.0) × AreAscending (slot_of e.0 + 1) es

  AreNewest-rows : (given : List ℕ) (last : ℕ) (rows : List (ℕ × Option T)) (b : ℕ) → last ≤ 4294967295 → AreGoodRows last rows → b + length rows ≤ 16777216 → ((j k : ℕ) → j ≡ b + k → k < length rows → get_or given j 0 ≡ (get_or rows k (0, None)).0) → AreNewest given (entries_from b rows)
  AreNewest-rows given last [] b m a h w = tt
  AreNewest-rows given last ((g, None) ∷ rest) b m a h w =
      AreNewest-rows given last rest (b + 1) m a.1 (omega arith) (λ j k e l. w j (suc k) (omega arith) (omega arith))
  AreNewest-rows given last ((g, Some v) ∷ rest) b m a h w =
      let gave : get_or given b 0 ≡ g = w b 0 (omega arith) (omega arith) in (
        ((omega arith, omega (arith, a.0.1)), rw (slot_of_id b (g - 1) (omega arith), generation_of_id b (g - 1) (omega arith), gave) (omega (arith, a.0.0))),
        AreNewest-rows given last rest (b + 1) m a.1 (omega arith) (λ j k e l. w j (suc k) (omega arith) (omega arith)),
      )

  AreAscending-rows : (rows : List (ℕ × Option T)) (b low : ℕ) → b + length rows ≤ 16777216 → low ≤ b → AreAscending low (entries_from b rows)
  AreAscending-rows [] b low h l = tt
  AreAscending-rows ((g, None) ∷ rest) b low h l = AreAscending-rows rest (b + 1) low (omega arith) (omega arith)
  AreAscending-rows ((g, Some v) ∷ rest) b low h l =
      let at = slot_of_id b (g - 1) (omega arith) in
      rw at (l, AreAscending-rows rest (b + 1) (b + 1) (omega arith) (omega arith))

  -- what is true of every table
  pub record IsTable (t : Table T) : Type 0 where
    pub kept : IsKept t
    pub newest : AreNewest t.given t.entries
    pub ascending : AreAscending 0 t.entries
    pub gave_some : (k : ℕ) → k < length t.given → 0 < get_or t.given k 0
    pub gave_no_more : (k : ℕ) → get_or t.given k 0 ≤ t.last_generation + 1
    pub past_are_free : (k : ℕ) → length t.given ≤ k → k < 16777216 → table.is_free t k ≡ true
    pub freed_once : (k : ℕ) → times_in k t.freed ≤ 1
    pub freed_are_used : (k : ℕ) → 0 < times_in k t.freed → k < length t.given
    pub freed_are_free : (k : ℕ) → 0 < times_in k t.freed → table.is_free t k ≡ true
    pub free_are_freed : (k : ℕ) → k < length t.given → table.is_free t k ≡ true → 0 < times_in k t.freed

  free_at-le-one : (last : ℕ) (rows : List (ℕ × Option T)) (k : ℕ) → free_at last rows k ≤ 1
  free_at-le-one last [] k = omega arith
  free_at-le-one last (row ∷ rest) zero = elim (cases_Bool (is_free last row)) [ inl t ↦ rw t (omega arith) | inr t ↦ rw t (omega arith) ]
  free_at-le-one last (row ∷ rest) (suc k) = free_at-le-one last rest k

  pub described : (slots last len rc rf : ℕ) (cells : List (Cell T)) (freed : List ℕ) → IsSound slots last len rc rf (map row_of cells) freed → IsTable (table_of slots last cells freed)
  described slots last len rc rf cells freed s =
      let lm = length-map cells row_of in
      let lg = length-map cells (λ c. c.given) in
      let u = s.used in
      let v = s.slots_high in
      let n : length cells ≤ 16777216 = omega arith in
      record {
        kept = kept slots last len rc rf cells freed s;
        newest = AreNewest-rows (map (λ c. c.given) cells) last (map row_of cells) 0 s.last_high s.good (omega arith) (λ j k e l. (let same : j ≡ k = omega arith in ap (λ x. get_or (map (λ c. c.given) cells) x 0) same ∙ given_row cells k));
        ascending = AreAscending-rows (map row_of cells) 0 0 (omega arith) (omega arith);
        gave_some = λ k l. (let r = given_row cells k in let good = good_row last (map row_of cells) k (0, None) (omega arith) s.good in omega (arith, good.0));
        gave_no_more = λ k. (elim (cases_lt k (length cells)) [
          | inl l ↦ (let r = given_row cells k in let good = good_row last (map row_of cells) k (0, None) (omega arith) s.good in omega (arith, good.1))
          | inr l ↦ (let past = get_or_past (map (λ c. c.given) cells) k 0 (omega arith) in omega arith)
        ]);
        past_are_free = λ k l h. free_past slots last k cells freed n (omega arith) h;
        freed_once = λ k. (let r = times_in-reverse k freed in let q = s.freed_are_free k in let one = free_at-le-one last (map row_of cells) k in omega arith);
        freed_are_used = λ k l. (let r = times_in-reverse k freed in let f = free_at_row last (map row_of cells) k (0, None) (let q = s.freed_are_free k in omega arith) in omega (arith, f.0));
        freed_are_free = λ k l. (let r = times_in-reverse k freed in let f = free_at_row last (map row_of cells) k (0, None) (let q = s.freed_are_free k in omega arith) in free_row_at slots last k cells freed n (omega (arith, f.0)) ∙ f.1);
        free_are_freed = λ k l h. (
            let r = times_in-reverse k freed in
            let q = s.freed_are_free k in
            let row = row_free_at last (map row_of cells) k (0, None) (omega arith) in
            let is : is_free last (get_or (map row_of cells) k (0, None)) ≡ true = sym (free_row_at slots last k cells freed n (omega arith)) ∙ h in
            let one : free_at last (map row_of cells) k ≡ 1 = rw is at row in
            omega arith);
      }
