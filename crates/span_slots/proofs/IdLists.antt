-- The ids of the cells, one cell after another.
use Rattle.std.proofs.Common.{◌≡◌, ℕ, ◌+◌, ◌-◌, ◌<◌, ◌≤◌, List, [], ◌∷◌, ◌++◌, length, get_or, map, take, Option, Some, None, is_some, true, false, refl, ap, ◌∙◌, arith}
use Rattle.std.proofs.lemmas.List.{length-map, map-append}
use Rattle.span_id.specs.Id.{id_of}
use Rattle.span_slots.specs.declared.cells.Cell.{Cell}
use Rattle.span_slots.specs.inside.Cells.{row_of}
use Rattle.span_slots.specs.inside.Rows.{entries_from, AreGoodRows}
use Rattle.span_slots.proofs.CellLemmas.{row_at}
use Rattle.span_slots.proofs.Rows.{good_row, entries-take_none, entries-take_some, length-entries_take}

module _ {T : Type 0} where
  -- the ids of the first cells
  abbrev pub ids_of : ℕ → List (Cell T) → List ℕ
  ids_of n cells = map (λ e. e.0) (entries_from 0 (take n (map row_of cells)))

  pub good_cell : (last : ℕ) (cells : List (Cell T)) (k : ℕ) (cell : Cell T) → AreGoodRows last (map row_of cells) → k < length cells → cell ≡ get_or cells k cell → (0 < cell.given) × (cell.given ≤ last + 1)
  good_cell last cells k cell a l e =
      let row = row_at cells k cell l e in
      let good = good_row last (map row_of cells) k (0, None) (simp length-map l) a in
      let given = ap (λ x. x.0) row in
      (omega (arith, good.0), omega (arith, good.1))

  pub ids-more_none : (cells : List (Cell T)) (k : ℕ) (cell : Cell T) → k < length cells → cell ≡ get_or cells k cell → is_some cell.value ≡ false → ids_of (k + 1) cells ≡ ids_of k cells
  ids-more_none cells k cell l e none = go cell.value refl
    where
      go : (o : Option T) → cell.value ≡ o → ids_of (k + 1) cells ≡ ids_of k cells
      go None q =
          let row : get_or (map row_of cells) k (0, None) ≡ (cell.given, None) = row_at cells k cell l e ∙ ap (λ x. (cell.given, x)) q in
          ap (λ x. map (λ e. e.0) x) (entries-take_none (map row_of cells) 0 k cell.given (0, None) (simp length-map l) row)
      go (Some v) q = absurd (let same = rw q at none in cc)

  pub ids-more_some : (cells : List (Cell T)) (k : ℕ) (cell : Cell T) → k < length cells → cell ≡ get_or cells k cell → is_some cell.value ≡ true → ids_of (k + 1) cells ≡ ids_of k cells ++ id_of k (cell.given - 1) ∷ []
  ids-more_some cells k cell l e some = go cell.value refl
    where
      go : (o : Option T) → cell.value ≡ o → ids_of (k + 1) cells ≡ ids_of k cells ++ id_of k (cell.given - 1) ∷ []
      go None q = absurd (let same = rw q at some in cc)
      go (Some v) q =
          let row : get_or (map row_of cells) k (0, None) ≡ (cell.given, Some v) = row_at cells k cell l e ∙ ap (λ x. (cell.given, x)) q in
          ap (λ x. map (λ e. e.0) x) (entries-take_some (map row_of cells) 0 k k cell.given v (0, None) (simp length-map l) (omega arith) row) ∙ map-append (λ e. e.0) (entries_from 0 (take k (map row_of cells))) ((id_of k (cell.given - 1), v) ∷ [])

  pub length-ids_of : (cells : List (Cell T)) (k : ℕ) (cell : Cell T) → k < length cells → cell ≡ get_or cells k cell → is_some cell.value ≡ true → length (ids_of k cells) < length (entries_from 0 (map row_of cells))
  length-ids_of cells k cell l e some = go cell.value refl
    where
      go : (o : Option T) → cell.value ≡ o → length (ids_of k cells) < length (entries_from 0 (map row_of cells))
      go None q = absurd (let same = rw q at some in cc)
      go (Some v) q =
          let row : get_or (map row_of cells) k (0, None) ≡ (cell.given, Some v) = row_at cells k cell l e ∙ ap (λ x. (cell.given, x)) q in
          simp length-map (length-entries_take (map row_of cells) 0 k cell.given v (0, None) (simp length-map l) row)
