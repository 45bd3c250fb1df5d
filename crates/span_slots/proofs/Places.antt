-- The cell of an id that is there, and the cell of the slot that was freed last.
use Rattle.std.proofs.Common.{◌≡◌, ℕ, ◌+◌, ◌<◌, ◌≤◌, List, [], ◌∷◌, ◌++◌, length, get_or, map, Some, None, IsSome, sym, ap, ◌∙◌, arith}
use Rattle.std.proofs.lemmas.List.{length-map}
use Rattle.span_id.specs.Id.{slot_of, generation_of, IsId}
use Rattle.span_slots.specs.declared.cells.Cell.{Cell}
use Rattle.span_slots.specs.inside.Cells.{row_of}
use Rattle.span_slots.specs.Table.{find}
use Rattle.span_slots.specs.inside.Rows.{entries_from, IsSound}
use Rattle.span_slots.proofs.CellLemmas.{IsCellOf, found_cell, row_at}
use Rattle.span_slots.proofs.Sound.{free_row}

module _ {T : Type 0} where
  -- the cell of an id that is there
  pub record IsFound (cells : List (Cell T)) (id k : ℕ) : Type 0 where
    pub small : length cells ≤ 16777216
    pub within : k < length cells
    pub row_within : k < length (map row_of cells)
    pub given : (cell : Cell T) → cell ≡ get_or cells k cell → cell.given ≡ generation_of id + 1
    pub value : (cell : Cell T) → cell ≡ get_or cells k cell → find (entries_from 0 (map row_of cells)) id ≡ cell.value
    pub row : (cell : Cell T) (v : T) → cell ≡ get_or cells k cell → cell.value ≡ Some v → get_or (map row_of cells) k (0, None) ≡ (cell.given, Some v)
    pub cell_of : (cell : Cell T) (v : T) → cell ≡ get_or cells k cell → cell.value ≡ Some v → IsCellOf cells id k cell v

  pub found : (slots last len rc rf id k : ℕ) (cells : List (Cell T)) (freed : List ℕ) → IsSound slots last len rc rf (map row_of cells) freed → IsId id → k ≡ slot_of id → IsSome (find (entries_from 0 (map row_of cells)) id) → IsFound cells id k
  found slots last len rc rf id k cells freed s layout e there =
      let lm = length-map cells row_of in
      let n : length cells ≤ 16777216 = omega (arith, s.used, s.slots_high) in
      let f = found_cell last cells id k layout s.good n (sym e) there in
      record {
        small = n;
        within = f.within;
        row_within = simp length-map f.within;
        given = f.given;
        value = f.value;
        row = λ cell v at some. row_at cells k cell f.within at ∙ ap (λ x. (cell.given, x)) some;
        cell_of = λ cell v at some. record { layout = layout; small = n; slot = sym e; within = f.within; is = at; given = f.given cell at; value = some };
      }

  -- the cell of the slot that was freed last
  pub record IsReusable (last : ℕ) (cells : List (Cell T)) (k : ℕ) : Type 0 where
    pub small : length cells ≤ 16777216
    pub within : k < length cells
    pub row_within : k < length (map row_of cells)
    pub none : (cell : Cell T) → cell ≡ get_or cells k cell → cell.value ≡ None
    pub low : (cell : Cell T) → cell ≡ get_or cells k cell → cell.given ≤ last
    pub row : (cell : Cell T) → cell ≡ get_or cells k cell → get_or (map row_of cells) k (0, None) ≡ (cell.given, None)

  pub reusable : (slots last len rc rf k : ℕ) (cells : List (Cell T)) (freed rest : List ℕ) → IsSound slots last len rc rf (map row_of cells) freed → freed ≡ rest ++ k ∷ [] → IsReusable last cells k
  reusable slots last len rc rf k cells freed rest s popped =
      let lm = length-map cells row_of in
      let f = free_row slots last len rc rf k (map row_of cells) freed rest (0, None) s popped in
      let within : k < length cells = simp length-map at f.within in
      let empty : (cell : Cell T) → cell ≡ get_or cells k cell → cell.value ≡ None = λ cell at. (let row = row_at cells k cell within at in sym (ap (λ x. x.1) row) ∙ ap (λ x. x.1) f.row) in
      record {
        small = omega (arith, s.used, s.slots_high);
        within = within;
        row_within = f.within;
        none = empty;
        low = λ cell at. (let given = ap (λ x. x.0) (row_at cells k cell within at) in omega (arith, f.low));
        row = λ cell at. row_at cells k cell within at ∙ ap (λ x. (cell.given, x)) (empty cell at);
      }
