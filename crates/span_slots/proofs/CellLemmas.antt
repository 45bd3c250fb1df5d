-- The cells of a table by their rows.
use Rattle.std.proofs.Common.{◌≡◌, ℕ, ◌+◌, ◌-◌, ◌<◌, ◌≤◌, Bool, true, false, cond, eqb, leb, ltb, List, [], ◌∷◌, ◌++◌, length, get_or, set, map, reverse, Option, Some, None, IsSome, inl, inr, refl, sym, ap, ◌∙◌, arith}
use Rattle.std.proofs.lemmas.List.{length-map, map-set, get_or-map, get_or_past, reverse-append, map-append}
use Rattle.std.proofs.lemmas.Bool.{cases_lt, lt-ltb}
use Rattle.std.proofs.lemmas.Bool.Decides.{eqb_tells, nat_tests}
use Rattle.std.proofs.Math.Seq.{map-set_same}
use Rattle.span_slots.proofs.Ids.{id_again, slot_of_id}
use Rattle.span_id.specs.Id.{id_of, slot_of, generation_of, IsId}
use Rattle.span_slots.specs.declared.cells.Cell.{Cell}
use Rattle.span_slots.specs.inside.Cells.{row_of}
use Rattle.span_slots.specs.Table.{Table, with_value, find, with_entry, without_entry, table_removed, table_inserted, next_id, next_slot}
use Rattle.span_slots.specs.inside.Rows.{entries_from, AreGoodRows}
use Rattle.span_slots.proofs.Rows.{row_value, row_none, found_in_rows, without_rows, with_rows, push_rows, written_rows}

pair_same : {A B : Type 0} (a : A) (b : B) (c : A) (d : B) → a ≡ c → b ≡ d → ◌≡◌ {A = A × B} (a, b) (c, d)
pair_same a b c d e f = cc

is_id : (k g : ℕ) → k < 16777216 → g ≤ 4294967295 → IsId (id_of k g)
is_id k g h l = (omega arith, omega arith)

cond_true : {A : Type 0} (b : Bool) (x y : A) → b ≡ true → cond b x y ≡ x
cond_true b x y h = rw h refl

cond_false : {A : Type 0} (b : Bool) (x y : A) → b ≡ false → cond b x y ≡ y
cond_false b x y h = rw h refl

pub not_there : {A : Type 0} (o : Option A) → IsSome o → o ≡ None → ⊥
not_there None h e = cc
not_there (Some x) h e = cc

pub le-leb : (a b : ℕ) → a ≤ b → leb a b ≡ true
le-leb a b h = grind (arith, nat_tests)

pub lt-leb_false : (a b : ℕ) → a < b → leb b a ≡ false
lt-leb_false a b h = grind (arith, nat_tests)

module _ {T : Type 0} where
  pub row_at : (cells : List (Cell T)) (k : ℕ) (cell : Cell T) → k < length cells → cell ≡ get_or cells k cell → get_or (map row_of cells) k (0, None) ≡ (cell.given, cell.value)
  row_at cells k cell l e = get_or-map row_of cells k cell (0, None) l ∙ ap row_of (sym e)

  pub found_in_cells : (last : ℕ) (cells : List (Cell T)) (id k : ℕ) (cell : Cell T) → IsId id → AreGoodRows last (map row_of cells) → length cells ≤ 16777216 → slot_of id ≡ k → k < length cells → cell ≡ get_or cells k cell → find (entries_from 0 (map row_of cells)) id ≡ cond (eqb cell.given (generation_of id + 1)) cell.value None
  found_in_cells last cells id k cell i a n s l e =
      let r = row_at cells k cell l e in
      let w = found_in_rows last (map row_of cells) 0 k id i a (simp length-map (omega arith)) (omega arith) in
      w ∙ ap (λ x. row_value x (generation_of id)) r

  pub value_past_cells : (last : ℕ) (cells : List (Cell T)) (id : ℕ) → IsId id → AreGoodRows last (map row_of cells) → length cells ≤ 16777216 → length cells ≤ slot_of id → find (entries_from 0 (map row_of cells)) id ≡ None
  value_past_cells last cells id i a n p =
      let w = found_in_rows last (map row_of cells) 0 (slot_of id) id i a (simp length-map (omega arith)) (omega arith) in
      w ∙ (ap (λ x. row_value x (generation_of id)) (get_or_past (map row_of cells) (slot_of id) (0, None) (simp length-map p)) ∙ row_none 0 (generation_of id))

  -- the table that these parts stand for
  abbrev pub table_of : ℕ → ℕ → List (Cell T) → List ℕ → Table T
  table_of slots last cells freed =
      record { slots = slots; last_generation = last; entries = entries_from 0 (map row_of cells); given = map (λ c. c.given) cells; freed = reverse freed }

  given_at : (cells : List (Cell T)) (k : ℕ) (cell : Cell T) → k < length cells → cell ≡ get_or cells k cell → get_or (map (λ c. c.given) cells) k 0 ≡ cell.given
  given_at cells k cell l e = get_or-map (λ c. c.given) cells k cell 0 l ∙ ap (λ c. c.given) (sym e)

  given_kept : (cells : List (Cell T)) (k : ℕ) (cell new : Cell T) → cell ≡ get_or cells k cell → new.given ≡ cell.given → map (λ c. c.given) (set cells k new) ≡ map (λ c. c.given) cells
  given_kept cells k cell new e same = map-set_same (λ c. c.given) cells k new cell (same ∙ ap (λ c. c.given) e)

  -- the cell of an id that is there: it stands at the id's slot, the id is the last that it gave, and this is its value
  pub record IsCellOf (cells : List (Cell T)) (id k : ℕ) (cell : Cell T) (v : T) : Type 0 where
    pub layout : IsId id
    pub small : length cells ≤ 16777216
    pub slot : slot_of id ≡ k
    pub within : k < length cells
    pub is : cell ≡ get_or cells k cell
    pub given : cell.given ≡ generation_of id + 1
    pub value : cell.value ≡ Some v

  entries_taken : (cells : List (Cell T)) (id k : ℕ) (cell new : Cell T) (v : T) → IsCellOf cells id k cell v → new.given ≡ cell.given → new.value ≡ None → entries_from 0 (map row_of (set cells k new)) ≡ without_entry (entries_from 0 (map row_of cells)) id
  entries_taken cells id k cell new v h same none =
      let r : get_or (map row_of cells) k (0, None) ≡ (cell.given, Some v) = row_at cells k cell h.within h.is ∙ ap (λ x. (cell.given, x)) h.value in
      let w = without_rows (map row_of cells) 0 k k cell.given v (0, None) (simp length-map (omega (arith, h.small))) (omega arith) (simp length-map (omega (arith, h.within))) r in
      let q : id_of k (cell.given - 1) ≡ id = (let a = id_again id h.layout in omega (arith, a, h.slot, h.given)) in
      let put : row_of new ≡ (cell.given, None) = pair_same new.given new.value cell.given None same none in
      ap (λ x. entries_from 0 x) (map-set row_of cells k new) ∙ (ap (λ x. entries_from 0 (set (map row_of cells) k x)) put ∙ (sym w ∙ ap (λ x. without_entry (entries_from 0 (map row_of cells)) x) q))

  -- taking a value out, where its slot may be given again
  pub taken_free : (slots last id k : ℕ) (cells : List (Cell T)) (freed freed2 : List ℕ) (cell new : Cell T) (v : T) → IsCellOf cells id k cell v → new.given ≡ cell.given → new.value ≡ None → IsSome (find (entries_from 0 (map row_of cells)) id) → cell.given ≤ last → freed2 ≡ freed ++ k ∷ [] → table_of slots last (set cells k new) freed2 ≡ table_removed (table_of slots last cells freed) id
  taken_free slots last id k cells freed freed2 cell new v h same none there le p =
      let a = entries_taken cells id k cell new v h same none in
      let b = given_kept cells k cell new h.is same in
      let at = given_at cells k cell h.within h.is in
      let test = le-leb cell.given last le in
      rw (there, a, b, p, reverse-append, h.slot, at, test) refl

  -- and where it gave its last id
  pub taken_retired : (slots last id k : ℕ) (cells : List (Cell T)) (freed : List ℕ) (cell new : Cell T) (v : T) → IsCellOf cells id k cell v → new.given ≡ cell.given → new.value ≡ None → IsSome (find (entries_from 0 (map row_of cells)) id) → last < cell.given → table_of slots last (set cells k new) freed ≡ table_removed (table_of slots last cells freed) id
  taken_retired slots last id k cells freed cell new v h same none there lt =
      let a = entries_taken cells id k cell new v h same none in
      let b = given_kept cells k cell new h.is same in
      let at = given_at cells k cell h.within h.is in
      let test = lt-leb_false last cell.given lt in
      rw (there, a, b, h.slot, at, test) refl

  -- the cell of an id that is there
  pub record Found (cells : List (Cell T)) (id k : ℕ) : Type 0 where
    pub within : k < length cells
    pub given : (cell : Cell T) → cell ≡ get_or cells k cell → cell.given ≡ generation_of id + 1
    pub value : (cell : Cell T) → cell ≡ get_or cells k cell → find (entries_from 0 (map row_of cells)) id ≡ cell.value

  pub found_cell : (last : ℕ) (cells : List (Cell T)) (id k : ℕ) → IsId id → AreGoodRows last (map row_of cells) → length cells ≤ 16777216 → slot_of id ≡ k → IsSome (find (entries_from 0 (map row_of cells)) id) → Found cells id k
  found_cell last cells id k i a n s there =
      let within : k < length cells = elim (cases_lt k (length cells)) [ inl t ↦ t | inr t ↦ absurd (not_there (find (entries_from 0 (map row_of cells)) id) there (value_past_cells last cells id i a n (omega arith))) ] in
      record {
        within = within;
        given = λ cell e. (elim (eqb_tells cell.given (generation_of id + 1)) [ inl t ↦ t.1 | inr t ↦ absurd (not_there (find (entries_from 0 (map row_of cells)) id) there (found_in_cells last cells id k cell i a n s within e ∙ cond_false (eqb cell.given (generation_of id + 1)) cell.value None t.0)) ]);
        value = λ cell e. (elim (eqb_tells cell.given (generation_of id + 1)) [ inl t ↦ found_in_cells last cells id k cell i a n s within e ∙ cond_true (eqb cell.given (generation_of id + 1)) cell.value None t.0 | inr t ↦ absurd (not_there (find (entries_from 0 (map row_of cells)) id) there (found_in_cells last cells id k cell i a n s within e ∙ cond_false (eqb cell.given (generation_of id + 1)) cell.value None t.0)) ]);
      }

  next_freed : (slots last k : ℕ) (cells : List (Cell T)) (freed rest : List ℕ) → freed ≡ rest ++ k ∷ [] → reverse freed ≡ k ∷ reverse rest
  next_freed slots last k cells freed rest p = ap reverse p ∙ reverse-append rest (k ∷ [])

  -- a value in the slot that was freed last
  pub next_id_reused : (slots last k : ℕ) (cells : List (Cell T)) (freed rest : List ℕ) (cell : Cell T) → k < length cells → cell ≡ get_or cells k cell → freed ≡ rest ++ k ∷ [] → next_id (table_of slots last cells freed) ≡ Some (id_of k cell.given)
  next_id_reused slots last k cells freed rest cell l e p =
      rw (next_freed slots last k cells freed rest p, given_at cells k cell l e) refl

  pub next_slot_reused : (slots last k g : ℕ) (cells : List (Cell T)) (freed rest : List ℕ) → k < 16777216 → freed ≡ rest ++ k ∷ [] → next_slot (table_of slots last cells freed) ≡ Some (slot_of (id_of k g))
  next_slot_reused slots last k g cells freed rest l p =
      rw (next_freed slots last k cells freed rest p, slot_of_id k g l) refl

  pub reused : (slots last k : ℕ) (cells : List (Cell T)) (freed rest : List ℕ) (cell new : Cell T) (v : T) → length cells ≤ 16777216 → k < length cells → cell ≡ get_or cells k cell → cell.value ≡ None → new.given ≡ cell.given + 1 → new.value ≡ Some v → freed ≡ rest ++ k ∷ [] → table_of slots last (set cells k new) rest ≡ table_inserted (table_of slots last cells freed) (slot_of (id_of k cell.given)) v
  reused slots last k cells freed rest cell new v n l e none up put p =
      let r : get_or (map row_of cells) k (0, None) ≡ (cell.given, None) = row_at cells k cell l e ∙ ap (λ x. (cell.given, x)) none in
      let w = with_rows (map row_of cells) 0 k k cell.given v (0, None) (simp length-map (omega arith)) (omega arith) (simp length-map (omega arith)) r in
      let q : row_of new ≡ (cell.given + 1, Some v) = pair_same new.given new.value (cell.given + 1) (Some v) up put in
      let a : entries_from 0 (map row_of (set cells k new)) ≡ with_entry (entries_from 0 (map row_of cells)) (id_of k cell.given) v = ap (λ x. entries_from 0 x) (map-set row_of cells k new) ∙ (ap (λ x. entries_from 0 (set (map row_of cells) k x)) q ∙ sym w) in
      let at = given_at cells k cell l e in
      let within : ltb k (length (map (λ c. c.given) cells)) ≡ true = simp length-map (lt-ltb k (length cells) l) in
      let b : map (λ c. c.given) (set cells k new) ≡ set (map (λ c. c.given) cells) k (cell.given + 1) = map-set (λ c. c.given) cells k new ∙ ap (λ x. set (map (λ c. c.given) cells) k x) up in
      rw (slot_of_id k cell.given (omega arith), at, within, a, b, next_freed slots last k cells freed rest p) refl

  -- a value in a slot that was never used
  pub next_id_fresh : (slots last k : ℕ) (cells : List (Cell T)) (freed : List ℕ) → k ≡ length cells → k < slots → reverse freed ≡ [] → next_id (table_of slots last cells freed) ≡ Some (id_of k 0)
  next_id_fresh slots last k cells freed e l none =
      let test : ltb k slots ≡ true = lt-ltb k slots l in
      let len : length (map (λ c. c.given) cells) ≡ k = simp length-map (sym e) in
      let past = get_or_past (map (λ c. c.given) cells) k 0 (omega arith) in
      rw (none, len, test, past) refl

  pub next_slot_fresh : (slots last k : ℕ) (cells : List (Cell T)) (freed : List ℕ) → k < 16777216 → k ≡ length cells → k < slots → reverse freed ≡ [] → next_slot (table_of slots last cells freed) ≡ Some (slot_of (id_of k 0))
  next_slot_fresh slots last k cells freed low e l none =
      let test : ltb k slots ≡ true = lt-ltb k slots l in
      let len : length (map (λ c. c.given) cells) ≡ k = simp length-map (sym e) in
      rw (none, len, test, slot_of_id k 0 low) refl

  pub freshened : (slots last k : ℕ) (cells : List (Cell T)) (freed : List ℕ) (new : Cell T) (v : T) → length cells < 16777216 → k ≡ length cells → new.given ≡ 1 → new.value ≡ Some v → reverse freed ≡ [] → table_of slots last (cells ++ new ∷ []) freed ≡ table_inserted (table_of slots last cells freed) (slot_of (id_of k 0)) v
  freshened slots last k cells freed new v n e one put none =
      let w = push_rows (map row_of cells) 0 k v (simp length-map (omega arith)) (simp length-map (omega arith)) in
      let q : row_of new ≡ (1, Some v) = pair_same new.given new.value 1 (Some v) one put in
      let a : entries_from 0 (map row_of (cells ++ new ∷ [])) ≡ with_entry (entries_from 0 (map row_of cells)) (id_of k 0) v = ap (λ x. entries_from 0 x) (map-append row_of cells (new ∷ [])) ∙ (ap (λ x. entries_from 0 (map row_of cells ++ x ∷ [])) q ∙ sym w) in
      let len : length (map (λ c. c.given) cells) ≡ k = simp length-map (sym e) in
      let past = get_or_past (map (λ c. c.given) cells) k 0 (omega arith) in
      let outside : ltb k k ≡ false = grind (arith, nat_tests) in
      let b : map (λ c. c.given) (cells ++ new ∷ []) ≡ map (λ c. c.given) cells ++ 1 ∷ [] = map-append (λ c. c.given) cells (new ∷ []) ∙ ap (λ x. map (λ c. c.given) cells ++ x ∷ []) one in
      rw (slot_of_id k 0 (omega arith), past, len, outside, a, b, none) refl

  -- another value under an id that is there
  pub written_table : (slots last id k : ℕ) (cells : List (Cell T)) (freed : List ℕ) (cell : Cell T) (v w : T) → IsCellOf cells id k cell v → table_of slots last (set cells k (record { given = cell.given; value = Some w })) freed ≡ record (table_of slots last cells freed) { entries = with_value (entries_from 0 (map row_of cells)) id w }
  written_table slots last id k cells freed cell v w h =
      let new : Cell T = record { given = cell.given; value = Some w } in
      let r : get_or (map row_of cells) k (0, None) ≡ (cell.given, Some v) = row_at cells k cell h.within h.is ∙ ap (λ x. (cell.given, x)) h.value in
      let u = written_rows (map row_of cells) 0 k k cell.given v w (0, None) (simp length-map (omega (arith, h.small))) (omega arith) (simp length-map (omega (arith, h.within))) r in
      let q : id_of k (cell.given - 1) ≡ id = (let a = id_again id h.layout in omega (arith, a, h.slot, h.given)) in
      let a : entries_from 0 (map row_of (set cells k new)) ≡ with_value (entries_from 0 (map row_of cells)) id w = ap (λ x. entries_from 0 x) (map-set row_of cells k new) ∙ (sym u ∙ ap (λ x. with_value (entries_from 0 (map row_of cells)) x w) q) in
      let b = given_kept cells k cell new h.is refl in
      rw (a, b) refl

  cond_same : (b : Bool) (o : Option T) → o ≡ None → cond b o None ≡ None
  cond_same true o h = h
  cond_same false o h = refl

  -- the id that a slot gives next is not there
  pub vacant_reused : (last k : ℕ) (cells : List (Cell T)) (cell : Cell T) → AreGoodRows last (map row_of cells) → length cells ≤ 16777216 → k < length cells → cell ≡ get_or cells k cell → cell.value ≡ None → cell.given ≤ 4294967295 → find (entries_from 0 (map row_of cells)) (id_of k cell.given) ≡ None
  vacant_reused last k cells cell a n l e none low =
      found_in_cells last cells (id_of k cell.given) k cell (is_id k cell.given (omega arith) low) a n (slot_of_id k cell.given (omega arith)) l e
      ∙ cond_same (eqb cell.given (generation_of (id_of k cell.given) + 1)) cell.value none

  pub vacant_fresh : (last k : ℕ) (cells : List (Cell T)) → AreGoodRows last (map row_of cells) → length cells < 16777216 → k ≡ length cells → find (entries_from 0 (map row_of cells)) (id_of k 0) ≡ None
  vacant_fresh last k cells a n e =
      value_past_cells last cells (id_of k 0) (is_id k 0 (omega arith) (omega arith)) a (omega arith) (let q = slot_of_id k 0 (omega arith) in omega arith)
