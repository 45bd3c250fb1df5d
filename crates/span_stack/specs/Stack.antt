-- A stack of entered spans, as a list of their ids, the topmost last.
use Rattle.std.specs.Prelude.{◌≡◌, ℕ, false, not, ◌==◌, if◌then◌else◌, List, [], ◌∷◌, ◌++◌, reverse, map, filter, Option, slice_get}
use Rattle.span_id.specs.Ids.{has}

-- what a contract sees of a `SpanStack`: the ids of its entries, the topmost last,
-- and how many more entries it takes with no further memory
pub record Stack : Type 0 where
  pub ids : List ℕ
  pub room : ℕ

-- The ids in the order of their first places. An entry is no duplicate if it stands at the first
-- place of its id, so these are the entries that are no duplicates: the lowest entry, then those
-- of the entries above it that have other ids.
abbrev pub first_places : List ℕ → List ℕ
first_places [] = []
first_places (lowest ∷ above) = lowest ∷ filter (λ id. not (id == lowest)) (first_places above)

-- the entries that are no duplicates, topmost first
abbrev pub distinct_from_top : List ℕ → List ℕ
distinct_from_top ids = reverse (first_places ids)

-- the topmost entry that is no duplicate
abbrev pub current : List ℕ → Option ℕ
current ids = slice_get (distinct_from_top ids) 0

-- the topmost entry
abbrev pub top : List ℕ → Option ℕ
top ids = slice_get (reverse ids) 0

-- the stack without the last place of an id
abbrev pub without_last : List ℕ → ℕ → List ℕ
without_last [] id = []
without_last (lowest ∷ above) id =
    if has above id then lowest ∷ without_last above id else (if lowest == id then above else lowest ∷ above)

-- new is old without the last place of the id: above it the id doesn't stand
pub record TakesLast (old : List ℕ) (id : ℕ) (new : List ℕ) : Type 0 where
  pub below : List ℕ
  pub above : List ℕ
  pub was : old ≡ below ++ id ∷ above
  pub last : has above id ≡ false
  pub left : new ≡ below ++ above

-- the ids of each of several stacks
abbrev pub ids_of_each : List Stack → List (List ℕ)
ids_of_each stacks = map (λ stack. stack.ids) stacks
