-- What a stack keeps for each entered span: no public clause cites it.
use Rattle.std.specs.Prelude.{◌≡◌, ℕ, ◌-◌, ◌≤◌, not, List, [], ◌∷◌, ◌++◌, false, length, reverse, map, filter}
use Rattle.smallvec.specs.SmallVec.{SmallVec}
use Rattle.span_id.specs.Ids.{has}
use Rattle.span_stack.specs.declared.entry.Entry.{Entry}
use Rattle.span_stack.specs.Stack.{Stack}

-- the ids of the entries
abbrev pub ids_of : List Entry → List ℕ
ids_of entries = map (λ entry. entry.id) entries

-- each flag says whether the id stands among those before it
abbrev pub AreFlagged : List ℕ → List Entry → Type 0
AreFlagged before [] = Unit {0}
AreFlagged before (entry ∷ above) =
    (entry.duplicate ≡ has before entry.id) × AreFlagged (entry.id ∷ before) above

-- the flags are right, and there is place for what is there
pub record IsSound (entries : SmallVec Entry) : Type 0 where
  pub flagged : AreFlagged [] entries.items
  pub fits : length entries.items ≤ entries.capacity

-- the ids and the room of these entries
abbrev pub stack_of : SmallVec Entry → Stack
stack_of entries = record { ids = ids_of entries.items; room = entries.capacity - length entries.items }

-- the ids of those that aren't flagged, topmost first
abbrev pub unflagged : List Entry → List ℕ
unflagged entries = reverse (ids_of (filter (λ entry. not entry.duplicate) entries))

-- the topmost entry of the id stands at this place: above it the id doesn't stand
pub record IsLastPlace (entries : List Entry) (id place : ℕ) : Type 0 where
  pub below : List Entry
  pub entry : Entry
  pub above : List Entry
  pub was : entries ≡ below ++ entry ∷ above
  pub place_is : place ≡ length below
  pub id_is : entry.id ≡ id
  pub last : has (ids_of above) id ≡ false
