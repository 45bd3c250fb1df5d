-- What the root knows: the id and the number of each handle, and the mark of each slot.
use Rattle.std.specs.Prelude.{◌≡◌, ◌≢◌, ℕ, ◌+◌, ◌-◌, ◌<◌, List, [], ◌∷◌, length, replicate, slice_index, slice_set}
use Rattle.std.specs.Prelude.{Bool, true, false, ◌&&◌, ◌||◌, if◌then◌else◌, ◌==◌}
use Rattle.span_id.specs.Id.{id_of, slot_of, generation_of}
use Rattle.span_id.specs.Ids.{has}
use Rattle.span_seats.specs.declared.view.HandleView.{HandleView}
use Rattle.span_seats.specs.declared.view.RootView.{RootView}

-- no span is open: no handle, and each mark 0
abbrev pub empty_table : ℕ → RootView
empty_table slots = record { handles = []; next_number = 0; words = replicate slots 0; split_id = 0 }

-- the span of this id is open: its slot's mark is its generation plus 1
abbrev pub IsOpenIn : List ℕ → ℕ → Type 0
IsOpenIn words id = slice_index words (slot_of id) ≡ generation_of id + 1

-- the number stands in the id's set
abbrev pub has_number : ℕ → ℕ → List HandleView → Bool
has_number id number [] = false
has_number id number (h ∷ hs) = ((h.id == id) && (h.number == number)) || has_number id number hs

-- the sets after the number has left the id's set
abbrev pub without : ℕ → ℕ → List HandleView → List HandleView
without id number [] = []
without id number (h ∷ hs) = if (h.id == id) && (h.number == number) then hs else h ∷ without id number hs

-- the size of the id's set
abbrev pub handle_count : ℕ → List HandleView → ℕ
handle_count id [] = 0
handle_count id (h ∷ hs) = (if h.id == id then 1 else 0) + handle_count id hs

-- no id of the slot has a handle
abbrev pub HasNoHandle : List HandleView → ℕ → Type 0
HasNoHandle handles slot = (id number : ℕ) → has_number id number handles ≡ true → slot_of id ≢ slot

-- a slot gets another mark, and the next handle is of the id that both name
abbrev pub stored : RootView → ℕ → ℕ → RootView
stored root slot word = record root { words = slice_set root.words slot word; split_id = id_of slot (word - 1) }

-- one handle more: the next number joins the id's set
abbrev pub with_number : RootView → RootView
with_number root =
    let handle : HandleView = record { id = root.split_id; number = root.next_number } in
    record root { handles = handle ∷ root.handles; next_number = root.next_number + 1 }

-- one handle less: the number leaves the id's set, and the next handle is of that id
abbrev pub without_number : RootView → ℕ → ℕ → RootView
without_number root id number = record root { handles = without id number root.handles; split_id = id }

-- the slots of these ids are there, and no id of them has a handle
abbrev pub MayClose : RootView → List ℕ → Type 0
MayClose root ids =
    (id : ℕ) → has ids id ≡ true → (slot_of id < length root.words) × HasNoHandle root.handles (slot_of id)

-- the marks after those of these ids are set to 0
abbrev pub closed_words : List ℕ → List ℕ → List ℕ
closed_words words [] = words
closed_words words (id ∷ ids) = closed_words (slice_set words (slot_of id) 0) ids
