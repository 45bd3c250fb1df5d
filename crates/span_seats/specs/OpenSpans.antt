-- What the seats ask of a core, which they see by two functions of an id.
use Rattle.std.specs.Prelude.{◌≡◌, ◌≢◌, ℕ, ◌+◌, ◌<◌, List, length, slice_index}
use Rattle.std.specs.Prelude.{Bool, true, not, ◌&&◌, ◌||◌, if◌then◌else◌, ◌==◌}
use Rattle.span_id.specs.Id.{slot_of}
use Rattle.span_id.specs.Ids.{has}
use Rattle.span_seats.specs.declared.view.RootView.{RootView}
use Rattle.span_seats.specs.RootView.{handle_count, IsOpenIn}

-- which ids are open, and how many handles each has
pub record OpenSpans : Type 0 where
  pub is_open : ℕ → Bool
  pub handles : ℕ → ℕ

-- an id with a handle is open, and no two open ids have one slot
pub record IsSound (spans : OpenSpans) : Type 0 where
  pub held : (id : ℕ) → 0 < spans.handles id → spans.is_open id ≡ true
  pub positive : (id : ℕ) → spans.is_open id ≡ true → 0 < id
  pub alone : (a b : ℕ) → spans.is_open a ≡ true → spans.is_open b ≡ true → slot_of a ≡ slot_of b → a ≡ b

-- a span is opened in a slot that no open span has, with one handle
pub record IsAdded (id slots : ℕ) (before after : OpenSpans) : Type 0 where
  pub positive : 0 < id
  pub slot_in : slot_of id < slots
  pub free : (x : ℕ) → before.is_open x ≡ true → slot_of x ≢ slot_of id
  pub rest : (x : ℕ) → after.is_open x ≡ ((id == x) || before.is_open x)
  pub one_more : (x : ℕ) → after.handles x ≡ (if id == x then 1 else 0) + before.handles x

-- a span has one handle more
pub record IsCloned (id : ℕ) (before after : OpenSpans) : Type 0 where
  pub rest : (x : ℕ) → after.is_open x ≡ before.is_open x
  pub one_more : (x : ℕ) → after.handles x ≡ (if id == x then 1 else 0) + before.handles x

-- a holder of the id is given back, a handle where `with_handle` is true, and these ids are closed
pub record IsReleased (with_handle : Bool) (id : ℕ) (closed : List ℕ) (before after : OpenSpans) : Type 0 where
  pub fewer : (x : ℕ) → before.handles x ≡ (if with_handle && (id == x) then 1 else 0) + after.handles x
  pub rest : (x : ℕ) → after.is_open x ≡ (before.is_open x && not (has closed x))
  pub were : (x : ℕ) → has closed x ≡ true → before.is_open x ≡ true

-- the root and a core of so many slots agree
pub record Agree (root : RootView) (slots : ℕ) (spans : OpenSpans) : Type 0 where
  -- the size of each id's set is the number of its handles
  pub counted : (id : ℕ) → handle_count id root.handles ≡ spans.handles id
  pub sized : length root.words ≡ slots
  -- the word of an open span's slot is its generation plus 1 ..
  pub opened : (id : ℕ) → spans.is_open id ≡ true → (slot_of id < slots) × IsOpenIn root.words id
  -- .. and of any other slot 0
  pub vacant : (slot : ℕ) → ((id : ℕ) → spans.is_open id ≡ true → slot_of id ≢ slot) → slice_index root.words slot ≡ 0
