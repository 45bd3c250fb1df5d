-- The spans that are there: a finite map from ids to spans, as pairs by ascending slot.
use Rattle.std.specs.Prelude.{ℕ, ◌+◌, ◌==◌, ◌&&◌, Bool, cond, nat_eq, nat_lt, List, [], ◌∷◌, Option, Some, None, is_some, IsSome, IsTrue}
use Rattle.std.specs.Option.{option_eq}
use Rattle.span_slots.specs.Table.{find}
use Rattle.span_store.specs.StoredSpan.{StoredSpan}

-- pairs of an id and its span
abbrev pub StoredSpans : Type 0
StoredSpans = List (ℕ × StoredSpan)

-- the span is there
abbrev pub IsThere : StoredSpans → ℕ → Type 0
IsThere spans id = IsSome (find spans id)

-- the parent, where there is a span and it has one
abbrev pub parent_if_there : Option StoredSpan → Option ℕ
parent_if_there None = None
parent_if_there (Some span) = span.parent

-- the parent of a span, if it is there and has one
abbrev pub parent_there : StoredSpans → ℕ → Option ℕ
parent_there spans id = parent_if_there (find spans id)

-- how many handles a span has; 0 where there is no span
abbrev pub handles_if_there : Option StoredSpan → ℕ
handles_if_there None = 0
handles_if_there (Some span) = span.handles

-- how many handles a span has
abbrev pub handles_of : StoredSpans → ℕ → ℕ
handles_of spans id = handles_if_there (find spans id)

-- how many spans that are there have this parent
abbrev pub children_there : StoredSpans → ℕ → ℕ
children_there [] id = 0
children_there (e ∷ es) id = cond (option_eq nat_eq e.1.parent (Some id)) 1 0 + children_there es id

-- what holds a span: its handles, and the spans that are there whose parent it is
abbrev pub count : StoredSpans → ℕ → ℕ
count spans id = handles_of spans id + children_there spans id

-- the span is there, and something holds it still: a handle, or a child that is there
abbrev pub is_still_held : StoredSpans → ℕ → Bool
is_still_held spans id = is_some (find spans id) && nat_lt 0 (count spans id)

-- the span is there and nothing holds it any longer: no handle, and no child that is there
abbrev pub is_closing : StoredSpans → ℕ → Bool
is_closing spans id = is_some (find spans id) && count spans id == 0

-- a span is still held where it is there and something holds it
abbrev pub IsStillHeld : StoredSpans → ℕ → Type 0
IsStillHeld spans id = IsTrue (is_still_held spans id)

-- a span is closing where it is there and nothing holds it any longer
abbrev pub IsClosing : StoredSpans → ℕ → Type 0
IsClosing spans id = IsTrue (is_closing spans id)

-- how many handles all spans have
abbrev pub all_handles : StoredSpans → ℕ
all_handles [] = 0
all_handles (e ∷ es) = e.1.handles + all_handles es
