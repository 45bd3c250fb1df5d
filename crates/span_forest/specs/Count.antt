-- What holds a span: its holders, which are handles and entries, and its open children.
use Rattle.std.specs.Prelude.{ℕ, ◌+◌, ◌==◌, Bool, false, cond, nat_lt, [], ◌∷◌, Option, Some, None}
use Rattle.span_forest.specs.Node.{Node}
use Rattle.span_slots.specs.Table.{find}
use Rattle.span_forest.specs.Spans.{Spans}

-- how many handles and entries hold a span
abbrev pub holders : Node → ℕ
holders node = node.handles + node.entries

-- some handle or entry holds the span
abbrev pub is_held : Node → Bool
is_held node = nat_lt 0 (holders node)

-- how many handles and entries hold a span; 0 where there is no span
abbrev pub holders_in : Option Node → ℕ
holders_in None = 0
holders_in (Some node) = holders node

-- the parent of a span, if it has one, is this id
abbrev pub is_parent : Option ℕ → ℕ → Bool
is_parent None id = false
is_parent (Some parent) id = parent == id

-- how many open spans have this parent
abbrev pub children : Spans → ℕ → ℕ
children [] id = 0
children (e ∷ es) id = cond (is_parent e.1.parent id) 1 0 + children es id

-- the reference count of a span: its holders, and the open spans whose parent it is
abbrev pub reference_count : Spans → ℕ → ℕ
reference_count spans id = holders_in (find spans id) + children spans id

-- how many holders all spans have
abbrev pub total_held : Spans → ℕ
total_held [] = 0
total_held (e ∷ es) = holders e.1 + total_held es

-- how many handles all spans have
abbrev pub total_handles : Spans → ℕ
total_handles [] = 0
total_handles (e ∷ es) = e.1.handles + total_handles es
