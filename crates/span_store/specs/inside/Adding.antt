-- How a new span is counted at its parent: no public clause cites it.
use Rattle.std.specs.Prelude.{ℕ, ◌+◌, Option, Some, None}
use Rattle.span_slots.specs.Table.{Table, find, with_value}
use Rattle.span_store.specs.declared.entry.Entry.{Entry}

-- the table with one child more of a span that is there
abbrev pub child_at : Table Entry → ℕ → Option Entry → Table Entry
child_at t parent None = t
child_at t parent (Some above) = record t {
  entries = with_value t.entries parent (record above { children = above.children + 1 });
}

abbrev pub child_in : Table Entry → Option ℕ → Table Entry
child_in t None = t
child_in t (Some parent) = child_at t parent (find t.entries parent)
