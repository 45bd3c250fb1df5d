-- Trees that are still to be written: no public clause cites it.
use Rattle.std.specs.Prelude.{◌≡◌, ℕ, zero, suc, ◌+◌, ◌-◌, List, ◌++◌, length, flat_map, reverse, sum_by}
use Rattle.span_why.specs.Why.{PlainOpenSpan, TreeLine, plain_open_span, children_of, tree_lines, line_text}
use Rattle.span_why.specs.declared.tree.Pending.{Pending}

-- the lines of the tree of a span that stands so deep, whose root's tree has as many levels as there are open spans
abbrev pub tree_from : List PlainOpenSpan → ℕ → PlainOpenSpan → List TreeLine
tree_from spans depth span = tree_lines spans (length spans - depth) depth span

-- the lines of one of the trees
abbrev pub pending_tree : List PlainOpenSpan → Pending → List TreeLine
pending_tree spans at = tree_from spans at.depth (plain_open_span at.span.now)

-- what is still to be written, the last one first
abbrev pub pending_lines : List PlainOpenSpan → List Pending → List TreeLine
pending_lines spans pending = flat_map (pending_tree spans) (reverse pending)

abbrev pub lines_text : List TreeLine → List ℕ
lines_text lines = flat_map line_text lines

-- the text grew by what comes before the rest of the whole
pub record Leaves (old new whole rest : List ℕ) : Type 0 where
  pub front : List ℕ
  pub is : whole ≡ front ++ rest
  pub grown : new ≡ old ++ front

-- how many lines and how many ends of trees so many levels of a tree have at most
unfoldable pub tree_size : List PlainOpenSpan → ℕ → PlainOpenSpan → ℕ
tree_size spans zero span = 1
tree_size spans (suc levels) span = 1 + sum_by (tree_size spans levels) (children_of spans span.details.id)

abbrev pub size_of : List PlainOpenSpan → Pending → ℕ
size_of spans at = tree_size spans (length spans - at.depth) (plain_open_span at.span.now)

abbrev pub pending_size : List PlainOpenSpan → List Pending → ℕ
pending_size spans pending = sum_by (size_of spans) (reverse pending)
