use Rattle.std.proofs.Common.{map, flat_map}
use Rattle.span_why.specs.Why.{plain_open_span, whole_tree}
use Rattle.span_why.specs.inside.Pending.{Leaves, lines_text, pending_lines, pending_size}
use Rattle.span_why.proofs.Trees.{plain_at}
use Rattle.span_why.proofs.tree.append_trees.Given as goal

-- what is written comes before the trees that are left
abbrev pub invariant-next : goal.invariant-next
invariant-next l =
    Leaves l.initial.text.items l.text.items (lines_text (flat_map (whole_tree (map plain_open_span l.spans)) (map plain_at l.starts))) (lines_text (pending_lines (map plain_open_span l.spans) l.pending.items))

abbrev pub decreases-next : goal.decreases-next
decreases-next l = pending_size (map plain_open_span l.spans) l.pending.items
