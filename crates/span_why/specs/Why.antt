-- The text that tells why spans are open: each open span below its parent, with what keeps it open.
use Rattle.std.specs.Prelude.{◌≡◌, ℕ, zero, suc, ◌+◌, ◌==◌, nat_lt, min, if◌then◌else◌, Bool, false, not, List, [], ◌∷◌, ◌++◌, length, filter, find, flat_map, count_by, codes, decimal, Option, Some, None, is_some, option_and_then}
use Rattle.std.specs.Option.{option_map_or}
use Rattle.span_id.specs.Level.{level_name}
use Rattle.span_layers.specs.Text.{escaped}
use Rattle.span_core.specs.Details.{PlainDetails, plain_details}
use Rattle.span_why.specs.declared.open_span.Inside.{Inside}
use Rattle.span_why.specs.declared.open_span.OpenSpan.{OpenSpan}

-- an open span: its details, the workers that are inside it with how many exits each needs, and the number of the line
-- that made it
pub record PlainOpenSpan : Type 0 where
  pub details : PlainDetails
  pub inside : List Inside
  pub line : ℕ

-- an open span as plain values
abbrev pub plain_open_span : OpenSpan → PlainOpenSpan
plain_open_span span =
    record { details = plain_details span.details; inside = span.inside.items; line = span.line }

-- ---- who stands below whom

-- a root has no parent
abbrev pub is_root : PlainOpenSpan → Bool
is_root span = not (is_some span.details.parent)

-- a child's parent is the span with this id
abbrev pub is_child : ℕ → PlainOpenSpan → Bool
is_child id span = option_map_or (λ parent. parent == id) span.details.parent false

-- the open spans without a parent, in their order
abbrev pub roots : List PlainOpenSpan → List PlainOpenSpan
roots spans = filter is_root spans

-- the open children of a span, in their order
abbrev pub children_of : List PlainOpenSpan → ℕ → List PlainOpenSpan
children_of spans id = filter (is_child id) spans

-- ---- the line of a span

-- two blanks for each level
abbrev pub blanks : ℕ → List ℕ
blanks zero = []
blanks (suc levels) = codes "  " ++ blanks levels

-- a span that stands so deep is indented by its depth, by 32 levels at most
abbrev pub indent : ℕ → List ℕ
indent depth = blanks (min depth 32)

-- a worker that has entered a span again has to leave it more than once
abbrev pub needs_more_exits : ℕ → Bool
needs_more_exits exits = nat_lt 1 exits

-- where it needs more exits than one: how many, and that one entry holds the span for all of them
abbrev pub exits_text : ℕ → List ℕ
exits_text exits =
    if needs_more_exits exits then codes " (one entry, " ++ (decimal exits ++ codes " exits)") else []

-- ` w<worker>`, and how many exits it needs, where they are more than one
abbrev pub worker_text : Inside → List ℕ
worker_text inside = codes " w" ++ (decimal inside.worker ++ exits_text inside.exits)

-- the workers that are inside, or a dash
abbrev pub inside_text : List Inside → List ℕ
inside_text [] = codes " -"
inside_text workers = flat_map worker_text workers

-- `<id> <name> <LEVEL> handles <n> inside`
abbrev pub about_text : PlainDetails → List ℕ
about_text details =
    decimal details.id ++ (codes " " ++ (details.meta.name ++ (codes " " ++ (level_name details.meta.level
    ++ (codes " handles " ++ (decimal details.handles ++ codes " inside"))))))

-- ` line <n> target <target>`
abbrev pub origin_text : PlainOpenSpan → List ℕ
origin_text span =
    codes " line " ++ (decimal span.line ++ (codes " target " ++ (escaped span.details.meta.target ++ codes "\n")))

-- the line of a span that stands so deep
abbrev pub span_line : ℕ → PlainOpenSpan → List ℕ
span_line depth span = indent depth ++ (about_text span.details ++ (inside_text span.inside ++ origin_text span))

-- ---- trees

-- a line of the text: the span that it shows, and how deep that stands in its tree
pub record TreeLine : Type 0 where
  pub depth : ℕ
  pub span : PlainOpenSpan

-- the lines of the tree of a span that stands so deep: its own, and then those of its children's trees, each of which
-- stands one step deeper. So many levels are shown at most.
unfoldable pub tree_lines : List PlainOpenSpan → ℕ → ℕ → PlainOpenSpan → List TreeLine
tree_lines spans zero depth span = []
tree_lines spans (suc levels) depth span =
    record { depth = depth; span = span } ∷
    flat_map (tree_lines spans levels (depth + 1)) (children_of spans span.details.id)

-- the lines of the whole tree of a span, from that span on: no tree has more levels than there are open spans
abbrev pub whole_tree : List PlainOpenSpan → PlainOpenSpan → List TreeLine
whole_tree spans span = tree_lines spans (length spans) 0 span

-- the lines of all open spans: the tree of each root
abbrev pub all_trees : List PlainOpenSpan → List TreeLine
all_trees spans = flat_map (whole_tree spans) (roots spans)

-- how many lines show the span with this id
abbrev pub lines_with : ℕ → List TreeLine → ℕ
lines_with id lines = count_by (λ line. line.span.details.id == id) lines

-- the text of a line: that of its span at its depth
abbrev pub line_text : TreeLine → List ℕ
line_text line = span_line line.depth line.span

-- ---- the text

-- how many spans are open
abbrev pub open_line : List PlainOpenSpan → List ℕ
open_line spans = codes "open " ++ (decimal (length spans) ++ codes "\n")

-- how many spans are open, and the tree of each root
abbrev pub why_text : List PlainOpenSpan → List ℕ
why_text spans = open_line spans ++ flat_map line_text (all_trees spans)

-- the open span with this id, if there is one
abbrev pub span_at : List PlainOpenSpan → Option ℕ → Option PlainOpenSpan
span_at spans id = option_and_then (λ id. find (λ span. span.details.id == id) spans) id

-- its tree, or that it isn't open
abbrev pub one_text : List PlainOpenSpan → Option PlainOpenSpan → List ℕ
one_text spans None = codes "not open\n"
one_text spans (Some span) = flat_map line_text (whole_tree spans span)

-- how many spans are open, and the tree of one span
abbrev pub why_of_text : List PlainOpenSpan → Option ℕ → List ℕ
why_of_text spans id = open_line spans ++ one_text spans (span_at spans id)

-- the text grew by a front of what is meant, and by nothing else
pub record GrowsByFront (old new meant : List ℕ) : Type 0 where
  pub front : List ℕ
  pub rest : List ℕ
  pub whole : meant ≡ front ++ rest
  pub grown : new ≡ old ++ front
