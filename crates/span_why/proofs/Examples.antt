-- Worked cases of the definitions, computed from them alone.
use Rattle.std.proofs.Common.{◌≡◌, ℕ, List, [], ◌∷◌, Option, Some, None, codes, refl}
use Rattle.std.specs.Fmt.{digits}
use Rattle.span_id.specs.declared.level.Level.TheVariants.{Info}
use Rattle.span_why.specs.Why.{PlainOpenSpan, GrowsByFront, exits_text, inside_text, tree_lines, all_trees, whole_tree, lines_with, why_text, why_of_text}

abbrev with_parent : ℕ → Option ℕ → PlainOpenSpan
with_parent id parent = record {
  details = record { id = id; meta = record { name = codes "a"; target = codes "app"; level = Info }; parent = parent; handles = 1; workers = []; children = 0 };
  inside = [];
  line = id;
}

-- 1 has the child 2, and that one the child 4; 3 is a root
abbrev four : List PlainOpenSpan
four = with_parent 1 None ∷ with_parent 2 (Some 1) ∷ with_parent 3 None ∷ with_parent 4 (Some 2) ∷ []

-- ---- who is inside

one_exit_is_not_told : exits_text 1 ≡ []
one_exit_is_not_told = refl

more_exits_are_told : exits_text 2 ≡ codes " (one entry, 2 exits)"
unfolding digits
more_exits_are_told = refl

nobody_is_inside : inside_text [] ≡ codes " -"
nobody_is_inside = refl

two_are_inside : inside_text (record { worker = 0; exits = 1 } ∷ record { worker = 7; exits = 3 } ∷ []) ≡ codes " w0 w7 (one entry, 3 exits)"
unfolding digits
two_are_inside = refl

-- ---- trees

-- each child stands one step deeper than its parent
a_child_stands_one_step_deeper :
    all_trees four ≡ record { depth = 0; span = with_parent 1 None } ∷ record { depth = 1; span = with_parent 2 (Some 1) } ∷ record { depth = 2; span = with_parent 4 (Some 2) } ∷ record { depth = 0; span = with_parent 3 None } ∷ []
unfolding tree_lines
a_child_stands_one_step_deeper = refl

-- a tree begins at its span, wherever that stands
a_tree_begins_at_its_span : whole_tree four (with_parent 2 (Some 1)) ≡ record { depth = 0; span = with_parent 2 (Some 1) } ∷ record { depth = 1; span = with_parent 4 (Some 2) } ∷ []
unfolding tree_lines
a_tree_begins_at_its_span = refl

an_open_span_has_one_line : lines_with 4 (all_trees four) ≡ 1
unfolding tree_lines
an_open_span_has_one_line = refl

another_id_has_none : lines_with 5 (all_trees four) ≡ 0
unfolding tree_lines
another_id_has_none = refl

-- ---- the text

nothing_is_open : why_text [] ≡ codes "open 0\n"
unfolding digits
nothing_is_open = refl

a_child_is_below_its_parent :
    why_text (with_parent 1 None ∷ with_parent 2 (Some 1) ∷ []) ≡ codes "open 2\n1 a INFO handles 1 inside - line 1 target app\n  2 a INFO handles 1 inside - line 2 target app\n"
unfolding tree_lines digits
a_child_is_below_its_parent = refl

one_span_alone : why_of_text (with_parent 1 None ∷ with_parent 2 (Some 1) ∷ []) (Some 2) ≡ codes "open 2\n2 a INFO handles 1 inside - line 2 target app\n"
unfolding tree_lines digits
one_span_alone = refl

one_that_is_not_open : why_of_text (with_parent 1 None ∷ []) (Some 3) ≡ codes "open 1\nnot open\n"
unfolding digits
one_that_is_not_open = refl

-- ---- fronts

-- where memory is refused before the first line, nothing was written
nothing_is_a_front : GrowsByFront (codes "kept") (codes "kept") (codes "open 0\n")
nothing_is_a_front = record { front = []; rest = codes "open 0\n"; whole = refl; grown = refl }

-- the whole text is its own front
the_whole_is_a_front : GrowsByFront (codes "kept") (codes "keptopen 0\n") (codes "open 0\n")
the_whole_is_a_front = record { front = codes "open 0\n"; rest = []; whole = refl; grown = refl }
