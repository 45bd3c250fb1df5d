-- Texts of trees that are still to be written.
use Rattle.std.proofs.Common.{◌≡◌, ℕ, zero, suc, ◌+◌, ◌-◌, ◌<◌, ◌≤◌, false, List, [], ◌∷◌, ◌++◌, length, map, drop, get_or, reverse, flat_map, sum_by, codes, refl, sym, ap, ◌∙◌, arith, append_assoc, append-nil, Global}
use Rattle.std.specs.Prelude.{◌==◌, Option, Some, None, Result, Ok, Err, OnErr, Vec}
use Rattle.std.specs.Option.{option_map_or}
use Rattle.std.specs.Borrow.{Bor}
use Rattle.std.proofs.lemmas.List.{reverse-append, drop_more, length-map}
use Rattle.std.proofs.lemmas.List.Concat.{flat_map-append}
use Rattle.std.proofs.lemmas.List.Folds.{flat_map-map}
use Rattle.std.proofs.lemmas.List.Sums.{sum_by-append, sum_by-cons}
use Rattle.span_why.specs.Why.{GrowsByFront, PlainOpenSpan, TreeLine, plain_open_span, children_of, tree_lines, whole_tree, line_text, span_line, blanks, inside_text, worker_text}
use Rattle.span_why.specs.inside.Pending.{Leaves, tree_from, pending_tree, pending_lines, lines_text, tree_size, size_of, pending_size}
use Rattle.span_why.specs.declared.tree.Pending.{Pending}
use Rattle.span_why.specs.declared.open_span.Inside.{Inside}
use Rattle.span_why.specs.declared.open_span.OpenSpan.{OpenSpan}

-- two blanks and those of a level less
pub blanks_less : (levels : ℕ) → 0 < levels → blanks levels ≡ codes "  " ++ blanks (levels - 1)
blanks_less zero h = absurd (omega (arith, h))
blanks_less (suc levels) h = let e : suc levels - 1 ≡ levels = omega arith in ap (λ n. codes "  " ++ blanks n) (sym e)

-- somebody is inside
pub some_inside : (workers : List Inside) → (length workers == 0) ≡ false → inside_text workers ≡ flat_map worker_text workers
some_inside [] h = cc
some_inside (worker ∷ workers) h = refl

-- ---- what is left to be written

abbrev pub plain_at : Bor OpenSpan → PlainOpenSpan
plain_at span = plain_open_span span.now

abbrev pub next_at : ℕ → Bor OpenSpan → Pending
next_at depth span = record { depth = depth; span = span }

abbrev pub size_from : List PlainOpenSpan → ℕ → PlainOpenSpan → ℕ
size_from S depth span = tree_size S (length S - depth) span

sum_by-map : {A B : Type 0} (f : B → ℕ) (v : A → B) (xs : List A) → sum_by f (map v xs) ≡ sum_by (λ x. f (v x)) xs
sum_by-map f v [] = refl
sum_by-map {A} {B} f v (x ∷ xs) = sum_by-cons f (v x) (map v xs) ∙ ap (λ n. f (v x) + n) (sum_by-map f v xs) ∙ sym (sum_by-cons (λ (y : A). f (v y)) x xs)

-- one more is left, before those after it
pub one_left : (mk : Bor OpenSpan → Pending) (pending new rest : List Pending) (spans : List (Bor OpenSpan)) (n : ℕ) (span : Bor OpenSpan) → 0 < n → n ≤ length spans → span ≡ get_or spans (n - 1) span
    → new ≡ pending ++ mk span ∷ [] → reverse pending ≡ map mk (drop n spans) ++ rest → reverse new ≡ map mk (drop (n - 1) spans) ++ rest
one_left mk pending new rest spans n span low high is pushed so_far =
    let first : drop (n - 1) spans ≡ get_or spans (n - 1) span ∷ drop (n - 1 + 1) spans = drop_more spans (n - 1) span (omega (arith, low, high)) in
    let same : n - 1 + 1 ≡ n = omega (arith, low) in
    ap reverse pushed
    ∙ reverse-append pending (mk span ∷ [])
    ∙ ap (λ x. mk span ∷ x) so_far
    ∙ ap (λ x. map mk x ++ rest) (ap (λ s. s ∷ drop n spans) is ∙ ap (λ m. get_or spans (n - 1) span ∷ drop m spans) (sym same) ∙ sym first)

-- the trees of these spans are left, before those that were
pub left_lines : (S : List PlainOpenSpan) (depth : ℕ) (spans : List (Bor OpenSpan)) (new old : List Pending) (kin : List PlainOpenSpan) → reverse new ≡ map (next_at depth) spans ++ reverse old → map plain_at spans ≡ kin
    → pending_lines S new ≡ flat_map (tree_from S depth) kin ++ pending_lines S old
left_lines S depth spans new old kin is same =
    ap (flat_map (pending_tree S)) is
    ∙ flat_map-append (pending_tree S) (map (next_at depth) spans) (reverse old)
    ∙ ap (λ x. x ++ pending_lines S old) (flat_map-map (pending_tree S) (next_at depth) spans ∙ sym (flat_map-map (tree_from S depth) plain_at spans) ∙ ap (flat_map (tree_from S depth)) same)

pub left_size : (S : List PlainOpenSpan) (depth : ℕ) (spans : List (Bor OpenSpan)) (new old : List Pending) (kin : List PlainOpenSpan) → reverse new ≡ map (next_at depth) spans ++ reverse old → map plain_at spans ≡ kin
    → pending_size S new ≡ sum_by (size_from S depth) kin + pending_size S old
left_size S depth spans new old kin is same =
    ap (sum_by (size_of S)) is
    ∙ sum_by-append (size_of S) (map (next_at depth) spans) (reverse old)
    ∙ ap (λ x. x + pending_size S old) (sum_by-map (size_of S) (next_at depth) spans ∙ sym (sum_by-map (size_from S depth) plain_at spans) ∙ ap (sum_by (size_from S depth)) same)

-- ---- a tree that begins so deep

none_at : (S : List PlainOpenSpan) (levels depth : ℕ) (span : PlainOpenSpan) → levels ≡ 0 → tree_lines S levels depth span ≡ []
unfolding tree_lines
none_at S levels depth span e = ap (λ n. tree_lines S n depth span) e

more_at : (S : List PlainOpenSpan) (levels below depth : ℕ) (span : PlainOpenSpan) → levels ≡ suc below
    → tree_lines S levels depth span ≡ record { depth = depth; span = span } ∷ flat_map (tree_lines S below (depth + 1)) (children_of S span.details.id)
unfolding tree_lines
more_at S levels below depth span e = ap (λ n. tree_lines S n depth span) e

one_at : (S : List PlainOpenSpan) (levels : ℕ) (span : PlainOpenSpan) → levels ≡ 0 → tree_size S levels span ≡ 1
unfolding tree_size
one_at S levels span e = ap (λ n. tree_size S n span) e

sized_at : (S : List PlainOpenSpan) (levels below : ℕ) (span : PlainOpenSpan) → levels ≡ suc below → tree_size S levels span ≡ 1 + sum_by (tree_size S below) (children_of S span.details.id)
unfolding tree_size
sized_at S levels below span e = ap (λ n. tree_size S n span) e

-- it has no line where it would stand deeper than the trees have levels
pub no_lines : (S : List PlainOpenSpan) (depth : ℕ) (span : PlainOpenSpan) → length S ≤ depth → lines_text (tree_from S depth span) ≡ []
no_lines S depth span h = ap lines_text (none_at S (length S - depth) depth span (omega (arith, h)))

pub no_size : (S : List PlainOpenSpan) (depth : ℕ) (span : PlainOpenSpan) → length S ≤ depth → size_from S depth span ≡ 1
no_size S depth span h = one_at S (length S - depth) span (omega (arith, h))

-- the lines of its children's trees
abbrev pub lines_below : List PlainOpenSpan → ℕ → PlainOpenSpan → List TreeLine
lines_below S depth span = flat_map (tree_from S (depth + 1)) (children_of S span.details.id)

tree_more : (S : List PlainOpenSpan) (depth : ℕ) (span : PlainOpenSpan) → depth < length S → lines_text (tree_from S depth span) ≡ span_line depth span ++ lines_text (lines_below S depth span)
tree_more S depth span h = ap lines_text (more_at S (length S - depth) (length S - (depth + 1)) depth span (omega (arith, h)))

tree_sized : (S : List PlainOpenSpan) (depth : ℕ) (span : PlainOpenSpan) → depth < length S → size_from S depth span ≡ 1 + sum_by (size_from S (depth + 1)) (children_of S span.details.id)
tree_sized S depth span h = sized_at S (length S - depth) (length S - (depth + 1)) span (omega (arith, h))

-- from a root on it is whole
pub from_root : (S kin : List PlainOpenSpan) → flat_map (tree_from S 0) kin ≡ flat_map (whole_tree S) kin
from_root S kin = let e : length S - 0 ≡ length S = omega arith in ap (λ n. flat_map (tree_lines S n 0) kin) e

-- the line of a span is written, and its children are left
pub next_leaves : (S : List PlainOpenSpan) (depth : ℕ) (span : PlainOpenSpan) (text written : List ℕ) (old new : List TreeLine) → depth < length S → written ≡ text ++ span_line depth span → new ≡ lines_below S depth span ++ old
    → Leaves text written (lines_text (tree_from S depth span) ++ lines_text old) (lines_text new)
next_leaves S depth span text written old new h line left = record {
  front = span_line depth span;
  is =
      ap (λ t. t ++ lines_text old) (tree_more S depth span h)
      ∙ append_assoc (span_line depth span) (lines_text (lines_below S depth span)) (lines_text old)
      ∙ ap (λ t. span_line depth span ++ t) (sym (ap lines_text left ∙ flat_map-append line_text (lines_below S depth span) old));
  grown = line;
}

-- the line of a span is written, and its children are not
pub next_front : (S : List PlainOpenSpan) (depth : ℕ) (span : PlainOpenSpan) (text written : List ℕ) → depth < length S → written ≡ text ++ span_line depth span → GrowsByFront text written (lines_text (tree_from S depth span))
next_front S depth span text written h line = record { front = span_line depth span; rest = lines_text (lines_below S depth span); whole = tree_more S depth span h; grown = line }

pub next_size : (S : List PlainOpenSpan) (depth : ℕ) (span : PlainOpenSpan) (rest new : ℕ) → depth < length S → new ≡ sum_by (size_from S (depth + 1)) (children_of S span.details.id) + rest → new + 1 ≡ size_from S depth span + rest
next_size S depth span rest new h left = let sized = tree_sized S depth span h in omega (arith, left, sized)

-- no more is left where a span has no children
pub childless : (S : List PlainOpenSpan) (id : ℕ) (kin : List PlainOpenSpan) (depth : ℕ) (rest : List TreeLine) → [] ≡ kin → kin ≡ children_of S id → rest ≡ flat_map (tree_from S depth) (children_of S id) ++ rest
childless S id kin depth rest none same = ap (λ k. flat_map (tree_from S depth) k ++ rest) (none ∙ same)

pub childless_size : (S : List PlainOpenSpan) (id : ℕ) (kin : List PlainOpenSpan) (depth rest : ℕ) → [] ≡ kin → kin ≡ children_of S id → rest ≡ sum_by (size_from S depth) (children_of S id) + rest
childless_size S id kin depth rest none same =
    let nothing : sum_by (size_from S depth) (children_of S id) ≡ 0 = ap (sum_by (size_from S depth)) (sym same ∙ sym none) in
    omega (arith, nothing)

-- the children that the map has
pub with_children : (found : Option (Bor (Vec (Bor OpenSpan) Global))) (children : Bor (Vec (Bor OpenSpan) Global)) (kin : List PlainOpenSpan) → option_map_or (λ (listed : Bor (Vec (Bor OpenSpan) Global)). map plain_at listed.now.items) found [] ≡ kin → found ≡ Some children
    → map plain_at children.now.items ≡ kin
with_children found children kin same some = sym (ap (λ o. option_map_or (λ (listed : Bor (Vec (Bor OpenSpan) Global)). map plain_at listed.now.items) o []) some) ∙ same

pub without_children : (found : Option (Bor (Vec (Bor OpenSpan) Global))) (kin : List PlainOpenSpan) → option_map_or (λ (listed : Bor (Vec (Bor OpenSpan) Global)). map plain_at listed.now.items) found [] ≡ kin → found ≡ None → [] ≡ kin
without_children found kin same none = sym (ap (λ o. option_map_or (λ (listed : Bor (Vec (Bor OpenSpan) Global)). map plain_at listed.now.items) o []) none) ∙ same

-- how many spans the code has
pub past_all : (spans : List OpenSpan) (depth : ℕ) → length spans ≤ depth → length (map plain_open_span spans) ≤ depth
past_all spans depth h = let same = length-map spans plain_open_span in omega (arith, h, same)

pub before_all : (spans : List OpenSpan) (depth : ℕ) → depth < length spans → depth < length (map plain_open_span spans)
before_all spans depth h = let same = length-map spans plain_open_span in omega (arith, h, same)

-- ---- fronts of a text

-- nothing was written
pub front_none : (a b meant : List ℕ) → b ≡ a → GrowsByFront a b meant
front_none a b meant same = record { front = []; rest = meant; whole = refl; grown = same ∙ sym (append-nil a) }

-- a text was written, and a front of what comes after it
pub front_after : (a b c text more : List ℕ) → b ≡ a ++ text → GrowsByFront b c more → GrowsByFront a c (text ++ more)
front_after a b c text more is p = record {
  front = text ++ p.front;
  rest = p.rest;
  whole = ap (λ x. text ++ x) p.whole ∙ sym (append_assoc text p.front p.rest);
  grown = p.grown ∙ ap (λ x. x ++ p.front) is ∙ append_assoc a text p.front;
}

pub leaves_none : (a tree rest : List ℕ) → tree ≡ [] → Leaves a a (tree ++ rest) rest
leaves_none a tree rest none = record { front = []; is = ap (λ t. t ++ rest) none; grown = sym (append-nil a) }

-- the trees of these spans are all left
pub leaves_all : (S : List PlainOpenSpan) (spans : List (Bor OpenSpan)) (new old : List Pending) (text : List ℕ) → old ≡ [] → reverse new ≡ map (next_at 0) spans ++ reverse old
    → Leaves text text (lines_text (flat_map (whole_tree S) (map plain_at spans))) (lines_text (pending_lines S new))
leaves_all S spans new old text none is = record {
  front = [];
  is =
      sym (ap lines_text
      (left_lines S 0 spans new old (map plain_at spans) is refl ∙ ap (λ o. flat_map (tree_from S 0) (map plain_at spans) ++ pending_lines S o) none ∙ append-nil (flat_map (tree_from S 0) (map plain_at spans)) ∙ from_root S (map plain_at spans)));
  grown = sym (append-nil text);
}

-- the first tree that is left, and those after it
pub popped : (S : List PlainOpenSpan) (old new : List Pending) (at : Pending) → old ≡ new ++ at ∷ [] → lines_text (pending_lines S old) ≡ lines_text (pending_tree S at) ++ lines_text (pending_lines S new)
popped S old new at is =
    ap lines_text (ap (flat_map (pending_tree S)) (ap reverse is ∙ reverse-append new (at ∷ [])))
    ∙ flat_map-append line_text (pending_tree S at) (pending_lines S new)

pub leaves_more : (i a b whole left tree rest rest' : List ℕ) → Leaves i a whole left → left ≡ tree ++ rest → Leaves a b (tree ++ rest) rest' → Leaves i b whole rest'
leaves_more i a b whole left tree rest rest' p is q = record {
  front = p.front ++ q.front;
  is = p.is ∙ ap (λ r. p.front ++ r) (is ∙ q.is) ∙ sym (append_assoc p.front q.front rest');
  grown = q.grown ∙ ap (λ x. x ++ q.front) p.grown ∙ append_assoc i p.front q.front;
}

pub leaves_front : (i a b whole left tree rest : List ℕ) → Leaves i a whole left → left ≡ tree ++ rest → GrowsByFront a b tree → GrowsByFront i b whole
leaves_front i a b whole left tree rest p is q = record {
  front = p.front ++ q.front;
  rest = q.rest ++ rest;
  whole =
      p.is
      ∙ ap (λ r. p.front ++ r) (is ∙ ap (λ t. t ++ rest) q.whole ∙ append_assoc q.front q.rest rest)
      ∙ sym (append_assoc p.front q.front (q.rest ++ rest));
  grown = q.grown ∙ ap (λ x. x ++ q.front) p.grown ∙ append_assoc i p.front q.front;
}

pub leaves_end : (i b whole left : List ℕ) → Leaves i b whole left → left ≡ [] → b ≡ i ++ whole
leaves_end i b whole left p none = p.grown ∙ ap (λ w. i ++ w) (sym (p.is ∙ ap (λ r. p.front ++ r) none ∙ append-nil p.front))

-- ---- where memory is refused

pub at_error : {T E X : Type 0} (r : Result T E) → X → OnErr r X
at_error (Ok x) p = tt
at_error (Err e) p = p

pub error_after : {T E : Type 0} (r : Result T E) (a b c text more : List ℕ) → b ≡ a ++ text → OnErr r (GrowsByFront b c more) → OnErr r (GrowsByFront a c (text ++ more))
error_after (Ok x) a b c text more is p = tt
error_after (Err e) a b c text more is p = front_after a b c text more is p
