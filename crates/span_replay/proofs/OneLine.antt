-- Each open span has one line.
use Rattle.std.proofs.Common.{◌≡◌, ℕ, zero, suc, ◌+◌, ◌≤◌, Bool, true, false, cond, List, [], ◌∷◌, ◌++◌, length, map, flat_map, count_by, Option, Some, None, refl, sym, ap, subst, ◌∙◌, inl, inr, arith}
use Rattle.std.specs.Prelude.{◌==◌, not, filter, is_some}
use Rattle.std.specs.Option.{option_map_or}
use Rattle.std.proofs.lemmas.Bool.{eq-eqb}
use Rattle.std.proofs.lemmas.Bool.Decides.{nat_tests, eqb_tells}
use Rattle.std.proofs.lemmas.List.{length-map}
use Rattle.std.proofs.lemmas.List.Concat.{flat_map-append}
use Rattle.std.proofs.lemmas.List.Sums.{sum_by-append, sum_by-cons}
use Rattle.span_core.specs.Details.{details_of}
use Rattle.span_forest.specs.Forest.{IsForest}
use Rattle.span_forest.specs.Node.{Node}
use Rattle.span_forest.specs.Spans.{Spans, find, IsOpen, AreApart, parent_in, parent_of}
use Rattle.span_forest.specs.Walk.{Ends}
use Rattle.span_replay.specs.Explained.{Reached, open_span_of, open_spans_in}
use Rattle.span_why.specs.Why.{PlainOpenSpan, TreeLine, is_child, is_root, roots, children_of, tree_lines, all_trees, lines_with}

-- ---- how often an id stands in a list

abbrev one_if : Bool → ℕ
one_if test = cond test 1 0

abbrev count : ℕ → List PlainOpenSpan → ℕ
count id spans = count_by (λ span. span.details.id == id) spans

one_more : (id : ℕ) (s : PlainOpenSpan) (X : List PlainOpenSpan) → count id (s ∷ X) ≡ one_if (s.details.id == id) + count id X
one_more id s X = sum_by-cons (λ (x : PlainOpenSpan). one_if (x.details.id == id)) s X

both : (id : ℕ) (X Y : List PlainOpenSpan) → count id (X ++ Y) ≡ count id X + count id Y
both id X Y = sum_by-append (λ (x : PlainOpenSpan). one_if (x.details.id == id)) X Y

-- another span counts nothing, whether it is kept or not
skip : (id : ℕ) (s : PlainOpenSpan) (X : List PlainOpenSpan) (test : Bool) → (s.details.id == id) ≡ false → count id (cond test (s ∷ X) X) ≡ count id X
skip id s X true other = let more = one_more id s X in let none : one_if (s.details.id == id) ≡ 0 = ap one_if other in omega (arith, more, none)
skip id s X false other = refl

pick : (id : ℕ) (s : PlainOpenSpan) (X : List PlainOpenSpan) (test : Bool) → count id (cond test (s ∷ X) X) ≤ count id (s ∷ X)
pick id s X true = let same : count id (s ∷ X) ≤ count id (s ∷ X) = omega arith in same
pick id s X false = let more = one_more id s X in let less : count id X ≤ count id (s ∷ X) = omega (arith, more) in less

-- a part of a list has no more of them
fewer : (id : ℕ) (g : PlainOpenSpan → Bool) (X : List PlainOpenSpan) → count id (filter g X) ≤ count id X
fewer id g [] = let none : 0 ≤ 0 = omega arith in none
fewer id g (s ∷ X) =
    let rest = fewer id g X in
    let picked : count id (filter g (s ∷ X)) ≤ count id (s ∷ filter g X) = pick id s (filter g X) (g s) in
    let part = one_more id s (filter g X) in
    let whole = one_more id s X in
    omega (arith, rest, picked, part, whole)

-- each span has the parent that its id has
abbrev Fits : (ℕ → Option ℕ) → List PlainOpenSpan → Type 0
Fits parent [] = Unit {0}
Fits parent (s ∷ X) = (s.details.parent ≡ parent s.details.id) × Fits parent X

-- where the test is the same for all spans of an id, it keeps them all or none
filtered : (parent : ℕ → Option ℕ) (g : PlainOpenSpan → Bool) (b : Bool) (id : ℕ) → ((s : PlainOpenSpan) → s.details.parent ≡ parent s.details.id → s.details.id ≡ id → g s ≡ b) → (X : List PlainOpenSpan) → Fits parent X
    → count id (filter g X) ≡ cond b (count id X) 0
filtered parent g true id agree [] fits = refl
filtered parent g false id agree [] fits = refl
filtered parent g true id agree (s ∷ X) fits =
    let rest = filtered parent g true id agree X fits.1 in
    elim (eqb_tells s.details.id id) [
      | inl t ↦ ap (λ c. count id (cond c (s ∷ filter g X) (filter g X))) (agree s fits.0 t.1) ∙ one_more id s (filter g X) ∙ ap (λ n. one_if (s.details.id == id) + n) rest ∙ sym (one_more id s X)
      | inr t ↦ skip id s (filter g X) (g s) t.0 ∙ rest ∙ sym (skip id s X true t.0)
    ]
filtered parent g false id agree (s ∷ X) fits =
    let rest = filtered parent g false id agree X fits.1 in
    elim (eqb_tells s.details.id id) [
      | inl t ↦ ap (λ c. count id (cond c (s ∷ filter g X) (filter g X))) (agree s fits.0 t.1) ∙ rest
      | inr t ↦ skip id s (filter g X) (g s) t.0 ∙ rest
    ]

-- ---- children

abbrev kin : List PlainOpenSpan → List PlainOpenSpan → List PlainOpenSpan
kin S spans = flat_map (λ span. children_of S span.details.id) spans

abbrev is_parent : ℕ → Option ℕ → Bool
is_parent id parent = option_map_or (λ p. p == id) parent false

children_counted : (S : List PlainOpenSpan) (parent : ℕ → Option ℕ) (id at : ℕ) → Fits parent S → count id (children_of S at) ≡ cond (is_parent at (parent id)) (count id S) 0
children_counted S parent id at fits = filtered parent (is_child at) (is_parent at (parent id)) id (λ s p e. ap (is_parent at) (p ∙ ap parent e)) S fits

roots_counted : (S : List PlainOpenSpan) (parent : ℕ → Option ℕ) (id : ℕ) → Fits parent S → count id (roots S) ≡ cond (not (is_some (parent id))) (count id S) 0
roots_counted S parent id fits = filtered parent is_root (not (is_some (parent id))) id (λ s p e. ap (λ o. not (is_some o)) (p ∙ ap parent e)) S fits

-- a root is nobody's child
kin_none : (S : List PlainOpenSpan) (parent : ℕ → Option ℕ) (id : ℕ) → Fits parent S → parent id ≡ None → (spans : List PlainOpenSpan) → count id (kin S spans) ≡ 0
kin_none S parent id fits none [] = refl
kin_none S parent id fits none (t ∷ ts) =
    let first : count id (children_of S t.details.id) ≡ 0 = children_counted S parent id t.details.id fits ∙ ap (λ o. cond (is_parent t.details.id o) (count id S) 0) none in
    let rest = kin_none S parent id fits none ts in
    let all : count id (kin S (t ∷ ts)) ≡ count id (children_of S t.details.id) + count id (kin S ts) = both id (children_of S t.details.id) (kin S ts) in
    omega (arith, first, rest, all)

-- a span that isn't there neither
kin_closed : (S : List PlainOpenSpan) (id : ℕ) → count id S ≡ 0 → (spans : List PlainOpenSpan) → count id (kin S spans) ≡ 0
kin_closed S id none [] = refl
kin_closed S id none (t ∷ ts) =
    let first = fewer id (is_child t.details.id) S in
    let rest = kin_closed S id none ts in
    let all : count id (kin S (t ∷ ts)) ≡ count id (children_of S t.details.id) + count id (kin S ts) = both id (children_of S t.details.id) (kin S ts) in
    omega (arith, none, first, rest, all)

turned : (a b : ℕ) → (a == b) ≡ (b == a)
turned a b = grind (arith, nat_tests)

-- a child stands as often below some spans as its parent is one of them
kin_some : (S : List PlainOpenSpan) (parent : ℕ → Option ℕ) (id p : ℕ) → Fits parent S → parent id ≡ Some p → count id S ≡ 1 → (spans : List PlainOpenSpan) → count id (kin S spans) ≡ count p spans
kin_some S parent id p fits some once [] = refl
kin_some S parent id p fits some once (t ∷ ts) =
    let first : count id (children_of S t.details.id) ≡ one_if (t.details.id == p) =
    children_counted S parent id t.details.id fits ∙ ap (λ o. cond (is_parent t.details.id o) (count id S) 0) some
    ∙ ap (λ n. cond (p == t.details.id) n 0) once
    ∙ ap one_if (turned p t.details.id) in
    let rest = kin_some S parent id p fits some once ts in
    let all : count id (kin S (t ∷ ts)) ≡ count id (children_of S t.details.id) + count id (kin S ts) = both id (children_of S t.details.id) (kin S ts) in
    let more = one_more p t ts in
    omega (arith, first, rest, all, more)

-- ---- lines

-- how many lines of trees of so many levels show the id
abbrev shown : List PlainOpenSpan → ℕ → ℕ → List PlainOpenSpan → ℕ → ℕ
shown S levels depth spans id = lines_with id (flat_map (tree_lines S levels depth) spans)

no_levels : (S : List PlainOpenSpan) (depth : ℕ) (spans : List PlainOpenSpan) (id : ℕ) → shown S zero depth spans id ≡ 0
unfolding tree_lines
no_levels S depth [] id = refl
no_levels S depth (t ∷ ts) id = no_levels S depth ts id

lines_both : (id : ℕ) (X Y : List TreeLine) → lines_with id (X ++ Y) ≡ lines_with id X + lines_with id Y
lines_both id X Y = sum_by-append (λ (x : TreeLine). one_if (x.span.details.id == id)) X Y

-- their own lines, and those of their children's trees
level : (S : List PlainOpenSpan) (levels depth : ℕ) (spans : List PlainOpenSpan) (id : ℕ) → shown S (suc levels) depth spans id ≡ count id spans + shown S levels (depth + 1) (kin S spans) id
unfolding tree_lines
level S levels depth [] id = refl
level S levels depth (t ∷ ts) id =
    let below : List TreeLine = flat_map (tree_lines S levels (depth + 1)) (children_of S t.details.id) in
    let after : List TreeLine = flat_map (tree_lines S (suc levels) depth) ts in
    let own : shown S (suc levels) depth (t ∷ ts) id ≡ one_if (t.details.id == id) + lines_with id (below ++ after) =
    sum_by-cons (λ (x : TreeLine). one_if (x.span.details.id == id)) (record { depth = depth; span = t }) (below ++ after) in
    let apart : lines_with id (below ++ after) ≡ lines_with id below + shown S (suc levels) depth ts id = lines_both id below after in
    let kids : shown S levels (depth + 1) (kin S (t ∷ ts)) id ≡ lines_with id below + shown S levels (depth + 1) (kin S ts) id =
    ap (lines_with id) (flat_map-append (tree_lines S levels (depth + 1)) (children_of S t.details.id) (kin S ts)) ∙ lines_both id below (flat_map (tree_lines S levels (depth + 1)) (kin S ts)) in
    let more = one_more id t ts in
    let rest = level S levels depth ts id in
    omega (arith, own, apart, kids, more, rest)

-- none, where it stands below none
none_shown : (S : List PlainOpenSpan) (id : ℕ) → ((spans : List PlainOpenSpan) → count id (kin S spans) ≡ 0) → (levels depth : ℕ) (spans : List PlainOpenSpan) → count id spans ≡ 0 → shown S levels depth spans id ≡ 0
none_shown S id nowhere zero depth spans none = no_levels S depth spans id
none_shown S id nowhere (suc levels) depth spans none =
    let here = level S levels depth spans id in
    let rest = none_shown S id nowhere levels (depth + 1) (kin S spans) (nowhere spans) in
    omega (arith, none, here, rest)

-- a child has its line where its parent has one, a level higher
below_shown : (S : List PlainOpenSpan) (id p : ℕ) → ((spans : List PlainOpenSpan) → count id (kin S spans) ≡ count p spans) → (levels depth : ℕ) (spans : List PlainOpenSpan)
    → shown S (suc levels) depth spans id ≡ count id spans + shown S levels depth spans p
below_shown S id p child zero depth spans =
    let here : shown S (suc zero) depth spans id ≡ count id spans + shown S zero (depth + 1) (kin S spans) id = level S zero depth spans id in
    let none : shown S zero (depth + 1) (kin S spans) id ≡ 0 = no_levels S (depth + 1) (kin S spans) id in
    let none' : shown S zero depth spans p ≡ 0 = no_levels S depth spans p in
    omega (arith, here, none, none')
below_shown S id p child (suc levels) depth spans =
    let here = level S (suc levels) depth spans id in
    let rest = below_shown S id p child levels (depth + 1) (kin S spans) in
    let same = child spans in
    let up = level S levels depth spans p in
    omega (arith, here, rest, same, up)

-- ---- in a forest

-- what a list of spans has to do with a forest
record Shows (spans : Spans) (S : List PlainOpenSpan) : Type 0 where
  pub fits : Fits (parent_of spans) S
  pub once : (id : ℕ) → IsOpen spans id → count id S ≡ 1
  pub parents : (child parent : ℕ) → parent_of spans child ≡ Some parent → IsOpen spans parent

by_parent : (spans : Spans) (S : List PlainOpenSpan) → Shows spans S → (levels id : ℕ) → IsOpen spans id → (o : Option ℕ) → parent_of spans id ≡ o → Ends levels spans o
    → ((p : ℕ) → IsOpen spans p → Ends levels spans (Some p) → shown S levels 0 (roots S) p ≡ 1) → shown S (suc levels) 0 (roots S) id ≡ 1
by_parent spans S shows levels id stands None is ends up =
    let first : count id (roots S) ≡ 1 = roots_counted S (parent_of spans) id shows.fits ∙ ap (λ o. cond (not (is_some o)) (count id S) 0) is ∙ shows.once id stands in
    let nowhere : (ts : List PlainOpenSpan) → count id (kin S ts) ≡ 0 = kin_none S (parent_of spans) id shows.fits is in
    let here = level S levels 0 (roots S) id in
    let rest = none_shown S id nowhere levels (0 + 1) (kin S (roots S)) (nowhere (roots S)) in
    omega (arith, first, here, rest)
by_parent spans S shows levels id stands (Some p) is ends up =
    let first : count id (roots S) ≡ 0 = roots_counted S (parent_of spans) id shows.fits ∙ ap (λ o. cond (not (is_some o)) (count id S) 0) is in
    let here = below_shown S id p (kin_some S (parent_of spans) id p shows.fits is (shows.once id stands)) levels 0 (roots S) in
    let above = up p (shows.parents id p is) ends in
    omega (arith, first, here, above)

one_shown : (spans : Spans) (S : List PlainOpenSpan) → Shows spans S → (levels id : ℕ) → IsOpen spans id → Ends levels spans (Some id) → shown S levels 0 (roots S) id ≡ 1
one_shown spans S shows zero id stands ends = absurd ends
one_shown spans S shows (suc levels) id stands ends = by_parent spans S shows levels id stands (parent_of spans id) refl ends (one_shown spans S shows levels)

-- ---- the open spans that are told of

abbrev told : Reached → Spans → List PlainOpenSpan
told reached es = map (open_span_of reached) (map (details_of reached.state.core.world) es)

told_fits : (reached : Reached) (spans es : Spans) → ((id : ℕ) (node : Node) → find es id ≡ Some node → find spans id ≡ Some node) → AreApart es → Fits (parent_of spans) (told reached es)
told_fits reached spans [] within apart = tt
told_fits reached spans (e ∷ es) within apart =
    let own : find (e ∷ es) e.0 ≡ Some e.1 = ap (λ c. cond c (Some e.1) (find es e.0)) (eq-eqb e.0 e.0 refl) in
    (sym (ap parent_in (within e.0 e.1 own)), told_fits reached spans es (λ id node h. elim (eqb_tells e.0 id) [ inl t ↦ (let k : find es id ≡ None = rw t.1 at apart.0 in cc) | inr t ↦ within id node (ap (λ c. cond c (Some e.1) (find es id)) t.0 ∙ h) ]) apart.1)

told_none : (reached : Reached) (es : Spans) (id : ℕ) → find es id ≡ None → count id (told reached es) ≡ 0
told_none reached [] id none = refl
told_none reached (e ∷ es) id none =
    elim (eqb_tells e.0 id) [
      | inl t ↦ (let found : find (e ∷ es) id ≡ Some e.1 = ap (λ c. cond c (Some e.1) (find es id)) t.0 in cc)
      | inr t ↦ (let rest = told_none reached es id (sym (ap (λ c. cond c (Some e.1) (find es id)) t.0) ∙ none) in
          skip id (open_span_of reached (details_of reached.state.core.world e)) (told reached es) true t.0 ∙ rest)
    ]

told_once : (reached : Reached) (es : Spans) (id : ℕ) → AreApart es → IsOpen es id → count id (told reached es) ≡ 1
told_once reached [] id apart stands = cc
told_once reached (e ∷ es) id apart stands =
    let s = open_span_of reached (details_of reached.state.core.world e) in
    elim (eqb_tells e.0 id) [
      | inl t ↦ (let none : find es id ≡ None = rw t.1 at apart.0 in
          let rest = told_none reached es id none in
          let more : count id (told reached (e ∷ es)) ≡ one_if (e.0 == id) + count id (told reached es) = one_more id s (told reached es) in
          let one : one_if (e.0 == id) ≡ 1 = ap one_if t.0 in
          omega (arith, rest, more, one))
      | inr t ↦ skip id s (told reached es) true t.0 ∙ told_once reached es id apart.1 (rw t.0 at stands)
    ]

many : (reached : Reached) → length (open_spans_in reached) ≡ length reached.state.core.world.spans
many reached = length-map (map (details_of reached.state.core.world) reached.state.core.world.spans) (open_span_of reached) ∙ length-map reached.state.core.world.spans (details_of reached.state.core.world)

-- an open span has one
pub one_line : (reached : Reached) (spans : Spans) → reached.state.core.world.spans ≡ spans → IsForest spans → (id : ℕ) → IsOpen spans id → lines_with id (all_trees (open_spans_in reached)) ≡ 1
one_line reached spans same forest id stands =
    let here : IsForest reached.state.core.world.spans = subst IsForest (sym same) forest in
    let there : IsOpen reached.state.core.world.spans id = subst (λ s. IsOpen s id) (sym same) stands in
    let world = reached.state.core.world.spans in
    let S = open_spans_in reached in
    ap (λ n. shown S n 0 (roots S) id) (many reached)
    ∙ one_shown world S (record {
      fits = told_fits reached world world (λ i node h. h) here.ids_apart;
      once = λ i o. told_once reached world i here.ids_apart o;
      parents = here.parents_open;
    }) (length world) id there (here.walks_end id there)

-- and another id none
pub no_line : (reached : Reached) (spans : Spans) → reached.state.core.world.spans ≡ spans → (id : ℕ) → find spans id ≡ None → lines_with id (all_trees (open_spans_in reached)) ≡ 0
no_line reached spans same id closed =
    let S = open_spans_in reached in
    let none : count id S ≡ 0 = told_none reached reached.state.core.world.spans id (ap (λ s. find s id) same ∙ closed) in
    let few : count id (roots S) ≤ count id S = fewer id is_root S in
    none_shown S id (kin_closed S id none) (length S) 0 (roots S) (omega (arith, none, few))
