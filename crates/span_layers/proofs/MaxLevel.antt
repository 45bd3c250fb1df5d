-- The most verbose level that rules name, found by one pass, and that nothing above it is admitted.
use Rattle.std.proofs.Common.{◌≡◌, ℕ, zero, suc, ◌+◌, ◌≤◌, ◌<◌, ◌⊎◌, true, false, ◌&&◌, List, [], ◌∷◌, ◌++◌, length, map, take, get_or, Contains, IsSomeAnd, String, Option, Some, None, refl, sym, ap, subst, ◌∙◌, inl, inr, append-nil, true≢false, arith}
use Rattle.std.proofs.lemmas.Bool.{cases_Bool, cases_lt, lt-ltb, le-ltb, leb-true}
use Rattle.std.proofs.lemmas.List.{take_more, get_or-map, map_more, map_push, flat_map_more, length-map}
use Rattle.std.proofs.lemmas.List.Elements.{All-append, All-weaker, All-contains, Contains-append_left, Contains-append_right}
use Rattle.std.proofs.lemmas.Option.{same_Some}
use Rattle.std.specs.Prelude.{nat_eq, nat_le}
use Rattle.std.specs.List.{starts_with}
use Rattle.std.specs.Option.{option_map_or}
use Rattle.std.specs.declared.alloc.Global.{Global}
use Rattle.span_id.specs.declared.level.Level.{Level}
use Rattle.span_id.specs.Level.{verbosity}
use Rattle.span_layers.specs.Filter.{Filter, layer_admits}
use Rattle.span_layers.specs.MaxLevel.{pair_levels, levels_named, IsMostVerbose}
use Rattle.span_layers.specs.Rule.{Pair, pair_of, is_admitted}
use Rattle.span_layers.specs.inside.Verbosity.{more_verbose}
use Rattle.span_layers.proofs.Deciding.{picked, is_admitted-picked}

-- ---- one pass

-- no level is more verbose
abbrev IsBelow : Level → Level → Type 0
IsBelow most level = verbosity level ≤ verbosity most

-- of two lists in a row
pub most_of_both : (xs ys : List Level) (one other : Option Level) → IsMostVerbose xs one → IsMostVerbose ys other → IsMostVerbose (xs ++ ys) (more_verbose one other)
most_of_both xs ys None None no_xs no_ys = rw (no_xs, no_ys) refl
most_of_both xs ys None (Some y) no_xs is_y = rw no_xs is_y
most_of_both xs ys (Some x) None is_x no_ys = subst (λ l. IsMostVerbose l (Some x)) (sym (append-nil xs) ∙ ap (λ l. xs ++ l) (sym no_ys)) is_x
most_of_both xs ys (Some x) (Some y) is_x is_y = elim (cases_lt (verbosity x) (verbosity y)) [
  | inl lt ↦ rw (lt-ltb (verbosity x) (verbosity y) lt) (
    Contains-append_right xs ys y is_y.0,
    All-append (IsBelow y) xs ys (All-weaker (IsBelow x) (IsBelow y) (λ level h. omega arith) xs is_x.1) is_y.1,
  )
  | inr ge ↦ rw (le-ltb (verbosity x) (verbosity y) ge) (
    Contains-append_left xs ys x is_x.0,
    All-append (IsBelow x) xs ys is_x.1 (All-weaker (IsBelow y) (IsBelow x) (λ level h. omega arith) ys is_y.1),
  )
]

-- of one level
most_of_one : (level : Level) → IsMostVerbose (level ∷ []) (Some level)
most_of_one level = ((0, omega arith, refl), λ k d h. let first : k ≡ 0 = omega arith in rw first (omega arith))

-- one more pair
pub most_more : (xs : List (String Global × Level)) (k : ℕ) (x : String Global × Level) (most : Option Level) → k < length xs → x ≡ get_or xs k x
    → IsMostVerbose (pair_levels (map pair_of (take k xs))) most → IsMostVerbose (pair_levels (map pair_of (take (k + 1) xs))) (more_verbose most (Some x.1))
most_more xs k x most within is so_far =
    let pairs : map pair_of (take (k + 1) xs) ≡ map pair_of (take k xs) ++ pair_of x ∷ [] = map_more pair_of xs k x within ∙ ap (λ y. map pair_of (take k xs) ++ pair_of y ∷ []) (sym is) in
    let levels : pair_levels (map pair_of (take (k + 1) xs)) ≡ pair_levels (map pair_of (take k xs)) ++ x.1 ∷ [] = ap pair_levels pairs ∙ map_push (λ (p : Pair). p.1) (map pair_of (take k xs)) (pair_of x) in
    subst (λ l. IsMostVerbose l (more_verbose most (Some x.1))) (sym levels) (most_of_both (pair_levels (map pair_of (take k xs))) (x.1 ∷ []) most (Some x.1) so_far (most_of_one x.1))

-- one more layer
pub most_more_layers : {X : Type 0} (view : X → Filter) (xs : List X) (k : ℕ) (x : X) (most other : Option Level) → k < length xs → x ≡ get_or xs k x
    → IsMostVerbose (levels_named (take k (map view xs))) most → IsMostVerbose (pair_levels (view x).pairs) other
    → IsMostVerbose (levels_named (take (k + 1) (map view xs))) (more_verbose most other)
most_more_layers view xs k x most other within is so_far here =
    let size : length (map view xs) ≡ length xs = length-map xs view in
    let at : get_or (map view xs) k (view x) ≡ view x = get_or-map view xs k x (view x) within ∙ ap view (sym is) in
    let filters : take (k + 1) (map view xs) ≡ take k (map view xs) ++ view x ∷ [] = take_more (map view xs) k (view x) (omega arith) ∙ ap (λ f. take k (map view xs) ++ f ∷ []) at in
    let levels : levels_named (take (k + 1) (map view xs)) ≡ levels_named (take k (map view xs)) ++ pair_levels (view x).pairs = ap levels_named filters ∙ sym (flat_map_more (λ (f : Filter). pair_levels f.pairs) [] (take k (map view xs)) (view x)) in
    subst (λ l. IsMostVerbose l (more_verbose most other)) (sym levels) (most_of_both (levels_named (take k (map view xs))) (pair_levels (view x).pairs) most other so_far here)

-- ---- nothing above it is admitted

-- a level that is at least as verbose stands in the list
abbrev Reaches : List Level → Level → Type 0
Reaches levels level = (named : Level) × Contains levels named × (verbosity level ≤ verbosity named)

-- a level at the front, and one behind it
contains_first : (level first : Level) (levels : List Level) → first ≡ level → Contains (first ∷ levels) level
contains_first level first levels same = (0, omega arith, same)

contains_later : (level first : Level) (levels : List Level) → Contains levels level → Contains (first ∷ levels) level
contains_later level first levels c = (suc c.0, omega (arith, c.1), c.2)

-- the level that a pass ends with is that of a pair, if it isn't the one that it began with
picked_among : (target : List ℕ) (n : ℕ) (o : Option Level) (ps : List Pair) (level : Level) → picked target n o ps ≡ Some level → (o ≡ Some level) ⊎ Contains (pair_levels ps) level
picked_among target n o [] level e = inl e
picked_among target n o (p ∷ ps) level e = elim (cases_Bool (nat_le n (length p.0) && starts_with nat_eq target p.0)) [
  | inl t ↦ elim (picked_among target (length p.0) (Some p.1) ps level (rw t at e)) [
    | inl here ↦ inr (contains_first level p.1 (pair_levels ps) (same_Some p.1 level here))
    | inr later ↦ inr (contains_later level p.1 (pair_levels ps) later)
  ]
  | inr f ↦ elim (picked_among target n o ps level (rw f at e)) [
    | inl before ↦ inl before
    | inr later ↦ inr (contains_later level p.1 (pair_levels ps) later)
  ]
]

reaches_picked : (target : List ℕ) (level : Level) (ps : List Pair) (o : Option Level) → o ≡ picked target 0 None ps → option_map_or (λ g. nat_le (verbosity level) (verbosity g)) o false ≡ true → Reaches (pair_levels ps) level
reaches_picked target level ps None e admitted = absurd (true≢false (sym admitted))
reaches_picked target level ps (Some named) e admitted = elim (picked_among target 0 None ps named (sym e)) [
  | inl unchanged ↦ cc
  | inr among ↦ (named, among, leb-true (verbosity level) (verbosity named) admitted)
]

-- a rule that admits a level has a pair whose level is at least as verbose
reaches_rule : (ps : List Pair) (target : List ℕ) (level : Level) → is_admitted ps target level ≡ true → Reaches (pair_levels ps) level
reaches_rule ps target level admitted =
    let o = picked target 0 None ps in
    reaches_picked target level ps o refl (sym (is_admitted-picked ps target level o refl) ∙ admitted)

reaches_layers : (filters : List Filter) (layer : ℕ) (target : List ℕ) (level : Level) → layer_admits filters layer target level ≡ true → Reaches (levels_named filters) level
reaches_layers [] layer target level admitted = absurd (true≢false (sym admitted))
reaches_layers (f ∷ fs) zero target level admitted =
    let r = reaches_rule f.pairs target level admitted in
    (r.0, Contains-append_left (pair_levels f.pairs) (levels_named fs) r.0 r.1, r.2)
reaches_layers (f ∷ fs) (suc layer) target level admitted =
    let r = reaches_layers fs layer target level admitted in
    (r.0, Contains-append_right (pair_levels f.pairs) (levels_named fs) r.0 r.1, r.2)

at_most : (levels : List Level) (o : Option Level) (level : Level) → IsMostVerbose levels o → Reaches levels level → IsSomeAnd o (λ most. verbosity level ≤ verbosity most)
at_most levels None level none r =
    let c = subst (λ l. Contains l r.0) none r.1 in
    let out : c.0 < 0 = c.1 in
    absurd (omega arith)
at_most levels (Some most) level is r =
    let h : verbosity r.0 ≤ verbosity most = All-contains (IsBelow most) levels r.0 is.1 r.1 in
    let up = r.2 in
    omega arith

-- what some layer admits is at most the most verbose level
pub admitted_at_most : (filters : List Filter) (o : Option Level) → IsMostVerbose (levels_named filters) o
    → (layer : ℕ) (target : List ℕ) (level : Level) → layer_admits filters layer target level ≡ true → IsSomeAnd o (λ most. verbosity level ≤ verbosity most)
admitted_at_most filters o is layer target level admitted = at_most (levels_named filters) o level is (reaches_layers filters layer target level admitted)
