-- The entries that the open spans count are the entries of the stacks that are no duplicates.
use Rattle.std.proofs.Common.{◌≡◌, ℕ, ◌+◌, ◌<◌, ◌==◌, Bool, true, false, ◌||◌, cond, List, [], ◌∷◌, length, filter, None, refl, sym, ap, ◌∙◌, subst, inl, inr, arith}
use Rattle.std.specs.Prelude.{is_some}
use Rattle.std.proofs.lemmas.Bool.{eq-eqb, false≢true}
use Rattle.std.proofs.lemmas.Bool.Decides.{eqb_tells}
use Rattle.std.proofs.lemmas.List.Sums.{sum_by-cons}
use Rattle.span_id.specs.Ids.{has}
use Rattle.span_forest.specs.declared.span.Holder.TheVariants.{Entry}
use Rattle.span_forest.specs.Spans.{Spans, find, IsOpen, AreApart}
use Rattle.span_forest.specs.Count.{total_held, total_handles}
use Rattle.span_forest.specs.Holders.{held_in}
use Rattle.span_stack.specs.Stack.{first_places}
use Rattle.span_stack.proofs.Stacks.{has-first_places, times-first_places}
use Rattle.span_core.specs.World.{World, IsWorld, workers_inside, entries_in}
use Rattle.span_core.proofs.Effects.{open_held}

-- an id that is open further on isn't that of the first span
later_open : (id : ℕ) (spans : Spans) (first : ℕ) → find spans first ≡ None → IsOpen spans id → (first == id) ≡ false
later_open id spans first apart opened =
    elim (eqb_tells first id) [
      | inl t ↦ absurd (let gone : find spans id ≡ None = subst (λ (k : ℕ). find spans k ≡ None) t.1 apart in false≢true (sym (ap is_some gone) ∙ opened))
      | inr t ↦ t.0
    ]

-- ---- the ids of one stack

-- 1 where the span is open
abbrev is_one : Spans → ℕ → ℕ
is_one spans id = cond (is_some (find spans id)) 1 0

-- how many places of these ids are places of open spans, each span counted for itself
abbrev places_of : Spans → List ℕ → ℕ
places_of [] ids = 0
places_of (e ∷ es) ids = length (filter (λ entry. entry == e.0) ids) + places_of es ids

no_place : (spans : Spans) → places_of spans [] ≡ 0
no_place [] = refl
no_place (e ∷ es) = let rest = no_place es in omega (arith, rest)

-- one id more is one place more, if it is open
one_place_more : (spans : Spans) (id : ℕ) (ids : List ℕ) → AreApart spans → places_of spans (id ∷ ids) ≡ is_one spans id + places_of spans ids
one_place_more [] id ids apart = refl
one_place_more (e ∷ es) id ids apart =
    let rest = one_place_more es id ids apart.1 in
    elim (eqb_tells id e.0) [
      | inl t ↦ (let here : (e.0 == id) ≡ true = eq-eqb e.0 id (sym t.1) in
          let gone : find es id ≡ None = subst (λ (k : ℕ). find es k ≡ None) (sym t.1) apart.0 in
          let none : is_one es id ≡ 0 = ap (λ o. cond {A = ℕ} (is_some o) 1 0) gone in
          rw (t.0, here) (omega (arith, rest, none)))
      | inr t ↦ elim (eqb_tells e.0 id) [
        | inl u ↦ absurd (t.1 (sym u.1))
        | inr u ↦ rw (t.0, u.0) (omega (arith, rest))
      ]
    ]

-- where all ids are open, each of their places is counted
all_places : (spans : Spans) (ids : List ℕ) → AreApart spans → ((id : ℕ) → has ids id ≡ true → IsOpen spans id) → places_of spans ids ≡ length ids
all_places spans [] apart opened = no_place spans
all_places spans (id ∷ ids) apart opened =
    let step = one_place_more spans id ids apart in
    let here : is_some (find spans id) ≡ true = opened id (rw (eq-eqb id id refl) refl) in
    let one : is_one spans id ≡ 1 = ap (λ b. cond {A = ℕ} b 1 0) here in
    let rest = all_places spans ids apart (λ other there. opened other (or_right (id == other) (has ids other) there)) in
    omega (arith, step, one, rest)
  where
    or_right : (a b : Bool) → b ≡ true → (a || b) ≡ true
    or_right true b h = refl
    or_right false b h = h

-- ---- all stacks

-- how many workers are inside each of the spans, together
abbrev inside_all : Spans → List (List ℕ) → ℕ
inside_all [] stacks = 0
inside_all (e ∷ es) stacks = workers_inside stacks e.0 + inside_all es stacks

nobody : (spans : Spans) → inside_all spans [] ≡ 0
nobody [] = refl
nobody (e ∷ es) = let rest = nobody es in omega (arith, rest)

one_stack_more : (spans : Spans) (stack : List ℕ) (stacks : List (List ℕ)) → inside_all spans (stack ∷ stacks) ≡ places_of spans (first_places stack) + inside_all spans stacks
one_stack_more [] stack stacks = refl
one_stack_more (e ∷ es) stack stacks =
    let rest = one_stack_more es stack stacks in
    let here = sum_by-cons (λ s. cond (has s e.0) 1 0) stack stacks in
    let once = times-first_places stack e.0 in
    omega (arith, rest, here, once)

-- where each id that a worker is inside is open, the workers are counted by their entries
workers_counted : (spans : Spans) (stacks : List (List ℕ)) → AreApart spans → ((id : ℕ) → 0 < workers_inside stacks id → IsOpen spans id) → inside_all spans stacks ≡ entries_in stacks
workers_counted spans [] apart opened = nobody spans
workers_counted spans (stack ∷ stacks) apart opened =
    let step = one_stack_more spans stack stacks in
    let here = all_places spans (first_places stack) apart (λ id there.
    opened id (let inside : has stack id ≡ true = sym (has-first_places stack id) ∙ there in
    let more = sum_by-cons (λ s. cond (has s id) 1 0) stack stacks in
    let one = ap (λ b. cond {A = ℕ} b 1 0) inside in
    omega (arith, more, one))) in
    let rest = workers_counted spans stacks apart (λ id some. opened id (let more = sum_by-cons (λ s. cond (has s id) 1 0) stack stacks in omega (arith, more, some))) in
    let sum = sum_by-cons (λ s. length (first_places s)) stack stacks in
    omega (arith, step, here, rest, sum)

-- ---- all spans

-- where the entries of each span are the workers inside it, all holders are the handles and those workers
holders_counted : (spans : Spans) (stacks : List (List ℕ)) → AreApart spans → ((id : ℕ) → IsOpen spans id → held_in Entry (find spans id) ≡ workers_inside stacks id)
    → total_held spans ≡ total_handles spans + inside_all spans stacks
holders_counted [] stacks apart agree = refl
holders_counted (e ∷ es) stacks apart agree =
    let same = eq-eqb e.0 e.0 refl in
    let here : e.1.entries ≡ workers_inside stacks e.0 = rw same at (agree e.0 (rw same refl)) in
    let rest = holders_counted es stacks apart.1 (λ id opened. later id opened) in
    omega (arith, here, rest)
  where
    later : (id : ℕ) → IsOpen es id → held_in Entry (find es id) ≡ workers_inside stacks id
    later id opened =
        let other = later_open id es e.0 apart.0 opened in
        rw other at (agree id (rw other opened))

-- all entries that are no duplicates, and all handles, are all holders
pub counted_once : (world : World) → AreApart world.spans → IsWorld world → entries_in world.stacks + total_handles world.spans ≡ total_held world.spans
counted_once world apart agree =
    let holders = holders_counted world.spans world.stacks apart (λ id opened. agree.entered id) in
    let workers = workers_counted world.spans world.stacks apart (λ id some. open_held world.spans id Entry (let is = agree.entered id in omega (arith, is, some))) in
    omega (arith, holders, workers)
