-- Facts on stacks as lists of ids.
use Rattle.std.proofs.Common.{◌≡◌, ◌≤◌, ℕ, arith, Bool, true, false, not, cond, ◌||◌, ◌&&◌, List, [], ◌∷◌, ◌++◌, length, suc, reverse, Some, eqb, refl, sym, ap, ◌∙◌, ⊎_elim}
use Rattle.std.specs.List.{filter, slice_get}
use Rattle.std.proofs.lemmas.List.Sorted.{list_any-IsPermutation, IsPermutation-reverse}
use Rattle.std.proofs.Math.Bool.{and_comm}
use Rattle.std.proofs.lemmas.Bool.{eqb-true, eqb-false, eq-eqb, ne_eqb, false≢true, cases_Bool}
use Rattle.std.proofs.lemmas.List.{append-nil, length-reverse}
use Rattle.std.proofs.lemmas.List.Elements.{filter-append, filter_agree}
use Rattle.std.proofs.lemmas.List.Folds.{list_any-append}
use Rattle.std.proofs.lemmas.Map.Views.{any-filter_same}
use Rattle.span_id.specs.Ids.{has}
use Rattle.span_stack.specs.Stack.{first_places, distinct_from_top, current, top, without_last, TakesLast}

-- the test that `first_places` makes: another id than this
abbrev pub is_other : ℕ → ℕ → Bool
is_other id entry = not (eqb entry id)

pub by_cases : {P : Type 0} (b : Bool) → (b ≡ true → P) → (b ≡ false → P) → P
by_cases b it_is it_isnt = ⊎_elim it_is it_isnt (cases_Bool b)

pub eqb-sym : (a b : ℕ) → eqb a b ≡ eqb b a
eqb-sym a b =
    by_cases (eqb a b) (λ it_is. it_is ∙ sym (eq-eqb b a (sym (eqb-true a b it_is))))
    (λ it_isnt. it_isnt ∙ sym (ne_eqb b a (λ same. eqb-false a b it_isnt (sym same))))

pub or_true : (a : Bool) → (a || true) ≡ true
or_true true = refl
or_true false = refl

or_not : (a x : Bool) → (a || (not a && x)) ≡ (a || x)
or_not true x = refl
or_not false x = refl

-- of what passes a test, an id is there if it was there and passes
pub has-filter : (test : ℕ → Bool) (ids : List ℕ) (id : ℕ) → has (filter test ids) id ≡ (test id && has ids id)
has-filter test ids id =
    any-filter_same (λ entry. eqb entry id) test (test id) (λ entry same. ap test (eqb-true entry id same)) ids

-- two filters are one by both tests
pub filter-filter : (p q : ℕ → Bool) (xs : List ℕ) → filter p (filter q xs) ≡ filter (λ x. q x && p x) xs
filter-filter p q [] = refl
filter-filter p q (x ∷ xs) =
    by_cases (q x) (λ it_is. rw it_is (ap (λ l. cond (p x) (x ∷ l) l) (filter-filter p q xs)))
    (λ it_isnt. rw it_isnt (filter-filter p q xs))

-- filters commute
pub filter-swap : (p q : ℕ → Bool) (xs : List ℕ) → filter p (filter q xs) ≡ filter q (filter p xs)
filter-swap p q xs =
    filter-filter p q xs ∙ filter_agree (λ x. q x && p x) (λ x. p x && q x) (λ x. and_comm (q x) (p x)) xs
    ∙ sym (filter-filter q p xs)

-- filtering again changes nothing
pub filter-again : (p : ℕ → Bool) (xs : List ℕ) → filter p (filter p xs) ≡ filter p xs
filter-again p xs =
    filter-filter p p xs ∙ filter_agree (λ x. p x && p x) p (λ x. both (p x)) xs
  where
    both : (b : Bool) → (b && b) ≡ b
    both true = refl
    both false = refl

-- what isn't there need not be filtered out
pub filter-absent : (ids : List ℕ) (id : ℕ) → has ids id ≡ false → filter (is_other id) ids ≡ ids
filter-absent [] id absent = refl
filter-absent (x ∷ xs) id absent =
    by_cases (eqb x id) (λ it_is. absurd (false≢true (sym (rw it_is at absent))))
    (λ it_isnt. rw it_isnt (ap (λ l. x ∷ l) (filter-absent xs id (rw it_isnt at absent))))

-- an id stands in a stack exactly if it has a first place
pub has-first_places : (ids : List ℕ) (id : ℕ) → has (first_places ids) id ≡ has ids id
has-first_places [] id = refl
has-first_places (lowest ∷ above) id =
    ap (λ b. eqb lowest id || b) (has-filter (is_other lowest) (first_places above) id
    ∙ ap (λ b. not (eqb id lowest) && b) (has-first_places above id)
    ∙ ap (λ b. not b && has above id) (eqb-sym id lowest))
    ∙ or_not (eqb lowest id) (has above id)

last_or_not : (same : Bool) (lowest id : ℕ) (xs : List ℕ)
    → lowest ∷ (xs ++ cond (not same) (id ∷ []) []) ≡ cond (same || false) (lowest ∷ xs) (lowest ∷ (xs ++ id ∷ []))
last_or_not true lowest id xs = ap (λ l. lowest ∷ l) (append-nil xs)
last_or_not false lowest id xs = refl

-- an id that comes on top gets a first place there, if it had none
pub first_places-push : (ids : List ℕ) (id : ℕ)
    → first_places (ids ++ id ∷ []) ≡ cond (has ids id) (first_places ids) (first_places ids ++ id ∷ [])
first_places-push [] id = refl
first_places-push (lowest ∷ above) id =
    let others : List ℕ → List ℕ = filter (is_other lowest) in
    let firsts : List ℕ = first_places above in
    let step = first_places-push above id in
    by_cases (has above id)
    (λ it_is. ap (λ l. lowest ∷ others l) (step ∙ ap (λ b. cond b firsts (firsts ++ id ∷ [])) it_is)
    ∙ sym (ap (λ b. cond b (lowest ∷ others firsts) (lowest ∷ (others firsts ++ id ∷ [])))
    (ap (λ b. eqb lowest id || b) it_is ∙ or_true (eqb lowest id))))
    (λ it_isnt. ap (λ l. lowest ∷ others l) (step ∙ ap (λ b. cond b firsts (firsts ++ id ∷ [])) it_isnt)
    ∙ ap (λ l. lowest ∷ l) (filter-append (is_other lowest) firsts (id ∷ []))
    ∙ ap (λ b. lowest ∷ (others firsts ++ cond (not b) (id ∷ []) [])) (eqb-sym id lowest)
    ∙ last_or_not (eqb lowest id) lowest id (others firsts)
    ∙ sym (ap (λ b. cond (eqb lowest id || b) (lowest ∷ others firsts) (lowest ∷ (others firsts ++ id ∷ []))) it_isnt))

-- taking out an id that has no later place
pub without_last-at : (below above : List ℕ) (id : ℕ) → has above id ≡ false
    → without_last (below ++ id ∷ above) id ≡ below ++ above
without_last-at [] above id last = rw (last, eq-eqb id id refl)
without_last-at (lowest ∷ below) above id last =
    let there : has (below ++ id ∷ above) id ≡ true =
    list_any-append (λ entry. eqb entry id) below (id ∷ above)
    ∙ ap (λ b. has below id || (b || has above id)) (eq-eqb id id refl) ∙ or_true (has below id) in
    rw there (ap (λ l. lowest ∷ l) (without_last-at below above id last))

-- taking out an id that isn't there
pub without_last-absent : (ids : List ℕ) (id : ℕ) → has ids id ≡ false → without_last ids id ≡ ids
without_last-absent [] id absent = refl
without_last-absent (lowest ∷ above) id absent =
    by_cases (eqb lowest id) (λ same. absurd (false≢true (sym (rw same at absent))))
    (λ other. let later : has above id ≡ false = rw other at absent in rw (later, other))

-- the first places once the last place of an id is taken out
pub first_places-without_last : (ids : List ℕ) (id : ℕ)
    → first_places (without_last ids id)
    ≡ cond (has (without_last ids id) id) (first_places ids) (filter (is_other id) (first_places ids))
first_places-without_last [] id = refl
first_places-without_last (lowest ∷ above) id =
    let others : List ℕ → List ℕ = filter (is_other lowest) in
    let firsts : List ℕ = first_places above in
    let rest : List ℕ = without_last above id in
    let step = first_places-without_last above id in
    by_cases (has above id)
    (λ later. rw later (by_cases (has rest id)
    (λ still. rw still (ap (λ l. lowest ∷ others l) (step ∙ ap (λ b. cond b firsts (filter (is_other id) firsts)) still)
    ∙ sym (ap (λ b. cond b (lowest ∷ others firsts) (filter (is_other id) (lowest ∷ others firsts))) (or_true (eqb lowest id)))))
    (λ gone. by_cases (eqb lowest id)
    (λ same. rw (gone, same) (ap (λ l. lowest ∷ others l)
    (step ∙ ap (λ b. cond b firsts (filter (is_other id) firsts)) gone)
    ∙ ap (λ i. lowest ∷ others (filter (is_other i) firsts)) (sym (eqb-true lowest id same))
    ∙ ap (λ l. lowest ∷ l) (filter-again (is_other lowest) firsts)))
    (λ other. rw (gone, other) (ap (λ l. lowest ∷ others l)
    (step ∙ ap (λ b. cond b firsts (filter (is_other id) firsts)) gone)
    ∙ ap (λ l. lowest ∷ l) (filter-swap (is_other lowest) (is_other id) firsts))))))
    (λ last. let absent : filter (is_other id) firsts ≡ firsts =
    filter-absent firsts id (has-first_places above id ∙ last) in
    rw last (by_cases (eqb lowest id)
    (λ same. rw (same, last) (sym absent
    ∙ sym (filter-again (is_other id) firsts)
    ∙ ap (λ i. filter (is_other id) (filter (is_other i) firsts)) (sym (eqb-true lowest id same))))
    (λ other. rw (other, other, last) (ap (λ l. lowest ∷ l)
    (ap others (sym absent) ∙ filter-swap (is_other lowest) (is_other id) firsts)))))

-- where an id is, the stack splits at its last place
pub last_place : (ids : List ℕ) (id : ℕ) → has ids id ≡ true → TakesLast ids id (without_last ids id)
last_place [] id there = absurd (false≢true there)
last_place (lowest ∷ above) id there =
    by_cases (has above id)
    (λ later. let split = last_place above id later in
    record {
      below = lowest ∷ split.below;
      above = split.above;
      was = ap (λ l. lowest ∷ l) split.was;
      last = split.last;
      left = rw later (ap (λ l. lowest ∷ l) split.left);
    })
    (λ last. by_cases (eqb lowest id)
    (λ same. record {
      below = [];
      above = above;
      was = ap (λ i. i ∷ above) (eqb-true lowest id same);
      last = last;
      left = rw (last, same) refl;
    })
    (λ other. absurd (false≢true (rw (other, last) at there))))

-- among the first places an id stands once if it stands in the stack, else not at all
pub times-first_places : (ids : List ℕ) (id : ℕ)
    → length (filter (λ entry. eqb entry id) (first_places ids)) ≡ cond (has ids id) 1 0
times-first_places [] id = refl
times-first_places (lowest ∷ above) id =
    let firsts : List ℕ = first_places above in
    by_cases (eqb lowest id)
    (λ same. rw same (ap suc (ap length (filter-filter (λ entry. eqb entry id) (is_other lowest) firsts
    ∙ filter_agree (λ x. not (eqb x lowest) && eqb x id) (λ _. false)
    (λ x. ap (λ i. not (eqb x lowest) && eqb x i) (sym (eqb-true lowest id same)) ∙ never (eqb x lowest)) firsts
    ∙ none firsts))))
    (λ other. rw other (ap length (filter-filter (λ entry. eqb entry id) (is_other lowest) firsts
    ∙ filter_agree (λ x. not (eqb x lowest) && eqb x id) (λ x. eqb x id) (apart other) firsts)
    ∙ times-first_places above id))
  where
    never : (b : Bool) → (not b && b) ≡ false
    never true = refl
    never false = refl

    none : (xs : List ℕ) → filter (λ _. false) xs ≡ []
    none [] = refl
    none (x ∷ xs) = none xs

    and_false : (b : Bool) → (b && false) ≡ false
    and_false true = refl
    and_false false = refl

    apart : eqb lowest id ≡ false → (x : ℕ) → (not (eqb x lowest) && eqb x id) ≡ eqb x id
    apart other x =
        by_cases (eqb x id)
        (λ is. rw is (ap (λ b. not b && true) (ap (λ i. eqb i lowest) (eqb-true x id is)
        ∙ eqb-sym id lowest ∙ other)))
        (λ isnt. rw isnt (and_false (not (eqb x lowest))))

-- a list from top to bottom has the same ids
has-reverse : (ids : List ℕ) (id : ℕ) → has (reverse ids) id ≡ has ids id
has-reverse ids id =
    sym (list_any-IsPermutation (λ entry. eqb entry id) ids (reverse ids) (IsPermutation-reverse ids))

has-first : (ids : List ℕ) (id : ℕ) → slice_get ids 0 ≡ Some id → has ids id ≡ true
has-first [] id is = cc
has-first (first ∷ others) id is = let same : first ≡ id = cc in ap (λ b. b || has others id) (eq-eqb first id same)

-- the current span and the topmost entry stand in the stack
pub has-current : (ids : List ℕ) (id : ℕ) → current ids ≡ Some id → has ids id ≡ true
has-current ids id is =
    sym (has-reverse (first_places ids) id ∙ has-first_places ids id) ∙ has-first (distinct_from_top ids) id is

pub has-top : (ids : List ℕ) (id : ℕ) → top ids ≡ Some id → has ids id ≡ true
has-top ids id is = sym (has-reverse ids id) ∙ has-first (reverse ids) id is

length-filter_le : (p : ℕ → Bool) (xs : List ℕ) → length (filter p xs) ≤ length xs
length-filter_le p [] = omega arith
length-filter_le p (x ∷ xs) =
    let step = length-filter_le p xs in
    by_cases (p x) (λ it_is. rw it_is (omega arith)) (λ it_isnt. rw it_isnt (omega arith))

-- no stack has more entries that are no duplicates than entries
pub length-first_places : (ids : List ℕ) → length (first_places ids) ≤ length ids
length-first_places [] = omega arith
length-first_places (lowest ∷ above) =
    let step = length-first_places above in
    let fewer = length-filter_le (is_other lowest) (first_places above) in
    omega arith

pub length-distinct_from_top : (ids : List ℕ) → length (distinct_from_top ids) ≤ length ids
length-distinct_from_top ids = let step = length-first_places ids in rw length-reverse step
