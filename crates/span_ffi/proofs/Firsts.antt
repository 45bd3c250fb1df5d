-- The first of some ids that were written to the beginning of a buffer, and what is known of a buffer that was shown.
use Rattle.std.proofs.Common.{◌≡◌, ℕ, ◌++◌, ◌∙◌, Bool, true, false, List, length, take, drop, min, Option, Some, None, IsTrue, refl, sym, ap, subst, arith, length-take}
use Rattle.std.proofs.lemmas.List.{drop_min}
use Rattle.std.specs.Prelude.{◌↔◌, nat_lt, is_none}
use Rattle.span_border.specs.declared.status.Status.{Status}
use Rattle.span_border.specs.declared.status.Status.TheVariants.{Done, Refused, BadData, EmptyHandle, HandleInUse, NoSuchWorker, NoLine, ShortBuffer, NoSuchCallsite}
use Rattle.span_border.specs.Buffers.{WritesAll}

-- as many as the buffer has room for are the ones that it has room for
pub first_written : (ids first into into' : List ℕ) (len : ℕ) (status : Status) → first ≡ take (length into) ids
    → WritesAll first into status into' len → into' ≡ take (length into) ids ++ drop (length ids) into
first_written ids first into into' len Done is writes =
    let room : ℕ = length into in
    let taken : length first ≡ length (take room ids) = ap (λ (these : List ℕ). length these) is in
    let cut : length first ≡ min (length ids) room = (let all = length-take room ids in omega (arith, all, taken)) in
    writes.1
    ∙ ap (λ (front : List ℕ). front ++ drop (length first) into) is
    ∙ ap (λ (rest : List ℕ). take room ids ++ rest) (ap (λ (n : ℕ). drop n into) cut ∙ drop_min (length ids) into)
first_written ids first into into' len ShortBuffer is writes =
    let taken : length first ≡ length (take (length into) ids) = ap (λ (these : List ℕ). length these) is in
    let all = length-take (length into) ids in
    let short = writes.0 in
    absurd (omega (arith, all, taken, short))
first_written ids first into into' len (Refused fault) is writes = absurd writes
first_written ids first into into' len BadData is writes = absurd writes
first_written ids first into into' len EmptyHandle is writes = absurd writes
first_written ids first into into' len HandleInUse is writes = absurd writes
first_written ids first into into' len NoSuchWorker is writes = absurd writes
first_written ids first into into' len NoLine is writes = absurd writes
first_written ids first into into' len NoSuchCallsite is writes = absurd writes

-- a part of a state that a function was shown and that it kept is the same after the call
pub kept_part : {S X : Type 0} (part : S → X) (lent left before after : S) → lent ≡ before → left ≡ after
    → part left ≡ part lent → part after ≡ part before
kept_part part lent left before after lent_is left_is same = ap part (sym left_is) ∙ same ∙ ap part lent_is

-- what holds of the state and the ids that a function was shown, and of what it left, holds of the state before and after
pub shown_between : {S X : Type 0} (Between : X → S → S → Type 0) (list ids : X) (lent left before after : S)
    → list ≡ ids → lent ≡ before → left ≡ after → Between list lent left → Between ids before after
shown_between {S = S} {X = X} Between list ids lent left before after list_is lent_is left_is between =
    subst (λ (state : S). Between ids before state) left_is
    (subst (λ (state : S). Between ids state left) lent_is (subst (λ (these : X). Between these lent left) list_is between))

-- it holds exactly where nothing is found
where_none : {X : Type 0} (holds : Bool) (found : Option X) → (IsTrue holds ↔ (found ≡ None)) → holds ≡ is_none found
where_none true None both = refl
where_none true (Some it) both = let never : Some it ≡ None = both.0 refl in cc
where_none false None both = let never : false ≡ true = both.1 refl in cc
where_none false (Some it) both = refl

-- there are some exactly where nothing is found
pub some_where_none : {X : Type 0} (len : ℕ) (ids : List ℕ) (found : Option X) → len ≡ length ids
    → (IsTrue (nat_lt 0 (length ids)) ↔ (found ≡ None)) → nat_lt 0 len ≡ is_none found
some_where_none len ids found is both =
    ap (λ (n : ℕ). nat_lt 0 n) is ∙ where_none (nat_lt 0 (length ids)) found both
