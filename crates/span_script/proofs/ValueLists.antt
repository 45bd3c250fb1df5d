-- The items of a list that a line gives, one after another.
use Rattle.std.proofs.Common.{◌≡◌, ℕ, ◌+◌, ◌<◌, ◌≤◌, List, [], ◌∷◌, ◌++◌, length, drop, map, get_or, true≢false, refl, ap, sym, ◌∙◌, Option, Some, None, append_assoc, append-nil, drop_of_length-le}
use Rattle.std.proofs.lemmas.List.{drop_more}
use Rattle.std.proofs.lemmas.List.{map-append}
use Rattle.std.specs.Prelude.{option_and_then, is_some}
use Rattle.std.specs.Option.{option_map}
use Rattle.serde_json.specs.Data.{Data, Items, no_items, item}
use Rattle.serde_json.specs.Find.{as_array}
use Rattle.serde_json.specs.View.{items_of}
use Rattle.span_script.specs.Operation.{all_of, list_of, onto}
use Rattle.span_script.specs.inside.Lists.{listed, list_in, items_in, or_nothing}

-- what was read so far, and what comes of the rest
abbrev pub with_rest : {A : Type 0} → List A → Option (List A) → Option (List A)
with_rest done None = None
with_rest done (Some more) = Some (done ++ more)

-- what is read of these items
abbrev pub all_in : {A : Type 0} → (Data → Option A) → List Data → Option (List A)
all_in reading ds = all_of reading (items_of ds)

-- ---- a list's items

items_again : (items : Items) → items_of (listed items) ≡ items
items_again no_items = refl
items_again (item d ds) = ap (item d) (items_again ds)

nothing_done : {A : Type 0} → (o : Option (List A)) → o ≡ with_rest [] o
nothing_done None = refl
nothing_done (Some more) = refl

all_left_of : {A : Type 0} → (reading : Data → Option A) (o : Option Items) (count : ℕ) → Some count ≡ option_map length (option_map listed o)
    → option_and_then (all_of reading) o ≡ with_rest [] (all_in reading (or_nothing (option_map listed o)))
all_left_of reading None count h = absurd (true≢false (ap is_some h))
all_left_of reading (Some items) count h = ap (all_of reading) (sym (items_again items)) ∙ nothing_done _

-- before the first item
pub all_left : {A : Type 0} → (reading : Data → Option A) (d : Data) (count : ℕ) → Some count ≡ option_map length (list_in d)
    → list_of reading d ≡ with_rest [] (all_in reading (items_in d))
all_left reading d count h = all_left_of reading (as_array d) count h

-- ---- one item after another

more_onto : {A : Type 0} → (done : List A) (a : A) (o : Option (List A)) → with_rest done (onto (Some a) o) ≡ with_rest (done ++ a ∷ []) o
more_onto done a None = refl
more_onto done a (Some more) = ap (λ xs. Some xs) (sym (append_assoc done (a ∷ []) more))

cons_ok : {A : Type 0} → (reading : Data → Option A) (v : Data) (vs : List Data) (a : A) → reading v ≡ Some a → all_in reading (v ∷ vs) ≡ onto (Some a) (all_in reading vs)
unfolding all_of
cons_ok reading v vs a e = rw e refl

cons_bad : {A : Type 0} → (reading : Data → Option A) (v : Data) (vs : List Data) → reading v ≡ None → all_in reading (v ∷ vs) ≡ None
unfolding all_of
cons_bad reading v vs e = rw e refl

pub one_bad : {A : Type 0} → (reading : Data → Option A) (vs : List Data) (i : ℕ) (done : List A) (v : Data) (whole : Option (List A)) → i < length vs → v ≡ get_or vs i v → reading v ≡ None
    → whole ≡ with_rest done (all_in reading (drop i vs)) → whole ≡ None
one_bad reading vs i done v whole h is e so_far =
    let first : drop i vs ≡ v ∷ drop (i + 1) vs = drop_more vs i v h ∙ ap (λ x. x ∷ drop (i + 1) vs) (sym is) in
    so_far ∙ ap (λ xs. with_rest done (all_in reading xs)) first ∙ ap (with_rest done) (cons_bad reading v (drop (i + 1) vs) e)

one_more : {A : Type 0} → (reading : Data → Option A) (vs : List Data) (i : ℕ) (done : List A) (v : Data) (a : A) (whole : Option (List A)) → i < length vs → v ≡ get_or vs i v → reading v ≡ Some a
    → whole ≡ with_rest done (all_in reading (drop i vs)) → whole ≡ with_rest (done ++ a ∷ []) (all_in reading (drop (i + 1) vs))
one_more reading vs i done v a whole h is e so_far =
    let first : drop i vs ≡ v ∷ drop (i + 1) vs = drop_more vs i v h ∙ ap (λ x. x ∷ drop (i + 1) vs) (sym is) in
    so_far ∙ ap (λ xs. with_rest done (all_in reading xs)) first ∙ ap (with_rest done) (cons_ok reading v (drop (i + 1) vs) a e) ∙ more_onto done a _

pub all_done : {A : Type 0} → (reading : Data → Option A) (vs : List Data) (i : ℕ) (done : List A) (whole : Option (List A)) → length vs ≤ i
    → whole ≡ with_rest done (all_in reading (drop i vs)) → whole ≡ Some done
unfolding all_of
all_done reading vs i done whole h so_far =
    so_far ∙ ap (λ xs. with_rest done (all_in reading xs)) (drop_of_length-le vs {i = i} h) ∙ ap (λ xs. Some xs) (append-nil done)

-- one more item was read and pushed
pub pushed : {A C : Type 0} → (reading : Data → Option A) (seen : C → A) (vs : List Data) (i : ℕ) (cs cs' : List C) (v : Data) (c : C) (whole : Option (List A)) → i < length vs → v ≡ get_or vs i v
    → reading v ≡ Some (seen c) → cs' ≡ cs ++ c ∷ []
    → whole ≡ with_rest (map seen cs) (all_in reading (drop i vs)) → whole ≡ with_rest (map seen cs') (all_in reading (drop (i + 1) vs))
pushed reading seen vs i cs cs' v c whole h is e more so_far =
    one_more reading vs i (map seen cs) v (seen c) whole h is e so_far
    ∙ ap (λ (xs : List _). with_rest xs (all_in reading (drop (i + 1) vs))) (sym (ap (map seen) more ∙ map-append seen cs (c ∷ [])))
