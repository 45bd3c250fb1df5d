-- What labels name after one more is bound.
use Rattle.std.proofs.Common.{Ordering, Less, Equal, Greater, ◌≡◌, ℕ, ◌==◌, Bool, true, false, ◌||◌, List, [], ◌∷◌, map, Some, refl, sym, ap, ◌∙◌, if◌then◌else◌, inl, inr}
use Rattle.std.specs.Str.{bytes_eq}
use Rattle.std.specs.Ordering.{nat_cmp, match_ordering, is_eq}
use Rattle.std.specs.Cmp.Lexicographic.{slice_cmp}
use Rattle.std.proofs.lemmas.Bool.{cases_Bool, false_from_ne_true, eq-eqb}
use Rattle.std.proofs.lemmas.Map.Text.{is_eq-slice_cmp}
use Rattle.std.proofs.lemmas.Slice.Eq.{bytes_eq-Decides}
use Rattle.span_id.specs.Ids.{has}
use Rattle.span_replay.specs.Labels.{Bound, id_in, with_label}

pub same_bytes : (xs : List ℕ) → bytes_eq xs xs ≡ true
same_bytes xs = (bytes_eq-Decides xs xs).1 refl

-- what a label is found to name in the labels, where an entry more stands first
skipped : (labels : Bound) (label at : List ℕ) (id : ℕ) → bytes_eq label at ≡ false → id_in ((at, id) ∷ labels) label ≡ id_in labels label
skipped labels label at id other = rw other refl

found_first : (labels : Bound) (label at : List ℕ) (id : ℕ) → bytes_eq label at ≡ true → id_in ((at, id) ∷ labels) label ≡ Some id
found_first labels label at id here = rw here refl

-- the label that was bound names the id
pub bound_same : (labels : Bound) (label : List ℕ) (id : ℕ) → id_in (with_label labels label id) label ≡ Some id
bound_same [] label id = found_first [] label label id (same_bytes label)
bound_same (e ∷ es) label id = by_case (bound_same es label id) (slice_cmp nat_cmp label e.0) refl
  where
    by_case : id_in (with_label es label id) label ≡ Some id → (o : Ordering) → slice_cmp nat_cmp label e.0 ≡ o
        → id_in (match_ordering o ((label, id) ∷ e ∷ es) ((e.0, id) ∷ es) (e ∷ with_label es label id)) label ≡ Some id
    by_case rest Less is = found_first (e ∷ es) label label id (same_bytes label)
    by_case rest Equal is = found_first es label e.0 id (sym (is_eq-slice_cmp label e.0) ∙ ap is_eq is)
    by_case rest Greater is = skipped (with_label es label id) label e.0 e.1 (sym (is_eq-slice_cmp label e.0) ∙ ap is_eq is) ∙ rest

differs : (xs ys : List ℕ) → (xs ≡ ys → ⊥) → bytes_eq xs ys ≡ false
differs xs ys apart = false_from_ne_true (bytes_eq xs ys) (λ t. apart ((bytes_eq-Decides xs ys).0 t))

-- each other label names what it named
pub bound_other : (labels : Bound) (label other : List ℕ) (id : ℕ) → (other ≡ label → ⊥) → id_in (with_label labels label id) other ≡ id_in labels other
bound_other [] label other id apart = skipped [] other label id (differs other label apart)
bound_other (e ∷ es) label other id apart = by_case (ap (λ more. if bytes_eq other e.0 then Some e.1 else more) (bound_other es label other id apart)) (slice_cmp nat_cmp label e.0) refl
  where
    by_case : id_in (e ∷ with_label es label id) other ≡ id_in (e ∷ es) other → (o : Ordering) → slice_cmp nat_cmp label e.0 ≡ o
        → id_in (match_ordering o ((label, id) ∷ e ∷ es) ((e.0, id) ∷ es) (e ∷ with_label es label id)) other ≡ id_in (e ∷ es) other
    by_case rest Less is = skipped (e ∷ es) other label id (differs other label apart)
    by_case rest Equal is =
        let label_is : label ≡ e.0 = (bytes_eq-Decides label e.0).0 (sym (is_eq-slice_cmp label e.0) ∙ ap is_eq is) in
        let elsewhere = differs other e.0 (λ same. apart (same ∙ sym label_is)) in
        skipped es other e.0 id elsewhere ∙ sym (skipped es other e.0 e.1 elsewhere)
    by_case rest Greater is = rest

-- an id that a label names is among those that the labels name
pub id_listed : (labels : Bound) (label : List ℕ) (id : ℕ) → id_in labels label ≡ Some id → has (map (λ entry. entry.1) labels) id ≡ true
id_listed [] label id named = cc
id_listed (e ∷ es) label id named =
    elim (cases_Bool (bytes_eq label e.0)) [
      | inl t ↦ (let h = rw t at named in let here : e.1 ≡ id = cc in rw (here, eq-eqb id id refl) refl)
      | inr t ↦ (let rest = id_listed es label id (rw t at named) in rw rest (or_true (e.1 == id)))
    ]
  where
    or_true : (b : Bool) → (b || true) ≡ true
    or_true true = refl
    or_true false = refl
