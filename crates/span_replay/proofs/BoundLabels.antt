-- The map of labels, as the list of their bytes with what they name.
use Rattle.std.proofs.Common.{◌≡◌, ℕ, List, [], ◌∷◌, cond, Some, None, String, Global, Ordering, Less, Equal, Greater, string_bytes, string_cmp, nat_cmp, refl, sym, ap, ◌∙◌, map}
use Rattle.std.specs.Map.{lookup, values_of, keys_of, set_value}
use Rattle.std.specs.List.{AllByRecursion}
use Rattle.std.specs.List.Sorted.{IsStrictlySortedBy}
use Rattle.std.proofs.lemmas.Cmp.{nat_list_cmp_total}
use Rattle.std.specs.Ordering.{match_ordering}
use Rattle.std.specs.Cmp.Lexicographic.{slice_cmp}
use Rattle.std.specs.BTreeMap.{insert_entry, is_at}
use Rattle.std.proofs.lemmas.Map.Text.{is_eq-slice_cmp}
use Rattle.span_replay.specs.Labels.{Bound, id_in, with_label}

abbrev pub Entry : Type 0
Entry = String Global × ℕ

-- the labels as contracts see them
abbrev pub seen : List Entry → Bound
seen entries = map (λ entry. (string_bytes entry.0, entry.1)) entries

-- the map finds at a label's bytes what the list has there
pub found_label : (label : List ℕ) (entries : List Entry) → lookup (is_at (λ key. slice_cmp nat_cmp label (string_bytes key))) entries ≡ id_in (seen entries) label
found_label label [] = refl
found_label label (entry ∷ entries) =
    (λ i. cond (is_eq-slice_cmp label (string_bytes entry.0) i) (Some entry.1) (found_label label entries i))

placed : (order : Ordering) (before at : List Entry) (after : List Entry) (rest : Bound) → seen after ≡ rest
    → seen (match_ordering order before at after) ≡ match_ordering order (seen before) (seen at) rest
placed Less before at after rest is = refl
placed Equal before at after rest is = refl
placed Greater before at after rest is = is

-- after an insert the list is the one in which the label is bound
pub bound_label : (key : String Global) (id : ℕ) (entries : List Entry) → seen (insert_entry string_cmp entries key id) ≡ with_label (seen entries) (string_bytes key) id
bound_label key id [] = refl
bound_label key id (entry ∷ entries) =
    placed (string_cmp key entry.0) ((key, id) ∷ entry ∷ entries) ((entry.0, id) ∷ entries) (entry ∷ insert_entry string_cmp entries key id)
    ((string_bytes entry.0, entry.1) ∷ with_label (seen entries) (string_bytes key) id)
    (ap (λ rest. (string_bytes entry.0, entry.1) ∷ rest) (bound_label key id entries))

-- how a label's bytes stand to a key's
abbrev pub before : List ℕ → String Global → Ordering
before label key = slice_cmp nat_cmp label (string_bytes key)

-- a label below all keys is none of them
below_none : (label : List ℕ) (first : String Global) (entries : List Entry) → before label first ≡ Less → AllByRecursion (λ key. string_cmp first key ≡ Less) (keys_of entries) → lookup (is_at (before label)) entries ≡ None
below_none label first [] less above = refl
below_none label first (entry ∷ entries) less above =
    let below : before label entry.0 ≡ Less = nat_list_cmp_total.trans label (string_bytes first) (string_bytes entry.0) less above.0 in
    rw below (below_none label first entries less above.1)

rebound_at : (order : Ordering) (label : List ℕ) (id value : ℕ) (entry : Entry) (entries : List Entry) → before label entry.0 ≡ order → AllByRecursion (λ key. string_cmp entry.0 key ≡ Less) (keys_of entries)
    → lookup (is_at (before label)) (entry ∷ entries) ≡ Some value
    → (lookup (is_at (before label)) entries ≡ Some value → seen (set_value (is_at (before label)) entries id) ≡ with_label (seen entries) label id)
    → seen (set_value (is_at (before label)) (entry ∷ entries) id) ≡ with_label (seen (entry ∷ entries)) label id
rebound_at Less label id value entry entries is above found more =
    let none : lookup (is_at (before label)) entries ≡ None = below_none label entry.0 entries is above in
    let some : lookup (is_at (before label)) entries ≡ Some value = rw is at found in
    absurd (let both : None ≡ Some value = sym none ∙ some in cc)
rebound_at Equal label id value entry entries is above found more = rw is refl
rebound_at Greater label id value entry entries is above found more =
    let some : lookup (is_at (before label)) entries ≡ Some value = rw is at found in
    rw is (ap (λ rest. (string_bytes entry.0, entry.1) ∷ rest) (more some))

-- where the label is among the keys, it is bound by a write at its place
pub rebound : (label : List ℕ) (id value : ℕ) (entries : List Entry) → IsStrictlySortedBy string_cmp (keys_of entries) → lookup (is_at (before label)) entries ≡ Some value
    → seen (set_value (is_at (before label)) entries id) ≡ with_label (seen entries) label id
unfolding IsStrictlySortedBy
rebound label id value [] sorted found = cc
rebound label id value (entry ∷ entries) sorted found =
    rebound_at (before label entry.0) label id value entry entries refl sorted.0 found (rebound label id value entries sorted.1)

pub bound_ids : (entries : List Entry) → values_of entries ≡ map (λ entry. entry.1) (seen entries)
bound_ids [] = refl
bound_ids (entry ∷ entries) = ap (λ rest. entry.1 ∷ rest) (bound_ids entries)
