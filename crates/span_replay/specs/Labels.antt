-- Labels and the ids that they name.
use Rattle.std.specs.Prelude.{ℕ, if◌then◌else◌, List, [], ◌∷◌, Option, Some, None}
use Rattle.std.specs.Str.{bytes_eq}
use Rattle.std.specs.Ordering.{nat_cmp}
use Rattle.std.specs.Cmp.Lexicographic.{slice_cmp}
use Rattle.std.specs.BTreeMap.{insert_entry}

-- the labels that are bound, in the order of their bytes, each with the id that it names
abbrev pub Bound : Type 0
Bound = List (List ℕ × ℕ)

-- the id that a label names
abbrev pub id_in : Bound → List ℕ → Option ℕ
id_in [] label = None
id_in (entry ∷ entries) label = if bytes_eq label entry.0 then Some entry.1 else id_in entries label

-- the label names this id from now on, at its place in the order
abbrev pub with_label : Bound → List ℕ → ℕ → Bound
with_label labels label id = insert_entry (slice_cmp nat_cmp) labels label id
