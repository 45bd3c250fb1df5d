-- Lists of ids.
use Rattle.std.specs.Prelude.{ℕ, Bool, ◌==◌, List}
use Rattle.std.specs.List.{list_any}

-- whether a list has this id
abbrev pub has : List ℕ → ℕ → Bool
has ids id = list_any (λ entry. entry == id) ids
