-- A script's bytes and lines.
use Rattle.std.specs.Prelude.{ℕ, ◌==◌, ◌||◌, List, [], ◌∷◌, Bool, if◌then◌else◌}
use Rattle.std.specs.List.{list_all}

-- the most bytes that a script may have
abbrev pub most_bytes : ℕ
most_bytes = 16777216

-- x at the front of the first line
abbrev pub onto_line : ℕ → List (List ℕ) → List (List ℕ)
onto_line x [] = (x ∷ []) ∷ []
onto_line x (line ∷ lines) = (x ∷ line) ∷ lines

-- a line ends with a newline; a last one without a newline counts if it isn't empty
unfoldable pub script_lines : List ℕ → List (List ℕ)
script_lines [] = []
script_lines (x ∷ xs) = if x == 10 then [] ∷ script_lines xs else onto_line x (script_lines xs)

-- a blank, a tab or a carriage return
abbrev pub is_blank_byte : ℕ → Bool
is_blank_byte x = x == 32 || (x == 9 || x == 13)

-- a line of blanks, tabs and carriage returns is skipped
abbrev pub is_skipped : List ℕ → Bool
is_skipped line = list_all is_blank_byte line
