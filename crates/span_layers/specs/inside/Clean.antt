-- Texts that the compact form writes as they are, for the functions inside this crate: no public clause cites it.
use Rattle.std.specs.Prelude.{◌≡◌, ℕ, ◌<◌, ◌≤◌, Bool, false, ◌||◌, ◌==◌, List, get_or}

-- a backslash, a newline and a carriage return
abbrev pub is_special : ℕ → Bool
is_special byte = ((byte == 92) || (byte == 10)) || (byte == 13)

-- no byte from `start` up to `end` is special
abbrev pub IsCleanIn : List ℕ → ℕ → ℕ → Type 0
IsCleanIn bytes start end =
    (at : ℕ) → start ≤ at → at < end → is_special (get_or bytes at 0) ≡ false
