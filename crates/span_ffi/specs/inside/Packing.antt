-- How the texts of a span go into a buffer, for the functions inside this crate: no public clause cites it.
use Rattle.std.specs.Prelude.{◌≡◌, ℕ, ◌+◌, List, ◌++◌, length, take, drop}
use Rattle.std.specs.Str.{IsUtf8}
use Rattle.span_id.specs.Meta.{KeyValue}

-- both are texts
abbrev pub AreTexts : KeyValue → Type 0
AreTexts pair = IsUtf8 pair.0 × IsUtf8 pair.1

-- bytes were written at a place, up to an end: what stands before them and behind them stays
abbrev pub WritesAt : List ℕ → ℕ → List ℕ → List ℕ → ℕ → Type 0
WritesAt bytes at old new end =
    (end ≡ at + length bytes) × (take end new ≡ take at old ++ bytes) × (drop end new ≡ drop end old)
