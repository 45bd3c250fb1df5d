-- A number is its digits, below zero where a minus stands before them.
use Rattle.std.proofs.Common.{◌≡◌, ℕ, ◌==◌, ◌^◌, ◌<◌, List, [], ◌∷◌, ◌++◌, length, drop, get_or, Bool, true, false, Some, refl, sym, ap, subst, ◌∙◌, arith, append-nil, lt-ltb, ne_eqb}
use Rattle.std.specs.Prelude.{slice_index}
use mir.Val.{bool_byte}
use Rattle.std.specs.Char.{digit_value}
use Rattle.std.specs.Str.Parse.{digits_value, AllDigits, IsNumeral}
use Rattle.fast_float.specs.Text.{Parts, IsWellFormed, scan}
use Rattle.fast_float.proofs.Writing.{scan-text_of}
use Rattle.serde_json.specs.Data.{unsigned}
use Rattle.serde_json.specs.Read.{number_of, number_from}

-- the minus takes one byte
pub signed_digits : (below : Bool) (text : List ℕ) (digits : Parts) → (slice_index text 0 == 45) ≡ below → digits ≡ scan (drop (bool_byte below) text) → number_from below digits ≡ number_of text
unfolding number_of
signed_digits true text digits sign is = ap (number_from true) is ∙ rw sign refl
signed_digits false text digits sign is = ap (number_from false) is ∙ rw sign refl

-- digits alone are the number that they write

alone : List ℕ → Parts
alone s = record { whole = s; point = false; fraction = []; exponent_negative = false; exponent = []; len = length (s ++ []) }

scan_alone : (s : List ℕ) → AllDigits 10 s → scan s ≡ alone s
unfolding alone
scan_alone s digits =
    let formed : IsWellFormed (alone s) = record { whole_digits = digits; fraction_digits = tt; exponent_digits = tt; no_point = λ _. refl; no_exponent = λ _. refl; len_is = refl } in
    ap scan (sym (append-nil s)) ∙ scan-text_of (alone s) formed

other_first : (c : ℕ) (s : List ℕ) → (digit_value c < 10 → ⊥) → AllDigits 10 s → 0 < length s → get_or s 0 0 ≡ c → ⊥
other_first c [] other digits some is = omega arith
other_first c (d ∷ ds) other digits some is = other (subst (λ x. digit_value x < 10) is digits.0)

pub whole_is : (s : List ℕ) → IsNumeral 10 s → digits_value 10 s < 2 ^ 64 → number_of s ≡ Some (unsigned (digits_value 10 s))
unfolding number_of alone
whole_is s numeral small =
    rw (ne_eqb (get_or s 0 0) 45 (other_first 45 s (λ h. omega (arith, h)) numeral.1 numeral.0))
    (ap (number_from false) (scan_alone s numeral.1) ∙ rw (lt-ltb _ _ numeral.0, append-nil s) (rw (lt-ltb _ _ small) refl))
