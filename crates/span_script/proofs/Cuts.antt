-- The first line of a script, and what follows its newline.
use Rattle.std.proofs.Common.{◌≡◌, ℕ, ◌+◌, ◌<◌, ◌≤◌, List, [], ◌∷◌, length, get_or, Bool, true, false, refl, arith, take, drop, one-add, add-one, Option, Some, None, cond, ◌-◌, sym, ap, drop_of_length-le}
use Rattle.std.proofs.lemmas.List.{take_rest}
use Rattle.std.proofs.lemmas.List.Sums.{position_or_len_is}
use Rattle.std.proofs.lemmas.Bool.{ltb-true, ltb-false}
use Rattle.std.specs.Prelude.{◌==◌, nat_lt}
use Rattle.std.specs.List.{position, position_or_len}
use Rattle.memchr.specs.Find.{IsFirstByte, is_byte}
use Rattle.span_script.specs.Script.{script_lines}

abbrev is_newline : ℕ → Bool
is_newline b = b == 10

abbrev first : List ℕ → ℕ
first xs = position_or_len is_newline xs

abbrev CutsAt : List ℕ → ℕ → Type 0
CutsAt xs k = script_lines xs ≡ take k xs ∷ script_lines (drop (k + 1) xs)

cut_step : (x : ℕ) (xs : List ℕ) (b : Bool) → (x == 10) ≡ b → (first xs < length xs → CutsAt xs (first xs)) → first (x ∷ xs) < length (x ∷ xs) → CutsAt (x ∷ xs) (first (x ∷ xs))
unfolding script_lines
cut_step x xs true e ih h = rw e refl
cut_step x xs false e ih h =
    let below : 1 + first xs < length (x ∷ xs) = rw e at h in
    let rest = ih (omega arith) in
    rw (e, one-add, add-one, rest, add-one) refl

pub lines_cut : (xs : List ℕ) → first xs < length xs → CutsAt xs (first xs)
lines_cut [] h = absurd (omega arith)
lines_cut (x ∷ xs) h = cut_step x xs (x == 10) refl (lines_cut xs) h

last_step : (x : ℕ) (xs : List ℕ) (b : Bool) → (x == 10) ≡ b → (0 < length xs → length xs ≤ first xs → script_lines xs ≡ xs ∷ []) → length (x ∷ xs) ≤ first (x ∷ xs) → script_lines (x ∷ xs) ≡ (x ∷ xs) ∷ []
unfolding script_lines
last_step x [] true e ih h = let bad : 1 ≤ 0 = rw e at h in absurd (omega arith)
last_step x [] false e ih h = rw e refl
last_step x (y ∷ ys) true e ih h = let bad : length (x ∷ y ∷ ys) ≤ 0 = rw e at h in absurd (omega arith)
last_step x (y ∷ ys) false e ih h =
    let below : length (x ∷ y ∷ ys) ≤ 1 + first (y ∷ ys) = rw e at h in
    rw (e, ih (omega arith) (omega arith)) refl

pub lines_last : (xs : List ℕ) → 0 < length xs → length xs ≤ first xs → script_lines xs ≡ xs ∷ []
lines_last [] h k = absurd (omega arith)
lines_last (x ∷ xs) h k = last_step x xs (x == 10) refl (lines_last xs) k

pub lines_nil : script_lines [] ≡ []
unfolding script_lines
lines_nil = refl

-- ---- where a search for a newline ends

not_passed : (b : Bool) → ¬ (b ≡ true) → b ≡ false
not_passed true h = absurd (h refl)
not_passed false h = refl

at_end : (xs : List ℕ) (b : Bool) → nat_lt (first xs) (length xs) ≡ b → first xs ≡ length xs → None ≡ cond b (Some (first xs)) None
at_end xs true e at = let low = ltb-true (first xs) (length xs) e in absurd (omega arith)
at_end xs false e at = refl

at_place : (xs : List ℕ) (k : ℕ) (b : Bool) → nat_lt (first xs) (length xs) ≡ b → first xs ≡ k → k < length xs → Some k ≡ cond b (Some (first xs)) None
at_place xs k true e at low = ap Some (sym at)
at_place xs k false e at low = let high = ltb-false (first xs) (length xs) e in absurd (omega arith)

pub first_newline : (xs : List ℕ) (r : Option ℕ) → IsFirstByte (is_byte 10) xs r → r ≡ position is_newline xs
first_newline xs None none =
    let at = position_or_len_is is_newline xs (length xs) 0 (omega arith) (λ k low. not_passed (is_newline (get_or xs k 0)) (none k (omega arith) low)) (λ low. absurd (omega arith)) in
    at_end xs (nat_lt (first xs) (length xs)) refl at
first_newline xs (Some k) found =
    let before = found.0 in
    let at =
    position_or_len_is is_newline xs k 0 (omega (arith, before.high)) (λ j low. not_passed (is_newline (get_or xs j 0)) (before.before j (omega arith) low)) (λ low. found.1) in
    at_place xs k (nat_lt (first xs) (length xs)) refl at before.high

place_tells : (xs : List ℕ) (k : ℕ) (b : Bool) → nat_lt (first xs) (length xs) ≡ b → Some k ≡ cond b (Some (first xs)) None → (k ≡ first xs) × (first xs < length xs)
place_tells xs k true e p = (cc, ltb-true (first xs) (length xs) e)
place_tells xs k false e p = let bad : ⊥ = cc in absurd bad

no_place : (xs : List ℕ) (b : Bool) → nat_lt (first xs) (length xs) ≡ b → None ≡ cond b (Some (first xs)) None → length xs ≤ first xs
no_place xs true e p = let bad : ⊥ = cc in absurd bad
no_place xs false e p = ltb-false (first xs) (length xs) e

pub cut_at : (xs : List ℕ) (k : ℕ) → Some k ≡ position is_newline xs → script_lines xs ≡ take k xs ∷ script_lines (take (length xs - (k + 1)) (drop (k + 1) xs))
cut_at xs k p =
    let t = place_tells xs k (nat_lt (first xs) (length xs)) refl p in
    rw (take_rest, t.0) (lines_cut xs t.1)

pub cut_last : (xs : List ℕ) → 0 < length xs → None ≡ position is_newline xs → script_lines xs ≡ xs ∷ script_lines (take (length xs - length xs) (drop (length xs) xs))
cut_last xs h p =
    let l = no_place xs (nat_lt (first xs) (length xs)) refl p in
    rw (take_rest, drop_of_length-le xs {i = length xs} (omega arith), lines_nil) (lines_last xs h l)
