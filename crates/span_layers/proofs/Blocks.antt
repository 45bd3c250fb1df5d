-- From the mask of a block to bytes that the compact form writes as they are.
use Rattle.std.proofs.Common.{◌≡◌, ℕ, suc, ◌+◌, ◌%◌, ◌^◌, ◌≤◌, Bool, true, false, cond, ◌==◌, ◌||◌, List, [], ◌∷◌, ◌++◌, length, map, replicate, bit_or, refl, sym, ap, ap₂, ◌∙◌, arith}
use Rattle.std.proofs.lemmas.Bool.{or_parts, eqb-true, eqb-false, ne_eqb}
use Rattle.std.proofs.lemmas.List.{length-map}
use Rattle.std.proofs.lemmas.Simd.{length-chunk, mask_l-mod, none_from_empty_mask}
use Rattle.std.specs.Bool.{OnTrue}
use lib.Lanes.{chunk, mask_l, zip2, top}
use Rattle.span_layers.specs.Text.{escape, escaped}
use Rattle.span_layers.specs.inside.Clean.{is_special, IsCleanIn}

-- the three tests of a block of n bytes, joined lane by lane
abbrev tests : ℕ → List ℕ → List ℕ
tests n block =
    zip2 bit_or
    (zip2 bit_or
    (zip2 (λ a b. cond (a == b) 255 0) block (replicate n 92))
    (zip2 (λ a b. cond (a == b) 255 0) block (replicate n 10)))
    (zip2 (λ a b. cond (a == b) 255 0) block (replicate n 13))

lane : (a b c : Bool) → top 7 (bit_or (bit_or (cond a 255 0) (cond b 255 0)) (cond c 255 0)) ≡ (a || b) || c
lane true true true = refl
lane true true false = refl
lane true false true = refl
lane true false false = refl
lane false true true = refl
lane false true false = refl
lane false false true = refl
lane false false false = refl

lanes : (block : List ℕ) → map (top 7) (tests (length block) block) ≡ map is_special block
lanes [] = refl
lanes (x ∷ xs) = ap₂ (λ a b. a ∷ b) (lane (x == 92) (x == 10) (x == 13)) (lanes xs)

mask : (n : ℕ) (block : List ℕ) → length block ≡ n → n ≤ 64 → mask_l (map (top 7) (tests n block)) % 2 ^ 64 ≡ mask_l (map is_special block)
mask n block long few =
    ap (λ k. mask_l (map (top 7) (tests k block)) % 2 ^ 64) (sym long)
    ∙ ap (λ l. mask_l l % 2 ^ 64) (lanes block)
    ∙ mask_l-mod (map is_special block) 64 (omega (arith, length-map block is_special))

on_true : (b : Bool) (P : Type 0) → (b ≡ true → P) → OnTrue b P
on_true true P f = f refl
on_true false P f = tt

-- where the mask of the n bytes from i on is empty, none of them is special
pub clean_from_block : (bytes : List ℕ) (i n : ℕ) → i + n ≤ length bytes → n ≤ 64
    → OnTrue (mask_l (map (top 7) (tests n (chunk i n bytes))) % 2 ^ 64 == 0) (IsCleanIn bytes i (i + n))
clean_from_block bytes i n room few =
    let same = mask n (chunk i n bytes) (length-chunk i n bytes room) few in
    on_true _ _ (λ empty. none_from_empty_mask is_special bytes i n 0 room (sym same ∙ eqb-true _ 0 empty))

escape_clean : (byte : ℕ) → is_special byte ≡ false → escape byte ≡ byte ∷ []
escape_clean byte clean =
    let parts = or_parts _ _ clean in
    let first = or_parts _ _ parts.0 in
    rw (ne_eqb byte 92 (eqb-false byte 92 first.0), ne_eqb byte 10 (eqb-false byte 10 first.1), ne_eqb byte 13 (eqb-false byte 13 parts.1)) refl

escaped_clean : (bytes : List ℕ) → IsCleanIn bytes 0 (length bytes) → escaped bytes ≡ bytes
escaped_clean [] clean = refl
escaped_clean (x ∷ xs) clean =
    ap₂ (λ a b. a ++ b) (escape_clean x (clean 0 (omega arith) (omega arith))) (escaped_clean xs (λ k from to. clean (suc k) (omega arith) (omega arith)))

pub escaped_on_clean : (b : Bool) (bytes : List ℕ) → OnTrue b (IsCleanIn bytes 0 (length bytes)) → OnTrue b (escaped bytes ≡ bytes)
escaped_on_clean true bytes clean = escaped_clean bytes clean
escaped_on_clean false bytes clean = tt
