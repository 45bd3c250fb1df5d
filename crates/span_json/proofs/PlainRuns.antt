-- The plain bytes at the front of a text, a block of them at a time.
use Rattle.std.proofs.Common.{◌≡◌, ℕ, suc, ◌+◌, ◌*◌, ◌%◌, ◌^◌, ◌<◌, ◌≤◌, Bool, true, false, not, cond, eqb, ltb, ◌||◌, List, [], ◌∷◌, length, drop, map, replicate, bit_or, bit_and, refl, sym, ap, ap₂, ◌∙◌, arith}
use Rattle.std.proofs.lemmas.Bool.{eq-eqb, ne_eqb}
use Rattle.std.proofs.lemmas.List.{length-drop, length-map}
use Rattle.std.proofs.lemmas.List.Folds.{prefix_len-append}
use Rattle.std.proofs.lemmas.List.Sums.{prefix_len-le-length}
use Rattle.std.proofs.lemmas.Simd.{chunk-drop, length-chunk, leading_from_mask_l, trailing_mask_l, mask_l-mod}
use Rattle.std.specs.List.{prefix_len}
use Rattle.json.specs.Run.{is_stop}
use Rattle.span_json.specs.inside.Plain.{is_other}
use lib.Count.{count_trailing_zeros}
use lib.Lanes.{chunk, mask_l, zip2, top}

-- ---- a block's mask

-- the three tests of a block of n bytes, joined lane by lane
abbrev tests : ℕ → List ℕ → List ℕ
tests n block =
    zip2 bit_or (zip2 bit_or (zip2 (λ a b. cond (eqb a b) 255 0) block (replicate n 34)) (zip2 (λ a b. cond (eqb a b) 255 0) block (replicate n 92)))
    (zip2 (λ a b. cond (ltb a b) 255 0) block (replicate n 32))

lane : (a b c : Bool) → top 7 (bit_or (bit_or (cond a 255 0) (cond b 255 0)) (cond c 255 0)) ≡ a || b || c
lane true true true = refl
lane true true false = refl
lane true false true = refl
lane true false false = refl
lane false true true = refl
lane false true false = refl
lane false false true = refl
lane false false false = refl

lanes : (block : List ℕ) → map (top 7) (tests (length block) block) ≡ map is_stop block
lanes [] = refl
lanes (x ∷ xs) = ap₂ (λ a b. a ∷ b) (lane (eqb x 34) (eqb x 92) (ltb x 32)) (lanes xs)

pub stops_mask : (n : ℕ) (block : List ℕ) → length block ≡ n → n ≤ 64 → mask_l (map (top 7) (tests n block)) % 2 ^ 64 ≡ mask_l (map is_stop block)
stops_mask n block long few =
    ap (λ k. mask_l (map (top 7) (tests k block)) % 2 ^ 64) (sym long)
    ∙ ap (λ l. mask_l l % 2 ^ 64) (lanes block)
    ∙ mask_l-mod (map is_stop block) 64 (omega (arith, length-map block is_stop))

-- the four tests of a block of n bytes for what is no space, joined lane by lane
abbrev space_tests : ℕ → List ℕ → List ℕ
space_tests n block =
    zip2 bit_and (zip2 bit_and (zip2 (λ a b. cond (not (eqb a b)) 255 0) block (replicate n 32)) (zip2 (λ a b. cond (not (eqb a b)) 255 0) block (replicate n 9)))
    (zip2 bit_and (zip2 (λ a b. cond (not (eqb a b)) 255 0) block (replicate n 10)) (zip2 (λ a b. cond (not (eqb a b)) 255 0) block (replicate n 13)))

space_lane : (a b c d : Bool) → top 7 (bit_and (bit_and (cond (not a) 255 0) (cond (not b) 255 0)) (bit_and (cond (not c) 255 0) (cond (not d) 255 0))) ≡ not (((a || b) || c) || d)
space_lane true true true true = refl
space_lane true true true false = refl
space_lane true true false true = refl
space_lane true true false false = refl
space_lane true false true true = refl
space_lane true false true false = refl
space_lane true false false true = refl
space_lane true false false false = refl
space_lane false true true true = refl
space_lane false true true false = refl
space_lane false true false true = refl
space_lane false true false false = refl
space_lane false false true true = refl
space_lane false false true false = refl
space_lane false false false true = refl
space_lane false false false false = refl

space_lanes : (block : List ℕ) → map (top 7) (space_tests (length block) block) ≡ map is_other block
space_lanes [] = refl
space_lanes (x ∷ xs) = ap₂ (λ a b. a ∷ b) (space_lane (eqb x 32) (eqb x 9) (eqb x 10) (eqb x 13)) (space_lanes xs)

pub others_mask : (n : ℕ) (block : List ℕ) → length block ≡ n → n ≤ 64 → mask_l (map (top 7) (space_tests n block)) % 2 ^ 64 ≡ mask_l (map is_other block)
others_mask n block long few =
    ap (λ k. mask_l (map (top 7) (space_tests k block)) % 2 ^ 64) (sym long)
    ∙ ap (λ l. mask_l l % 2 ^ 64) (space_lanes block)
    ∙ mask_l-mod (map is_other block) 64 (omega (arith, length-map block is_other))

-- ---- from a mask to the bytes: those that pass q, of which the mask has those that pass p

one_passes : (fails : Bool) (n l m : ℕ) → cond (not fails) (1 + n) 0 ≡ suc l → n ≤ l → (n ≡ l → m ≡ 0) → cond fails 1 0 + 2 * m ≡ 0
one_passes true n l m is few none = absurd (omega arith)
one_passes false n l m is few none = omega (arith, none (omega arith))

module _ (p q : ℕ → Bool) (opposite : (x : ℕ) → q x ≡ not (p x)) where
  same_run : (xs : List ℕ) → prefix_len q xs ≡ prefix_len (λ x. not (p x)) xs
  same_run [] = refl
  same_run (x ∷ xs) = ap₂ (λ passes n. cond passes (1 + n) 0) (opposite x) (same_run xs)

  all_pass : (xs : List ℕ) → prefix_len (λ x. not (p x)) xs ≡ length xs → mask_l (map p xs) ≡ 0
  all_pass [] is = refl
  all_pass (x ∷ xs) is = one_passes (p x) (prefix_len (λ y. not (p y)) xs) (length xs) (mask_l (map p xs)) is (prefix_len-le-length (λ y. not (p y)) xs) (all_pass xs)

  module _ (d : List ℕ) (i n : ℕ) (room : i + n ≤ length d) where
    abbrev pub block : List ℕ
    block = chunk i n d

    abbrev pub behind : List ℕ
    behind = drop (i + n) d

    split : prefix_len q (drop i d) ≡ cond (eqb (prefix_len q block) (length block)) (length block + prefix_len q behind) (prefix_len q block)
    split = ap (prefix_len q) (chunk-drop i n d) ∙ prefix_len-append q block behind

    pub run_through : mask_l (map p block) ≡ 0 → prefix_len q (drop i d) ≡ n + prefix_len q behind
    run_through none =
        split ∙ ap (λ b. cond b (length block + prefix_len q behind) (prefix_len q block)) (eq-eqb _ _ (same_run block ∙ leading_from_mask_l p block none))
        ∙ ap (λ k. k + prefix_len q behind) (length-chunk i n d room)

    pub run_up_to : n ≤ 64 → 0 < mask_l (map p block) → prefix_len q (drop i d) ≡ count_trailing_zeros 64 (mask_l (map p block))
    run_up_to few some =
        split
        ∙ ap (λ b. cond b (length block + prefix_len q behind) (prefix_len q block)) (ne_eqb _ _ (λ (all : prefix_len q block ≡ length block). omega (arith, all_pass block (sym (same_run block) ∙ all))))
        ∙ same_run block ∙ sym (trailing_mask_l p 64 block (omega (arith, length-chunk i n d room)) some)

pub within : (p : ℕ → Bool) (d : List ℕ) (i : ℕ) → i ≤ length d → i + prefix_len p (drop i d) ≤ length d
within p d i inside = omega (arith, prefix_len-le-length p (drop i d), length-drop i d)

pub not_not : (b : Bool) → b ≡ not (not b)
not_not true = refl
not_not false = refl
