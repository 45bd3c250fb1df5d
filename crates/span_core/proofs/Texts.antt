-- The texts of paths, one name longer and one name shorter.
use Rattle.std.proofs.Common.{◌≡◌, ℕ, suc, ◌+◌, ◌-◌, ◌<◌, List, [], ◌∷◌, ◌++◌, length, take, codes, refl, sym, ap, ◌∙◌, append_assoc, arith}
use Rattle.std.proofs.lemmas.List.{length-append}
use Rattle.std.proofs.Math.Seq.{take-append_seam}
use Rattle.span_forest.specs.Path.{path_text}

-- a path that has names, and one more
pub text_more : (first : List ℕ) (others : List (List ℕ)) (name : List ℕ) → path_text ((first ∷ others) ++ name ∷ []) ≡ path_text (first ∷ others) ++ 58 ∷ name
text_more first [] name = refl
text_more first (next ∷ others) name =
    ap (λ rest. first ++ (58 ∷ rest)) (text_more next others name)
    ∙ sym (append_assoc first (58 ∷ path_text (next ∷ others)) (58 ∷ name))

long : (first : List ℕ) (others : List (List ℕ)) (name : List ℕ) → length (path_text ((first ∷ others) ++ name ∷ [])) ≡ length (path_text (first ∷ others)) + suc (length name)
long first others name = ap length (text_more first others name) ∙ length-append (path_text (first ∷ others)) (58 ∷ name)

-- where the last name is the whole text, there is no other
pub nothing_above : (path : List (List ℕ)) (name : List ℕ) → length (path_text (path ++ name ∷ [])) ≡ length name → codes "-" ≡ path_text path
nothing_above [] name same = refl
nothing_above (first ∷ others) name same = absurd (omega (arith, same, long first others name))

-- what stands before the last name and its `:` is the path without that name
pub above_is : (path : List (List ℕ)) (name : List ℕ) (above : ℕ) → above + length name ≡ length (path_text (path ++ name ∷ [])) → 0 < above → take (above - 1) (path_text (path ++ name ∷ [])) ≡ path_text path
above_is [] name above sum there = absurd (omega (arith, sum, there))
above_is (first ∷ others) name above sum there =
    let cut : above - 1 ≡ length (path_text (first ∷ others)) = omega (arith, sum, long first others name) in
    ap (λ n. take n (path_text ((first ∷ others) ++ name ∷ []))) cut
    ∙ ap (take (length (path_text (first ∷ others)))) (text_more first others name)
    ∙ take-append_seam (path_text (first ∷ others)) (58 ∷ name)
