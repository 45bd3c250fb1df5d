-- The lexeme at the front of a text, where it is plain.
use Rattle.std.proofs.Common.{◌≡◌, ℕ, suc, ◌+◌, ◌<◌, Bool, true, false, cond, ◌==◌, ◌||◌, inl, inr, List, [], ◌∷◌, ◌++◌, length, take, drop, get_or, Some, None, refl, sym, ap, ◌∙◌, subst, arith}
use Rattle.json.proofs.Printed.Numbers.{in_word-ended}
use Rattle.std.proofs.lemmas.Bool.{or_cases, eqb-true, not-true, or_parts, true≢false}
use Rattle.std.specs.Prelude.{⊤}
use Rattle.std.specs.List.{prefix_len}
use Rattle.json.specs.Lex.{token, Class, quote, backslash, operator, space, other, class, operator_lexeme, string_token, between, in_word, in_string, lex, lex_byte}
use Rattle.json.specs.Run.{is_plain}
use Rattle.json.specs.Text.{content, plain, after_backslash, prepend}
use Rattle.json.specs.Token.{Token}
use Rattle.json.specs.Ascii.{true_text, false_text, null_text}
use Rattle.json.specs.Word.{head, is_operator, is_space, ends_word, word}

-- ---- spaces

is_class : (x : ℕ) (k : Class) → class 32 ≡ k → class 9 ≡ k → class 10 ≡ k → class 13 ≡ k → is_space x ≡ true → class x ≡ k
is_class x k blank tab line_feed carriage_return is =
    elim (or_cases _ _ is) [
      | inl more ↦ elim (or_cases _ _ more) [
        | inl first ↦ elim (or_cases _ _ first) [
          | inl e ↦ ap class (eqb-true x 32 e) ∙ blank
          | inr e ↦ ap class (eqb-true x 9 e) ∙ tab
        ]
        | inr e ↦ ap class (eqb-true x 10 e) ∙ line_feed
      ]
      | inr e ↦ ap class (eqb-true x 13 e) ∙ carriage_return
    ]

space_class : (x : ℕ) → is_space x ≡ true → class x ≡ space
space_class x is = is_class x space refl refl refl refl is

past_space : (is : Bool) (x n : ℕ) (xs : List ℕ) → is_space x ≡ is → lex between (drop n xs) ≡ lex between xs → lex between (drop (cond is (1 + n) 0) (x ∷ xs)) ≡ lex between (x ∷ xs)
unfolding lex
past_space false x n xs is same = refl
past_space true x n xs is same =
    let next : 1 + n ≡ suc n = omega arith in
    ap (λ k. lex between (drop k (x ∷ xs))) next ∙ same ∙ ap (λ c. lex_byte between c x xs (λ m. lex m xs)) (sym (space_class x is))

pub past_spaces : (xs : List ℕ) → lex between (drop (prefix_len is_space xs) xs) ≡ lex between xs
past_spaces [] = refl
past_spaces (x ∷ xs) = past_space (is_space x) x (prefix_len is_space xs) xs refl (past_spaces xs)

-- ---- brackets, commas and colons

IsMark : Class → Type 0
IsMark quote = ⊥
IsMark backslash = ⊥
IsMark operator = ⊤
IsMark space = ⊥
IsMark other = ⊥

pub mark_front : (t : List ℕ) (c : ℕ) → class c ≡ operator → head t ≡ c → lex between t ≡ operator_lexeme c ∷ lex between (drop 1 t)
unfolding lex IsMark
mark_front [] c is first = absurd (subst IsMark (sym (ap class first ∙ is)) tt)
mark_front (x ∷ xs) c is first = ap (λ y. lex between (y ∷ xs)) first ∙ ap (λ k. lex_byte between k c xs (λ m. lex m xs)) is

-- ---- texts

in_text : (a b c d : Bool) (x : ℕ) (xs : List ℕ) → a ≡ false → b ≡ false → lex_byte in_string (cond a quote (cond b backslash (cond c operator (cond d space other)))) x xs (λ m. lex m xs) ≡ lex in_string xs
in_text true b c d x xs p q = absurd (true≢false p)
in_text false true c d x xs p q = absurd (true≢false q)
in_text false false true d x xs p q = refl
in_text false false false true x xs p q = refl
in_text false false false false x xs p q = refl

plain_byte : (x : ℕ) (xs : List ℕ) → is_plain x ≡ true → lex in_string (x ∷ xs) ≡ lex in_string xs
unfolding lex
plain_byte x xs is =
    let stops = or_parts ((x == 34) || (x == 92)) _ (not-true _ is) in
    let tests = or_parts (x == 34) _ stops.0 in
    in_text (x == 34) (x == 92) (is_operator x) (is_space x) x xs tests.0 tests.1

past_byte : (is : Bool) (x n : ℕ) (xs : List ℕ) → is_plain x ≡ is → (n < length xs → get_or xs n 0 ≡ 34 → lex in_string xs ≡ lex between (drop (n + 1) xs))
    → cond is (1 + n) 0 < length (x ∷ xs) → get_or (x ∷ xs) (cond is (1 + n) 0) 0 ≡ 34 → lex in_string (x ∷ xs) ≡ lex between (drop (cond is (1 + n) 0 + 1) (x ∷ xs))
unfolding lex
past_byte false x n xs is rest within closes = ap (λ c. lex_byte in_string (class c) c xs (λ m. lex m xs)) closes
past_byte true x n xs is rest within closes =
    let next : 1 + n ≡ suc n = omega arith in
    let behind : suc (n + 1) ≡ 1 + n + 1 = omega arith in
    plain_byte x xs is ∙ rest (omega arith) (sym (ap (λ k. get_or (x ∷ xs) k 0) next) ∙ closes) ∙ ap (λ k. lex between (drop k (x ∷ xs))) behind

past_plain : (xs : List ℕ) → prefix_len is_plain xs < length xs → get_or xs (prefix_len is_plain xs) 0 ≡ 34 → lex in_string xs ≡ lex between (drop (prefix_len is_plain xs + 1) xs)
past_plain [] within closes = absurd (omega arith)
past_plain (x ∷ xs) within closes = past_byte (is_plain x) x (prefix_len is_plain xs) xs refl (past_plain xs) within closes

content_byte : (is : Bool) (x n : ℕ) (xs : List ℕ) → is_plain x ≡ is → (n < length xs → get_or xs n 0 ≡ 34 → content plain xs ≡ Some (take n xs))
    → cond is (1 + n) 0 < length (x ∷ xs) → get_or (x ∷ xs) (cond is (1 + n) 0) 0 ≡ 34 → content plain (x ∷ xs) ≡ Some (take (cond is (1 + n) 0) (x ∷ xs))
unfolding content
content_byte false x n xs is rest within closes = ap (λ c. content plain (c ∷ xs)) closes
content_byte true x n xs is rest within closes =
    let next : 1 + n ≡ suc n = omega arith in
    let stops = or_parts ((x == 34) || (x == 92)) _ (not-true _ is) in
    let tests = or_parts (x == 34) _ stops.0 in
    let inner = rest (omega arith) (sym (ap (λ k. get_or (x ∷ xs) k 0) next) ∙ closes) in
    (λ i. cond (tests.0 i) (Some []) (cond (tests.1 i) (content after_backslash xs) (cond (stops.1 i) None (prepend (x ∷ []) (inner i)))))
    ∙ ap (λ k. Some (take k (x ∷ xs))) (sym next)

content_plain : (xs : List ℕ) → prefix_len is_plain xs < length xs → get_or xs (prefix_len is_plain xs) 0 ≡ 34 → content plain xs ≡ Some (take (prefix_len is_plain xs) xs)
content_plain [] within closes = absurd (omega arith)
content_plain (x ∷ xs) within closes = content_byte (is_plain x) x (prefix_len is_plain xs) xs refl (content_plain xs) within closes

pub text_front : (t : List ℕ) (n : ℕ) → head t ≡ 34 → n ≡ prefix_len is_plain (drop 1 t) → n < length (drop 1 t) → get_or (drop 1 t) n 0 ≡ 34
    → lex between t ≡ token (Token.string (take n (drop 1 t))) ∷ lex between (drop (n + 1) (drop 1 t))
unfolding lex
text_front [] n opens is within closes = absurd (omega (arith, opens))
text_front (x ∷ after) n opens is within closes =
    let m = prefix_len is_plain after in
    let stands : get_or after m 0 ≡ 34 = ap (λ k. get_or after k 0) (sym is) ∙ closes in
    let before : m < length after = omega arith in
    ap (λ c. lex between (c ∷ after)) opens
    ∙ ap (λ s. token (string_token s) ∷ lex in_string after) (content_plain after before stands)
    ∙ ap (λ ls. token (Token.string (take m after)) ∷ ls) (past_plain after before stands)
    ∙ ap (λ k. token (Token.string (take k after)) ∷ lex between (drop (k + 1) after)) (sym is)

-- ---- literals

module _ (t rest : List ℕ) (ends : ends_word rest ≡ true) where
  pub null_front : t ≡ null_text ++ rest → lex between t ≡ token Token.null ∷ lex between rest
  unfolding lex word
  null_front is = ap (lex between) is ∙ ap (λ b. token (cond b Token.null Token.bad) ∷ lex in_word rest) ends ∙ ap (λ ls. token Token.null ∷ ls) (in_word-ended rest ends)

  pub true_front : t ≡ true_text ++ rest → lex between t ≡ token (Token.boolean true) ∷ lex between rest
  unfolding lex word
  true_front is =
      ap (lex between) is ∙ ap (λ b. token (cond b (Token.boolean true) Token.bad) ∷ lex in_word rest) ends ∙ ap (λ ls. token (Token.boolean true) ∷ ls) (in_word-ended rest ends)

  pub false_front : t ≡ false_text ++ rest → lex between t ≡ token (Token.boolean false) ∷ lex between rest
  unfolding lex word
  false_front is =
      ap (lex between) is ∙ ap (λ b. token (cond b (Token.boolean false) Token.bad) ∷ lex in_word rest) ends ∙ ap (λ ls. token (Token.boolean false) ∷ ls) (in_word-ended rest ends)
