-- What a test of the lines tells of those that wait, which are the same ones in the other order.
use Rattle.std.proofs.Common.{◌≡◌, ℕ, zero, suc, ◌<◌, ◌↔◌, Bool, true, false, not, List, [], ◌∷◌, length, map, refl, sym, ap, ◌∙◌, arith, rules}
use mathlib.Core.List.{reverse}
use Rattle.std.specs.Prelude.{◌==◌, IsTrue}
use Rattle.std.proofs.lemmas.Bool.{eqb-true}
use Rattle.std.proofs.lemmas.List.{length-map, length-reverse, nil_from_length}
use Rattle.span_outlet.specs.declared.line.Line.{Line}
use Rattle.span_outlet.specs.Lines.{PlainLine, plain_line}
use Rattle.span_outlet.specs.LineReader.{looks_of_fill}

as_many : (lines : List Line) → length (map plain_line (reverse lines)) ≡ length lines
as_many lines = length-map (reverse lines) plain_line ∙ length-reverse lines

some : (n : ℕ) → (n == 0) ≡ false → 0 < n
some zero e = absurd (cc)
some (suc n) e = omega arith

pub some_wait : (lines : List Line) (empty : Bool) (n : ℕ) → empty ≡ (n == 0) → n ≡ length lines → empty ≡ false → 0 < length (map plain_line (reverse lines))
some_wait lines empty n is len test = omega (arith, as_many lines, len, some n (sym is ∙ test))

pub no_lines : (lines : List Line) (empty : Bool) (n : ℕ) → empty ≡ (n == 0) → n ≡ length lines → empty ≡ true → lines ≡ []
no_lines lines empty n is len test = nil_from_length lines (sym len ∙ eqb-true n 0 (sym is ∙ test))

pub none_wait : (lines : List Line) (empty : Bool) (n : ℕ) → empty ≡ (n == 0) → n ≡ length lines → not empty ≡ false → map plain_line (reverse lines) ≡ []
none_wait lines true n is len test = rw (no_lines lines true n is len refl) refl
none_wait lines false n is len test = absurd (cc)

-- the test says whether there are any
pub answered : (lines : List Line) (empty : Bool) (n : ℕ) → empty ≡ (n == 0) → n ≡ length lines → (IsTrue (not empty) ↔ (0 < length (map plain_line (reverse lines))))
answered lines true n is len =
    let nothing = no_lines lines true n is len refl in
    rw nothing (search rules)
answered lines false n is len = (λ _. some_wait lines false n is len refl, λ _. search rules)

-- no look where some wait already
pub not_looked : (waiting : List PlainLine) (looks : ℕ) → 0 < length waiting → looks ≡ looks_of_fill waiting looks
not_looked [] looks there = absurd (omega arith)
not_looked (line ∷ lines) looks there = refl

pub none_waited : (lines : List Line) → lines ≡ [] → 0 < length (map plain_line (reverse lines)) → ⊥
none_waited lines nothing there = (let gone : length lines ≡ 0 = ap length nothing in omega (arith, as_many lines, gone, there))

pub none_wait_here : (waiting : List PlainLine) → 0 < length waiting → waiting ≡ [] → ⊥
none_wait_here waiting there nothing = (let gone : length waiting ≡ 0 = ap length nothing in omega (arith, gone, there))
