-- A line that goes out in pieces, and lines one after another.
use Rattle.std.proofs.Common.{◌≡◌, ℕ, ◌+◌, List, ◌∷◌, ◌++◌, ap, sym, ◌∙◌, subst, drop, take, take-append-drop, Result, Ok, Err}
use Rattle.std.specs.Prelude.{OnErr}
use Rattle.std.specs.Io.KnownBytes.{Appends}
use Rattle.std.proofs.lemmas.Grind.{flat_map-append}
use Rattle.std.proofs.lemmas.List.Concat.{flat_map-cons}
use Rattle.span_run.specs.Device.{AppendsFront}
use Rattle.span_run.proofs.Fronts.{Known, front_after, front_more}
use Rattle.span_storm.specs.Show.{number_line}
use Rattle.span_storm.specs.inside.Rows.{text_of_rows}
use Rattle.span_storm.specs.declared.numbers.Row.{Row}

-- ---- answers

pub on_err : {T E X : Type 0} (r : Result T E) → X → OnErr r X
on_err (Ok _) x = tt
on_err (Err _) x = x

pub on_err_then : {T E X Y : Type 0} (r : Result T E) → (X → Y) → OnErr r X → OnErr r Y
on_err_then (Ok _) f x = tt
on_err_then (Err _) f x = f x

-- ---- pieces

-- a piece did not go out to its end, and more should have come
pub piece_fails : (a b : Known) (text piece more : List ℕ) → AppendsFront a b piece → piece ≡ text → AppendsFront a b (text ++ more)
piece_fails a b text piece more p is = front_more a b text more (subst (AppendsFront a b) is p)

-- a piece went out, and what should have come after it did not to its end
pub rest_fails : (a b c : Known) (text piece more : List ℕ) → Appends a b piece → AppendsFront b c more → piece ≡ text → AppendsFront a c (text ++ more)
rest_fails a b c text piece more p q is = front_after a b c text more (subst (Appends a b) is p) q

-- ---- rows

-- the rows, at one of them
text_at : (rows : List Row) (i : ℕ) (row : Row) → drop i rows ≡ row ∷ drop (i + 1) rows
    → text_of_rows rows ≡ text_of_rows (take i rows) ++ (number_line row.0.now row.1 ++ text_of_rows (drop (i + 1) rows))
text_at rows i row is =
    ap text_of_rows (sym (take-append-drop i rows))
    ∙ flat_map-append (λ (r : Row). number_line r.0.now r.1) (take i rows) (drop i rows)
    ∙ ap (λ l. text_of_rows (take i rows) ++ text_of_rows l) is
    ∙ ap (λ t. text_of_rows (take i rows) ++ t) (flat_map-cons (λ (r : Row). number_line r.0.now r.1) row (drop (i + 1) rows))

-- the lines before a row went out, and its own did not to its end
pub row_fails : (a b c : Known) (rows : List Row) (i : ℕ) (row : Row) → Appends a b (text_of_rows (take i rows)) → AppendsFront b c (number_line row.0.now row.1)
    → drop i rows ≡ row ∷ drop (i + 1) rows → AppendsFront a c (text_of_rows rows)
row_fails a b c rows i row p q is =
    subst (AppendsFront a c) (sym (text_at rows i row is))
    (front_after a b c (text_of_rows (take i rows)) _ p (front_more b c (number_line row.0.now row.1) (text_of_rows (drop (i + 1) rows)) q))
