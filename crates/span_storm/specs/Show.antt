-- The numbers of a storm, as text.
use Rattle.std.specs.Prelude.{ℕ, List, [], ◌∷◌, ◌++◌, flat_map, vec_len, codes}
use Rattle.std.specs.Fmt.{decimal}
use Rattle.span_registry.specs.declared.report.Report.{Report}

-- a number and what it counts, on a line
abbrev pub number_line : List ℕ → ℕ → List ℕ
number_line label number = label ++ (codes " " ++ (decimal number ++ codes "\n"))

-- the eight lines of a storm with so many workers and rounds; the notes that were missed stand as `refused`
abbrev pub storm_lines : ℕ → ℕ → Report → List ℕ
storm_lines workers rounds report = flat_map (λ (row : List ℕ × ℕ). number_line row.0 row.1) (
    (codes "workers", workers)
    ∷ (codes "rounds", rounds)
    ∷ (codes "made", report.made)
    ∷ (codes "closed", report.closed)
    ∷ (codes "calls", report.calls)
    ∷ (codes "lines", vec_len report.lines)
    ∷ (codes "refused", report.missed)
    ∷ (codes "left", report.left)
    ∷ [])
