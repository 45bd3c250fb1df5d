-- Rows of numbers, as the code has them: no public clause cites it.
use Rattle.std.specs.Prelude.{ℕ, List, flat_map}
use Rattle.span_storm.specs.Show.{number_line}
use Rattle.span_storm.specs.declared.numbers.Row.{Row}

-- a line for each row
abbrev pub text_of_rows : List Row → List ℕ
text_of_rows rows = flat_map (λ row. number_line row.0.now row.1) rows
