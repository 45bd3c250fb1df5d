-- What the outlet that keeps the lines of the last batch alone has of a history.
use Rattle.std.specs.Prelude.{ℕ, ◌-◌, List, flat_map, drop, length}
use Rattle.std.specs.List.{enumerate_from}
use Rattle.span_layers.specs.declared.form.Form.{Form}
use Rattle.span_outlet.specs.Batch.{PlainBatch}
use Rattle.span_outlet.specs.Lines.{PlainLine, lines_of_batch}

-- the lines of the batches of a history from the one of this number on
abbrev pub lines_from : List Form → ℕ → List PlainBatch → List PlainLine
lines_from forms first sent = flat_map (lines_of_batch forms) (enumerate_from first (drop first sent))

-- the lines of the last batch; where none was sent there are none
abbrev pub last_lines : List Form → List PlainBatch → List PlainLine
last_lines forms sent = lines_from forms (length sent - 1) sent
