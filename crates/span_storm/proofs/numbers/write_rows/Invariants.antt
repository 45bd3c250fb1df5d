use Rattle.std.proofs.Common.{◌≡◌, take}
use Rattle.std.specs.Io.KnownBytes.{Appends}
use Rattle.span_run.specs.Counted.{inner_of, failed_of, flushes_of}
use Rattle.span_storm.specs.inside.Rows.{text_of_rows}
use Rattle.span_storm.proofs.numbers.write_rows.Given as goal

abbrev pub invariant-loop-row : goal.invariant-loop-row
invariant-loop-row g l = record {
  taken : Appends (g.W.Write.contents (inner_of l.initial.output)) (g.W.Write.contents (inner_of l.output)) (text_of_rows (take l.row-index l.rows));
  failed : failed_of l.output ≡ failed_of l.initial.output;
  flushes : flushes_of l.output ≡ flushes_of l.initial.output;
}
