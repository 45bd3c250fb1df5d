use Rattle.std.proofs.Common.{◌≡◌, ◌+◌, ◌++◌, [], length, map}
use Rattle.rtrb.specs.Ring.{received, known_items}
use Rattle.span_outlet.specs.LineReader.{TakesBatches}
use Rattle.span_outlet.specs.inside.Ends.{name_of_consumer}
use Rattle.span_outlet.specs.inside.Reading.{reader_view}
use Rattle.span_outlet.specs.Posted.{plain_posted}
use Rattle.span_outlet.proofs.line_reader.take_until_line.Given as goal

-- what was taken had no line, and the batches that are still to come stand in the ring
abbrev pub invariant-loop : goal.invariant-loop
invariant-loop g l = record {
  name : name_of_consumer l.consumer ≡ name_of_consumer l.fn.consumer;
  forms : l.note_lines.forms ≡ l.fn.note_lines.forms;
  number : l.taken ≡ length (received l.consumer);
  standing : length (known_items l.consumer) + l.counter ≡ l.standing;
  fifo : map plain_posted (received l.consumer ++ known_items l.consumer) ≡ map plain_posted (received l.fn.consumer ++ known_items l.fn.consumer);
  nothing : l.note_lines.lines.items ≡ [];
  batches : TakesBatches (reader_view (name_of_consumer l.fn.consumer) 0 l.fn.note_lines.forms (received l.fn.consumer) [] [] l.fn.note_lines.missed)
      (reader_view (name_of_consumer l.consumer) 0 l.note_lines.forms (received l.consumer) [] l.note_lines.lines.items l.note_lines.missed);
}
