use Rattle.std.proofs.Common.{◌≡◌, ◌-◌, [], length}
use Rattle.span_outlet.specs.LineReader.{AreLeft}
use Rattle.call_loops.specs.ReadOut.{HasReadOn}
use Rattle.call_loops.proofs.reading.read_to_end.Given as goal

-- no line waits, and those that were given out are the lines of what was taken
abbrev pub invariant-loop-reader : goal.invariant-loop-reader
invariant-loop-reader g l = record {
  waiting : l.reader.waiting ≡ [];
  left : AreLeft l.reader;
  lines : HasReadOn l.fn.reader l.reader l.lines;
  pair : l.ring.name ≡ l.reader.name;
  sent : l.ring.sent ≡ l.initial.ring.sent;
}

abbrev pub decreases-loop-reader : goal.decreases-loop-reader
decreases-loop-reader g l = length l.ring.sent - length l.reader.taken
