use Rattle.std.proofs.Common.{◌≡◌, ◌++◌, length}
use Rattle.call_loops.specs.ReadOut.{GivesLines}
use Rattle.call_loops.proofs.reading.read_waiting.Given as goal

-- what was given out and what waits are together what they were
abbrev pub invariant-loop-line : goal.invariant-loop-line
invariant-loop-line g l = record {
  same : l.reader ≡ record l.initial.reader { given = l.reader.given; waiting = l.reader.waiting };
  read : l.reader.given ++ l.reader.waiting ≡ l.initial.reader.given ++ l.initial.reader.waiting;
  lines : GivesLines l.initial.reader l.reader l.lines;
}

abbrev pub decreases-loop-line : goal.decreases-loop-line
decreases-loop-line g l = length l.reader.waiting
