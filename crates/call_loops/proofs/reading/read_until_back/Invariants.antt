use Rattle.call_loops.specs.ReadOut.{HasReadOn}
use Rattle.call_loops.proofs.reading.read_until_back.Given as goal

abbrev pub invariant-loop : goal.invariant-loop
invariant-loop g l = HasReadOn l.initial.reader l.reader l.lines
