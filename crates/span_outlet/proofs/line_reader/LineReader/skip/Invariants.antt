use Rattle.std.proofs.Common.{◌≡◌, ◌++◌, length}
use Rattle.span_outlet.proofs.line_reader.LineReader.skip.Given as goal

-- the lines that were given out and those that wait are the same all together, and nothing else changes
abbrev pub invariant-loop-line : goal.invariant-loop-line
invariant-loop-line g l = record {
  all : l.self.given ++ l.self.waiting ≡ l.initial.self.given ++ l.initial.self.waiting;
  rest : l.self ≡ record l.initial.self { given = l.self.given; waiting = l.self.waiting };
}

abbrev pub decreases-loop-line : goal.decreases-loop-line
decreases-loop-line g l = length l.self.waiting
