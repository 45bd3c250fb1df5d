-- The lines that were given out, as they are known: no public clause cites it.
use Rattle.std.specs.Prelude.{List, [], ◌∷◌, ◌++◌}
use Rattle.span_outlet.specs.declared.given_out.GivenOut.{GivenOut, Nothing, After'}
use Rattle.span_outlet.specs.Lines.{PlainLine, plain_line}

-- in the order in which they were given out
abbrev pub lines_given : GivenOut → List PlainLine
lines_given Nothing = []
lines_given (After' p before line) = lines_given before ++ plain_line line.value ∷ []
