-- The lines of one layer, as the code keeps them: no public clause cites it.
use Rattle.std.specs.Prelude.{ℕ, ◌==◌, List, filter}
use Rattle.span_outlet.specs.declared.line.Line.{Line}

abbrev pub of_layer : ℕ → List Line → List Line
of_layer layer lines = filter (λ line. line.layer == layer) lines
