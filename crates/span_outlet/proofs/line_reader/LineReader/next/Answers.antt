use Rattle.std.proofs.Common.{rules, ◌≡◌, ◌∷◌}
use mathlib.Core.List.{reverse}
use Rattle.span_outlet.proofs.Reading.{first_out, rest_left, rest_of_last}
use Rattle.span_outlet.proofs.Noting.{rest_have}
use Rattle.span_outlet.proofs.line_reader.LineReader.next.Goals as goal

pub invariant_of-self-2 : goal.invariant_of-self-2
invariant_of-self-2 g c =
    let out : reverse c.self.inside.note_lines.lines.items ≡ c.in_ok-line.line ∷ reverse c.pop.new.self.items = first_out _ _ _ c.in_ok-line.ensures.items in
    (rest_left _ _ _ _ _ _ _ _ _ _ out c.add.ensures c.self.invariant.0, rest_of_last _ _ _ _ out c.self.invariant.1, search rules, rest_have _ _ _ _ _ _ out c.self.invariant.3)
