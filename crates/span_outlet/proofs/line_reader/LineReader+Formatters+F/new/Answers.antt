use Rattle.std.proofs.Common.{rules, ◌≡◌, [], ap}
use mathlib.Core.List.{reverse}
use Rattle.rtrb.specs.Ring.{received}
use Rattle.span_outlet.proofs.Reading.{nothing_left, none_of_last}
use Rattle.span_outlet.proofs.Noting.{none_has}
use Rattle.span_outlet.proofs.line_reader.LineReader+Formatters+F.new.Goals as goal

pub invariant_of-result-2 : goal.invariant_of-result-2
invariant_of-result-2 g c =
    let nothing : reverse c.new.result.items ≡ [] = ap reverse c.new.ensures.items in
    (nothing_left _ _ _ (received c.tap.inside.consumer) _ _ c.tap.invariant c.nothing.ensures nothing, none_of_last _ _ nothing, search rules, none_has _ _ _ _ nothing)
