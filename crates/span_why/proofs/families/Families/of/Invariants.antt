use Rattle.std.proofs.Common.{map, take}
use Rattle.span_why.specs.Why.{plain_open_span}
use Rattle.span_why.specs.inside.Families.{AreFamilies}
use Rattle.span_why.proofs.families.Families.of.Given as goal

abbrev pub invariant-loop-span : goal.invariant-loop-span
invariant-loop-span l = AreFamilies (map plain_open_span (take l.span-index l.spans)) l.families
