use Rattle.std.proofs.Common.{take}
use Rattle.span_layers.specs.MaxLevel.{levels_named, IsMostVerbose}
use Rattle.span_layers.proofs.filters.Rules.max_level.Given as goal

-- the most verbose level of the layers so far
abbrev pub invariant-loop-filter : goal.invariant-loop-filter
invariant-loop-filter l = IsMostVerbose (levels_named (take l.filter-index l.self)) l.most
