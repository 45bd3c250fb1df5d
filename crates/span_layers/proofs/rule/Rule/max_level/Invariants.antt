use Rattle.std.proofs.Common.{map, take}
use Rattle.span_layers.specs.MaxLevel.{pair_levels, IsMostVerbose}
use Rattle.span_layers.specs.Rule.{pair_of}
use Rattle.span_layers.proofs.rule.Rule.max_level.Given as goal

abbrev pub invariant-loop-level : goal.invariant-loop-level
invariant-loop-level l = IsMostVerbose (pair_levels (map pair_of (take l.level-index l.self.pairs.items))) l.most
