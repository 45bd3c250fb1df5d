use Rattle.std.proofs.Common.{◌≤◌, ◌<◌, ap, subst, arith, length, map, take_all}
use Rattle.span_layers.specs.MaxLevel.{pair_levels, IsMostVerbose}
use Rattle.span_layers.specs.Rule.{pair_of}
use Rattle.span_layers.proofs.MaxLevel.{most_more}
use Rattle.span_layers.proofs.rule.Rule.max_level.Goals as goal

pub loop-level-preserved : goal.loop-level-preserved
loop-level-preserved c =
    let items = c.args.self.now.pairs.items in
    let x = c.loop-level-item.result in
    let within : c.loop-level.level-index < length items = omega (arith, c.loop-level-test.true, ap length c.deref-level-items.ensures.value) in
    let is = rw c.deref-level-items.ensures.value at c.loop-level-item.is in
    rw c.more_verbose-most.ensures (most_more items c.loop-level.level-index x c.loop-level.most within is c.loop-level.invariant)

pub returns : goal.returns
returns c =
    let items = c.args.self.now.pairs.items in
    let past : length items ≤ c.loop-level.level-index = omega (arith, c.loop-level-test.false, ap length c.deref-level-items.ensures.value) in
    subst (λ xs. IsMostVerbose (pair_levels (map pair_of xs)) c.loop-level.most) (take_all c.loop-level.level-index items past) c.loop-level.invariant
