use Rattle.std.proofs.Common.{refl, ap, arith}
use Rattle.span_forest.proofs.Adds.{IsConsistent-empty}
use Rattle.span_forest.proofs.forest.Forest.new.Goals as goal

pub invariant_of-result : goal.invariant_of-result
invariant_of-result c =
    rw c.in_ok-slots.ensures.entries (IsConsistent-empty c.limits.result.now.max_count 0 0 refl refl (omega (arith, c.limits.ensures.in_range.max_count, ap (λ l. l.max_count) c.limits.ensures.value)) (omega (arith, c.limits.ensures.in_range.max_count_high, ap (λ l. l.max_count) c.limits.ensures.value)))
