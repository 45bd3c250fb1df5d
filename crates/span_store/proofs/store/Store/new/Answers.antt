use Rattle.std.proofs.Common.{ap, arith}
use Rattle.span_store.proofs.Upheld.{IsConsistent-empty}
use Rattle.span_store.proofs.store.Store.new.Goals as goal

pub invariant_of-result : goal.invariant_of-result
invariant_of-result c =
    let o = c.in_ok-slots.ensures in
    let same = c.limits.ensures.value in
    let range = c.limits.ensures.in_range in
    IsConsistent-empty c.in_ok-slots.slots c.limits.result.now.max_count o.entries o.given o.freed (omega (arith, range.slots_high, o.slots)) (omega (arith, range.max_count, ap (λ l. l.max_count) same)) (omega (arith, range.max_count_high, ap (λ l. l.max_count) same))
