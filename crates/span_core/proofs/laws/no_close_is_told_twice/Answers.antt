use Rattle.std.proofs.Common.{arith}
use Rattle.span_core.specs.ClosedSpans.{notes_in, tells_close}
use Rattle.span_core.proofs.Announcing.{tally_is}
use Rattle.span_core.proofs.ToldOnce.{told_at_most_once}
use Rattle.span_core.proofs.laws.no_close_is_told_twice.Goals as goal

pub returns : goal.returns
returns g c =
    let sent = c.args.core.now.sent in
    λ layer id. (let few = told_at_most_once _ _ _ _ c.what_was_sent_is_legal.ensures.legal layer id in let same = tally_is (tells_close layer id) (notes_in sent) in omega (arith, few, same))
