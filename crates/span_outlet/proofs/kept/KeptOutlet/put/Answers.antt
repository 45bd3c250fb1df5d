use Rattle.std.proofs.Common.{rules, ◌≡◌, ◌++◌, ◌∷◌, [], length}
use Rattle.span_outlet.specs.Batch.{plain_batch}
use Rattle.span_outlet.proofs.Keeping.{as_shown, kept_more, batch_kept}
use Rattle.span_outlet.proofs.kept.KeptOutlet.put.Goals as goal

pub invariant_of-self : goal.invariant_of-self
invariant_of-self g c =
    let number_is : c.len.result ≡ length c.self.inside.batches.items = search rules in
    let sent : c.push_reserved.new.self.items ≡ c.self.inside.batches.items ++ c.args.batch ∷ [] = search rules in
    (batch_kept plain_batch _ _ _ _ c.args.batch _ _ _ c.tell_all.ensures.forms number_is sent (kept_more _ _ _ _ _ _ _ c.self.invariant.0 (as_shown _ _ _ _ _ _ _ _ c.as_slice.ensures.value c.tell_all.ensures.told)), search rules)
