use Rattle.std.proofs.Common.{rules, ◌≡◌, ◌∷◌, ◌++◌, []}
use Rattle.rtrb.specs.Ring.{received}
use Rattle.span_outlet.specs.Posted.{plain_posted}
use Rattle.span_outlet.proofs.Keeping.{as_shown, kept_more, batch_kept}
use Rattle.span_outlet.proofs.Draining.{batch_taken, one_more_taken}
use Rattle.span_outlet.proofs.drain.Drain.step.Goals as goal

pub invariant_of-self-2 : goal.invariant_of-self-2
invariant_of-self-2 g c =
    let popped : received c.pop.new.self ≡ received c.self.inside.consumer ++ c.in-Ok.batch ∷ [] = c.in-Ok.ensures.ok.0 in (
      batch_kept plain_posted _ _ _ _ c.in-Ok.batch _ _ _ c.tell_all.ensures.forms c.self.invariant.1 popped (kept_more _ _ _ _ _ _ _ c.self.invariant.0 (as_shown _ _ _ _ _ _ _ _ c.as_slice.ensures.value c.tell_all.ensures.told)),
      one_more_taken _ _ c.in-Ok.batch _ popped c.self.invariant.1,
    )

pub returns-clause-taken : goal.returns-clause-taken
returns-clause-taken g c =
    let popped : received c.pop.new.self ≡ received c.self.inside.consumer ++ c.in-Ok.batch ∷ [] = c.in-Ok.ensures.ok.0 in
    rw (← c.self.view_is) (batch_taken _ _ _ _ _ _ c.in-Ok.batch _ _ _ _ _ _ _ (search rules) c.tell_all.ensures.forms c.self.invariant.1 popped (as_shown _ _ _ _ _ _ _ _ c.as_slice.ensures.value c.tell_all.ensures.told) (search rules) (search rules))
