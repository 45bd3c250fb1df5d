use Rattle.std.proofs.Common.{ℕ, ◌<◌, subst, sym}
use Rattle.span_registry_tests.proofs.tests.registry.caller.run.Goals as goal

pub only-requires-clause-new : goal.only-requires-clause-new
only-requires-clause-new g c =
    λ i d below. c.in_ok-registry.ensures.each i d (subst (λ (n : ℕ). i < n) (sym c.requires.workers) below)
