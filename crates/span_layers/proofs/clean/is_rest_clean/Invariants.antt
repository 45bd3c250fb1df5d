use Rattle.span_layers.specs.inside.Clean.{IsCleanIn}
use Rattle.span_layers.proofs.clean.is_rest_clean.Given as goal

abbrev pub invariant-loop-at : goal.invariant-loop-at
invariant-loop-at l = IsCleanIn l.text l.start l.at
