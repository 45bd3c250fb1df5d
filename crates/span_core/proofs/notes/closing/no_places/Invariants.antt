use Rattle.std.proofs.Common.{◌≡◌, None, replicate}
use Rattle.span_core.proofs.notes.closing.no_places.Given as goal

abbrev pub invariant-loop : goal.invariant-loop
invariant-loop l = l.places.items ≡ replicate l.counter None
