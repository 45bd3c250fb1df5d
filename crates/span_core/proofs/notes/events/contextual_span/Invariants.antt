use Rattle.std.proofs.Common.{◌≡◌, ◌*◌, take}
use Rattle.span_core.specs.Happening.{contextual_span}
use Rattle.span_core.proofs.notes.events.contextual_span.Given as goal

-- what the layer sees is what it sees in the blocks that are left
abbrev pub invariant-loop-nth : goal.invariant-loop-nth
invariant-loop-nth l =
    contextual_span l.forest.spans l.stack.ids l.layer ≡ contextual_span l.forest.spans (take (l.nth * 64) l.stack.ids) l.layer
