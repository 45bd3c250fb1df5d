use Rattle.std.proofs.Common.{◌≡◌}
use Rattle.span_core.specs.inside.Summary.{Summarises}
use Rattle.span_core.proofs.summary.Summary.extend.Given as goal

-- the blocks so far are those of the worker's stack
abbrev pub invariant-loop : goal.invariant-loop
invariant-loop l = (l.self.worker ≡ l.worker) × Summarises l.forest.spans l.stack.ids l.self.blocks.items
