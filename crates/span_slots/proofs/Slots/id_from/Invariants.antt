use Rattle.std.proofs.Common.{◌≡◌}
use Rattle.span_slots.specs.Table.{id_from}
use Rattle.span_slots.proofs.Slots.id_from.Given as goal

-- the slots so far have no value
abbrev pub invariant-loop-place : goal.invariant-loop-place
invariant-loop-place g l = id_from l.fn.self.entries l.fn.slot ≡ id_from l.fn.self.entries l.place
