use Rattle.std.proofs.Common.{◌≡◌}
use Rattle.refused_memory.proofs.rows.outlets.room.Given as goal

-- nothing was put
abbrev pub invariant-loop : goal.invariant-loop
invariant-loop g l = g.O.Outlet.sent l.outlet ≡ g.O.Outlet.sent l.fn.outlet
