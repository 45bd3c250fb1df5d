use Rattle.std.proofs.Common.{◌≡◌, ◌≤◌, length}
use Rattle.span_component_tests.proofs.tests.outlet.calls.sends_all.Given as goal

-- each case sends at most one batch
abbrev pub invariant-loop-kind : goal.invariant-loop-kind
invariant-loop-kind g l =
    (length (g.O.Outlet.sent l.outlet) ≤ l.kind-index)
    × (g.O.Outlet.name l.outlet ≡ g.O.Outlet.name l.fn.outlet)
