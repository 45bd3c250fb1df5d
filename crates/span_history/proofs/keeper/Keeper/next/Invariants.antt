use Rattle.span_history.proofs.keeper.Keeper.next.Given as goal

-- what was sent
abbrev pub ghosts-lengthen : goal.ghosts-lengthen
ghosts-lengthen g a = record { longer = g.O.Outlet.sent a.outlet.now }
