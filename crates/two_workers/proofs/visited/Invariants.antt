use Rattle.std.specs.Prelude.{None}
use Rattle.two_workers.proofs.visited.Given as goal

abbrev pub ghosts-visits-H-Ledger : goal.ghosts-visits-H-Ledger
ghosts-visits-H-Ledger g a = record { name = a.blanks.handles; parts = a.blanks.handle_parts }

abbrev pub ghosts-visits-C-Ledger : goal.ghosts-visits-C-Ledger
ghosts-visits-C-Ledger g a = record { name = a.blanks.calls; parts = a.blanks.call_parts }

abbrev pub ghosts-visits-S-Setup : goal.ghosts-visits-S-Setup
ghosts-visits-S-Setup g a = record { limits = a.blanks.limits; rules = a.filters.rules; forms = a.outlet.forms; ring = None }

abbrev pub ghosts-visits-S-TableName : goal.ghosts-visits-S-TableName
ghosts-visits-S-TableName g a = record { table = a.blanks.table; history = a.blanks.history }
