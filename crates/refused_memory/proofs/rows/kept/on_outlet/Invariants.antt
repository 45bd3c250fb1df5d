use Rattle.std.specs.Prelude.{None}
use Rattle.refused_memory.proofs.rows.kept.on_outlet.Given as goal

abbrev pub ghosts-named-H-Ledger : goal.ghosts-named-H-Ledger
ghosts-named-H-Ledger g a = record { name = a.blanks.handles; parts = a.blanks.handle_parts }

abbrev pub ghosts-named-C-Ledger : goal.ghosts-named-C-Ledger
ghosts-named-C-Ledger g a = record { name = a.blanks.calls; parts = a.blanks.call_parts }

abbrev pub ghosts-named-S-Setup : goal.ghosts-named-S-Setup
ghosts-named-S-Setup g a = record { limits = a.blanks.limits; rules = a.filters.rules; forms = a.outlet.forms; ring = None }

abbrev pub ghosts-named-S-TableName : goal.ghosts-named-S-TableName
ghosts-named-S-TableName g a = record { table = a.blanks.table; history = a.blanks.history }
