use Rattle.std.specs.Prelude.{[], Some}
use Rattle.call_loops.proofs.soak.soaked.beside_a_reader.Given as goal

abbrev pub ghosts-run-H-Ledger : goal.ghosts-run-H-Ledger
ghosts-run-H-Ledger g a = record { name = a.blanks.handles; parts = a.blanks.handle_parts }

abbrev pub ghosts-run-C-Ledger : goal.ghosts-run-C-Ledger
ghosts-run-C-Ledger g a = record { name = a.blanks.calls; parts = a.blanks.call_parts }

abbrev pub ghosts-run-S-Setup : goal.ghosts-run-S-Setup
ghosts-run-S-Setup g a = record { limits = a.blanks.limits; rules = a.filters.rules; forms = []; ring = Some a.ring.name }

abbrev pub ghosts-run-S-TableName : goal.ghosts-run-S-TableName
ghosts-run-S-TableName g a = record { table = a.blanks.table; history = a.blanks.history }
