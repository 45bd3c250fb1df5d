use Rattle.span_seats.specs.TableName.{no_table}
use Rattle.span_component_tests.proofs.tests.seats.gives_a_slot_again.Given as goal

abbrev pub ghosts-steps : goal.ghosts-steps
ghosts-steps g a = record { table = a.table; history = no_table }
