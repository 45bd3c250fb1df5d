use Rattle.span_store.proofs.Found.{found_none, found_some}
use Rattle.span_store.proofs.store.Store.find.Goals as goal

pub returns-clause-absent : goal.returns-clause-absent
returns-clause-absent c = rw (← c.self.view_is) (found_none c.self.inside.slots.entries c.args.id c.get.result c.get.ensures)

pub returns-clause-found : goal.returns-clause-found
returns-clause-found c = rw (← c.self.view_is) (found_some c.self.inside.slots.entries c.args.id c.get.result c.get.ensures)
