use Rattle.std.proofs.Common.{sym, ◌∙◌}
use Rattle.std.proofs.lemmas.Bool.{false≢true}
use Rattle.span_slots.specs.Table.{find}
use Rattle.span_forest.specs.Spans.{nodes_of}
use Rattle.span_forest.proofs.Writes.{closed_none}
use Rattle.span_forest.proofs.forest.Forest.write_fields.Goals as goal

pub returns-then-not-is_open-clause-refused : goal.returns-then-not-is_open-clause-refused
returns-then-not-is_open-clause-refused c =
    rw (← c.self.view_is) (closed_none (find (nodes_of c.self.inside.slots.entries) c.args.id) (λ o. false≢true (sym c.if-not-is_open.true ∙ c.is_open.ensures.1 o)))
