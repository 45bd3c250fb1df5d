use Rattle.span_forest.proofs.Writes.{IsConsistent-appended}
use Rattle.span_forest.proofs.forest.Forest.share_fields.Goals as goal

pub invariant_of-self : goal.invariant_of-self
invariant_of-self c =
    let i = c.self.inside in
    IsConsistent-appended c.append_fields.result i.slots.entries c.append_fields.new.slots.entries i.max_count i.total i.handles c.args.id c.args.fields.now c.self.invariant c.append_fields.ensures.settled c.append_fields.ensures.written c.append_fields.ensures.unchanged
