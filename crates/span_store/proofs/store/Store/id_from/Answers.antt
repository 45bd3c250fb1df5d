use Rattle.std.proofs.Common.{◌∙◌, sym}
use Rattle.span_store.proofs.Walks.{id_from-spans}
use Rattle.span_store.proofs.store.Store.id_from.Goals as goal

pub returns : goal.returns
returns c =
    let i = c.self.inside in
    rw (← c.self.view_is) (c.id_from.ensures ∙ sym (id_from-spans i.slots.entries c.args.slot))
