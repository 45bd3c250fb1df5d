use Rattle.std.proofs.Common.{sym, ap, ◌∙◌}
use Rattle.std.specs.Option.{option_copied}
use Rattle.span_forest.specs.Node.{node_of}
use Rattle.span_forest.specs.Holders.{held_by}
use Rattle.span_forest.proofs.Nodes.{held_at, held_nowhere}
use Rattle.span_forest.proofs.holders.is_held.Goals as goal

pub returns-in-None : goal.returns-in-None
returns-in-None c =
    held_nowhere c.args.slots.now.entries c.args.id c.args.holder (sym c.get.ensures ∙ ap option_copied c.in-None.is)

pub returns-in-Handle : goal.returns-in-Handle
returns-in-Handle c =
    held_at c.args.slots.now.entries c.args.id c.in-Some.span.now c.args.holder (sym c.get.ensures ∙ ap option_copied c.in-Some.is) c.in-Some.span.now.handles (ap (λ h. held_by h (node_of c.in-Some.span.now)) (sym c.in-Handle.is))

pub returns-in-Entry : goal.returns-in-Entry
returns-in-Entry c =
    held_at c.args.slots.now.entries c.args.id c.in-Some.span.now c.args.holder (sym c.get.ensures ∙ ap option_copied c.in-Some.is) c.in-Some.span.now.entries (ap (λ h. held_by h (node_of c.in-Some.span.now)) (sym c.in-Entry.is))
