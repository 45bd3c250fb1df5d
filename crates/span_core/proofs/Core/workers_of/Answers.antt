use Rattle.std.proofs.Common.{sym, ◌∙◌}
use Rattle.span_core.proofs.WorkersInside.{none_with}
use Rattle.span_core.proofs.Core.workers_of.Goals as goal

pub returns-then-entries-eq0-clause-workers : goal.returns-then-entries-eq0-clause-workers
returns-then-entries-eq0-clause-workers g c =
    c.new.ensures.items
    ∙ sym (none_with c.args.self.now.world.stacks c.args.id (sym (c.entries_are_the_workers_inside.ensures.entered c.args.id) ∙ (sym c.requires ∙ c.if-entries-eq0.true)))
