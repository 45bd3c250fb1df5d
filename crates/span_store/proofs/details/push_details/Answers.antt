use Rattle.std.proofs.Common.{◌≡◌, Some, sym, ap, ◌∙◌}
use Rattle.std.specs.Option.{option_copied}
use Rattle.span_slots.specs.Table.{find}
use Rattle.span_store.proofs.Places.{pushed, held_none, held_some}
use Rattle.span_store.proofs.details.push_details.Goals as goal
use Rattle.span_store.proofs.details.push_details.Goals.{then-entry-eq0, else-entry-eq0}

pub returns : goal.returns
returns c =
    let es = c.args.slots.now.entries in
    let entry = c.in-Some.entry.now in
    let found : find es c.args.id ≡ Some entry = sym c.get.ensures ∙ ap option_copied c.in-Some.is in
    pushed es c.args.id entry c.if-entry-eq0.push c.args.list.now.items c.push.new.self.items c.requires.counted found (elim c.if-entry-eq0.branch [
      | then-entry-eq0 w ↦ w.push-is ∙ held_none entry.handles entry.children w.if-entry-eq0.true
      | else-entry-eq0 w ↦ w.push-is ∙ held_some entry.handles entry.children w.if-entry-eq0.false
    ]) c.in_ok-push.ensures.items
