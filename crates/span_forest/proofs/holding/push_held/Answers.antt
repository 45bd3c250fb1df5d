use Rattle.std.proofs.Common.{◌≡◌, ◌+◌, ◌<◌, Some, sym, ap, ◌∙◌, arith}
use Rattle.std.proofs.lemmas.List.{append-nil}
use Rattle.std.specs.Option.{option_copied}
use Rattle.span_slots.specs.Table.{find}
use Rattle.span_forest.proofs.Marks.{held_pushed, held_none, held_absent}
use Rattle.span_forest.proofs.holding.push_held.Goals as goal
use Rattle.span_forest.proofs.holding.push_held.Goals.{then-span-gt0-via-then-span-gt0, then-span-gt0-via-else-span-gt0+then-span-gt0-2}

pub returns-in_default : goal.returns-in_default
returns-in_default c =
    let es = c.args.slots.now.entries in
    rw (held_absent es c.args.at (sym c.get.ensures ∙ ap option_copied c.in_default.is)) (sym (append-nil c.args.found.now.items))

pub returns-in_ok-push : goal.returns-in_ok-push
returns-in_ok-push c =
    let es = c.args.slots.now.entries in
    let found : find es c.args.at ≡ Some c.in-Some.span.now = sym c.get.ensures ∙ ap option_copied c.in-Some.is in
    let some : 0 < c.in-Some.span.now.handles + c.in-Some.span.now.entries = elim c.then-span-gt0.branch [
      | then-span-gt0-via-then-span-gt0 w ↦ (let k = w.if-span-gt0.true in omega (arith, k))
      | then-span-gt0-via-else-span-gt0+then-span-gt0-2 w ↦ (let k = w.if-span-gt0-2.true in omega (arith, k))
    ] in
    rw (held_pushed es c.args.at c.in-Some.span.now found some) c.in_ok-push.ensures.items

pub returns-else-span-gt0-2 : goal.returns-else-span-gt0-2
returns-else-span-gt0-2 c =
    let es = c.args.slots.now.entries in
    let found : find es c.args.at ≡ Some c.in-Some.span.now = sym c.get.ensures ∙ ap option_copied c.in-Some.is in
    rw (held_none es c.args.at c.in-Some.span.now found c.if-span-gt0.false c.if-span-gt0-2.false) (sym (append-nil c.args.found.now.items))
