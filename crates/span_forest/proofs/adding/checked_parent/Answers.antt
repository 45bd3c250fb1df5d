use Rattle.std.proofs.Common.{sym, ap, ◌∙◌, arith}
use Rattle.std.specs.Option.{option_copied}
use Rattle.span_forest.proofs.Adds.{not_found, found_open}
use Rattle.span_forest.proofs.adding.checked_parent.Goals as goal

pub returns-in_default-get-clause-refused : goal.returns-in_default-get-clause-refused
returns-in_default-get-clause-refused c =
    rw c.in-Some.is (not_found c.args.slots.now.entries c.in-Some.above (sym c.get.ensures ∙ ap option_copied c.in_default-get.is))

pub returns-then-span-max_count-clause-refused : goal.returns-then-span-max_count-clause-refused
returns-then-span-max_count-clause-refused c =
    let f = sym c.get.ensures ∙ ap option_copied c.in-Some-get.is in
    let n = c.requires.counted c.in-Some.above c.in-Some-get.span.now f in
    let b = c.requires.bounded c.in-Some.above in
    rw c.in-Some.is (found_open c.args.slots.now.entries c.in-Some.above c.in-Some-get.span.now f, omega (arith, c.if-span-max_count.true))

pub returns-clause-parent : goal.returns-clause-parent
returns-clause-parent c =
    let f = sym c.get.ensures ∙ ap option_copied c.in-Some-get.is in
    let n = c.requires.counted c.in-Some.above c.in-Some-get.span.now f in
    rw c.in-Some.is (found_open c.args.slots.now.entries c.in-Some.above c.in-Some-get.span.now f, omega (arith, c.if-span-max_count.false))
