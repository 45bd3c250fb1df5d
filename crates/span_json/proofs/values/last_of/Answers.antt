use Rattle.std.proofs.Common.{rules, ◌≡◌, true, false, bytes_eq, ◌∙◌, sym}
use Rattle.span_json.proofs.Members.{found_last, found_before}
use Rattle.span_json.proofs.values.last_of.Goals as goal

pub returns-then-eq : goal.returns-then-eq
returns-then-eq c =
    let same : bytes_eq c.index-member.result.now.0.now c.args.key.now ≡ true = search rules in
    sym (c.loop-place.invariant ∙ found_last c.args.key.now c.args.members.now.items c.loop-place.place c.index-member.result.now c.loop-place-test.true (search rules) c.index-member.ensures same)

pub loop-place-preserved : goal.loop-place-preserved
loop-place-preserved c =
    let other : bytes_eq c.index-member.result.now.0.now c.args.key.now ≡ false = search rules in
    c.loop-place.invariant ∙ found_before c.args.key.now c.args.members.now.items c.loop-place.place c.index-member.result.now c.loop-place-test.true (search rules) c.index-member.ensures other
