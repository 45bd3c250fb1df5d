use Rattle.std.proofs.Common.{◌≡◌, arith}
use Rattle.span_replay.proofs.WrittenCalls.{all_written, note_more}
use Rattle.span_replay.proofs.run.script.write_notes.Goals as goal

pub returns-clause-text : goal.returns-clause-text
returns-clause-text g c =
    let refusals = c.missed.ensures in
    let few = c.if-missed-gt0.false in
    let none : c.args.latest.now.missed ≡ 0 = omega (arith, refusals, few) in
    all_written _ _ _ _ _ _ _ _ _ none c.lines-line-items.ensures.whole c.sent-sent.ensures c.requires c.if-sent-written.false c.loop-line-test.false c.loop-line.invariant

pub loop-line-preserved : goal.loop-line-preserved
loop-line-preserved g c = note_more _ _ _ _ _ _ c.loop-line-test.true c.line-item.is c.in-Ok.ensures c.loop-line.invariant
