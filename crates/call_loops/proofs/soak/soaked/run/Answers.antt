use Rattle.std.proofs.Common.{rules, arith}
use Rattle.call_loops.proofs.Planned.{by_new}
use Rattle.call_loops.proofs.ReadToEnd.{ends_read_out}
use Rattle.call_loops.proofs.soak.soaked.run.Goals as goal

pub returns-clause-calls : goal.returns-clause-calls
returns-clause-calls g c =
    let workers = c.in_ok-registry.workers in
    let made = c.in_ok-registry.ensures in
    by_new _ workers.items _ _ _ c.finish_and_read-rest.ensures.accepted (omega (arith, workers.ok.0, made.count.0)) made.each c.in_ok-whole.ensures.whole

pub returns-clause-told : goal.returns-clause-told
returns-clause-told g c =
    let ended = c.finish_and_read-rest.ensures in
    ends_read_out _ _ _ _ _ _ _ _ _ c.requires.given c.in_ok-whole.ensures.reader ended.lines ended.told (search rules) (search rules)
