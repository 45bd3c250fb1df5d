use Rattle.std.proofs.Common.{rules, refl, ◌∙◌}
use Rattle.call_loops.proofs.ReadToEnd.{gives_none, gives_one, moved_out, still}
use Rattle.call_loops.proofs.reading.read_waiting.Goals as goal

pub loop-line-init : goal.loop-line-init
loop-line-init g c = record { same = refl; read = refl; lines = gives_none _ _ refl }

pub loop-line-preserved : goal.loop-line-preserved
loop-line-preserved g c =
    let before = c.loop-line.invariant in
    let next = c.in-Some.ensures in
    let mid = c.loop-line.reader in
    let new = c.next.new.self in
    rw c.take_back.ensures (record {
      same = still c.args.reader.now mid new before.same next.rest;
      read = moved_out mid new _ next.some next.given ∙ before.read;
      lines = gives_one _ mid new _ _ _ before.lines next.given (search rules);
    })
