use Rattle.std.proofs.Common.{length, sym, ap, ◌∙◌}
use Rattle.call_loops.proofs.ReadToEnd.{of_history, same_start}
use Rattle.call_loops.proofs.reading.finish_and_read.Goals as goal

pub returns-clause-read : goal.returns-clause-read
returns-clause-read g c =
    let ended = c.finish_reading-ring.ensures.ended in
    ap length (c.read_to_end-rest.ensures.taken ∙ ended.sent) ∙ sym ended.counted.calls

pub returns-clause-told : goal.returns-clause-told
returns-clause-told g c =
    let ended = c.finish_reading-ring.ensures.ended in
    record {
      core = ended.core;
      ended = ended.ended;
      counted = ended.counted;
      given = of_history _ _ _ ended.sent c.read_to_end-rest.ensures.given;
    }

pub returns-clause-lines : goal.returns-clause-lines
returns-clause-lines g c = same_start _ _ _ _ c.finish_reading-ring.ensures.same c.read_to_end-rest.ensures.lines
