use Rattle.std.proofs.Common.{◌≡◌, map}
use Rattle.span_run.specs.Counted.{inner_of, failed_of, flushes_of}
use Rattle.span_replay.specs.inside.Running.{IsWritten, core_in}
use Rattle.span_replay.specs.inside.Turns.{ArePartlyMade}
use Rattle.span_replay.specs.Written.{closes, each_written}
use Rattle.span_replay.proofs.run.tidying.close_all.Given as goal

abbrev pub invariant-loop-id : goal.invariant-loop-id
invariant-loop-id g l = record {
  made : ArePartlyMade (g.W.Write.contents (inner_of l.initial.output)) (g.W.Write.contents (inner_of l.output))
      (each_written closes (core_in l.initial.script) (map (λ entry. entry.1) l.labels))
      (each_written closes (core_in l.script) l.id-iterator);
  written : IsWritten l.script;
  workers : l.script.workers ≡ l.initial.script.workers;
  failed : failed_of l.output ≡ failed_of l.initial.output;
  flushes : flushes_of l.output ≡ flushes_of l.initial.output;
}
