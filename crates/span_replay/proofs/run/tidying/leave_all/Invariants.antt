use Rattle.std.proofs.Common.{◌≡◌, ◌-◌}
use Rattle.std.specs.List.{range_with_len}
use Rattle.span_run.specs.Counted.{inner_of, failed_of, flushes_of}
use Rattle.span_replay.specs.inside.Running.{IsWritten, core_in, labels_in}
use Rattle.span_replay.specs.inside.Turns.{ArePartlyMade}
use Rattle.span_replay.specs.Written.{each_written, exits}
use Rattle.span_replay.proofs.run.tidying.leave_all.Given as goal

abbrev pub invariant-loop-worker : goal.invariant-loop-worker
invariant-loop-worker g l = record {
  made : ArePartlyMade (g.W.Write.contents (inner_of l.initial.output)) (g.W.Write.contents (inner_of l.output))
      (each_written exits (core_in l.initial.script) (range_with_len 0 l.initial.script.workers))
      (each_written exits (core_in l.script) (range_with_len l.worker (l.initial.script.workers - l.worker)));
  written : IsWritten l.script;
  labels : labels_in l.script ≡ labels_in l.initial.script;
  workers : l.script.workers ≡ l.initial.script.workers;
  failed : failed_of l.output ≡ failed_of l.initial.output;
  flushes : flushes_of l.output ≡ flushes_of l.initial.output;
}
