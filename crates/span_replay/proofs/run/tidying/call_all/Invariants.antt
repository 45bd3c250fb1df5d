use Rattle.std.proofs.Common.{◌≡◌, map, drop}
use Rattle.span_run.specs.Counted.{inner_of, failed_of, flushes_of}
use Rattle.span_replay.specs.Requests.{request_of_call}
use Rattle.span_replay.specs.inside.Running.{IsWritten, core_in, labels_in}
use Rattle.span_replay.specs.inside.Turns.{ArePartlyMade}
use Rattle.span_replay.specs.Written.{calls_written}
use Rattle.span_replay.proofs.run.tidying.call_all.Given as goal

abbrev pub invariant-loop-id : goal.invariant-loop-id
invariant-loop-id g l = record {
  made : ArePartlyMade (g.W.Write.contents (inner_of l.initial.output)) (g.W.Write.contents (inner_of l.output))
      (calls_written (core_in l.initial.script) (map (request_of_call l.call l.worker) l.ids))
      (calls_written (core_in l.script) (map (request_of_call l.call l.worker) (drop l.id-index l.ids)));
  written : IsWritten l.script;
  labels : labels_in l.script ≡ labels_in l.initial.script;
  workers : l.script.workers ≡ l.initial.script.workers;
  failed : failed_of l.output ≡ failed_of l.initial.output;
  flushes : flushes_of l.output ≡ flushes_of l.initial.output;
}
