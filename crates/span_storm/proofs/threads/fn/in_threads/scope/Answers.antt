use Rattle.std.proofs.Common.{rules}
use Rattle.span_storm.proofs.Gathering.{both_are_back, drain_back, drain_stopped, stopped_of_both}
use Rattle.span_storm.proofs.threads.fn.in_threads.scope.Goals as goal

pub returns : goal.returns
returns g c = record {
  back = both_are_back _ _ _ c.both_back.ensures _ _ _ c.run_workers-whole.ensures.back
      (drain_back g.G.Gate.holds _ _ _ _ _ c.start_drain-draining.ensures c.join-drain.ensures.back);
  stopped = stopped_of_both _ _ _ c.both_back.ensures _ _ _ _ _ _ c.run_workers-whole.ensures.stopped
      (drain_stopped g.G.Gate.holds _ _ _ _ _ c.start_drain-draining.ensures c.join-drain.ensures.stopped) (search rules);
}
