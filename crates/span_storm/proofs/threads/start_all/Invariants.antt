use Rattle.std.proofs.Common.{◌≡◌, ◌+◌, ◌≤◌, ◌++◌, map, length, vec_len}
use Rattle.std.specs.Prelude.{All, vec_capacity}
use Rattle.std.specs.Vec.Iter.{into_iter_items}
use Rattle.span_storm.proofs.threads.start_all.Given as goal

abbrev pub invariant-loop-worker : goal.invariant-loop-worker
invariant-loop-worker g l = record {
  same : map (λ party. party.worker) l.parties.items ++ into_iter_items l.worker-iterator ≡ l.fn.workers.items;
  rounds : All (λ party. party.rounds ≡ l.rounds) l.parties.items;
  gates : All (λ party. party.gate ≡ l.gate) l.parties.items;
  new : All (λ worker. worker.accepted ≡ 0) (into_iter_items l.worker-iterator);
  spare : All (λ worker. 3 ≤ worker.spare) (into_iter_items l.worker-iterator);
  room : vec_len l.parties + length (into_iter_items l.worker-iterator) ≤ vec_capacity l.parties;
}
