use Rattle.std.proofs.Common.{rules, ◌≡◌, ◌≤◌, ◌++◌, ◌∷◌, [], ap, length, arith}
use Rattle.span_registry.specs.Worker.{WorkerView}
use Rattle.span_storm.specs.inside.Back.{PartyView}
use Rattle.span_storm.proofs.Gathering.{moved_map, all_grown, all_of_cons}
use Rattle.span_storm.proofs.threads.start_all.Given as given
use Rattle.span_storm.proofs.threads.start_all.Goals as goal
use Rattle.span_storm.proofs.threads.start_all.Goals.{After-push_reserved}

pushed : (g : given.Over) (c : After-push_reserved g) → c.push_reserved.new.self.items ≡ c.loop-worker.parties.items ++ c.start.result ∷ []
pushed g c = search rules

pub loop-worker-preserved : goal.loop-worker-preserved
loop-worker-preserved g c =
    let inv = c.loop-worker.invariant in
    let step = c.in-Some.ensures.steps in
    let started = c.start.ensures in
    record {
      same = moved_map (λ (party : PartyView g.row.G.Denot). party.worker) c.loop-worker.parties.items _ c.start.result _ _ _ _ (pushed g c) started.worker step.0 inv.same;
      new = (all_of_cons _ _ c.in-Some.worker step.0 (λ (worker : WorkerView). worker.accepted ≡ 0) inv.new).1;
      spare = (all_of_cons _ _ c.in-Some.worker step.0 (λ (worker : WorkerView). 3 ≤ worker.spare) inv.spare).1;
      gates = all_grown _ _ c.start.result (pushed g c) (λ (party : PartyView g.row.G.Denot). party.gate ≡ c.args.gate.now) inv.gates started.gate;
      rounds = all_grown _ _ c.start.result (pushed g c) (λ (party : PartyView g.row.G.Denot). party.rounds ≡ c.args.rounds) inv.rounds started.rounds;
      room = omega (arith, inv.room, c.push_reserved.ensures.len, c.push_reserved.ensures.capacity, ap length step.0);
    }
