use Rattle.std.proofs.Common.{rules, ◌≡◌, length}
use Rattle.std.specs.Prelude.{vec_len}
use Rattle.span_registry.specs.Worker.{WorkerView}
use Rattle.span_storm.specs.inside.Back.{PartyView}
use Rattle.span_storm.proofs.Gathering.{all_of_map, has_all, numbers_of, stopped_of}
use Rattle.span_storm.proofs.threads.run_workers.Goals as goal

pub join_all-requires-clause-each : goal.join_all-requires-clause-each
join_all-requires-clause-each g c =
    let started = c.in_ok-parties.ensures in
    λ k d lt. (started.rounds k d lt, all_of_map (λ (party : PartyView g.row.G.Denot). party.worker) c.in_ok-parties.parties.items _ started.same (λ (worker : WorkerView). worker.accepted ≡ 0) c.requires.new k d lt)

pub join_all-requires-clause-numbers : goal.join_all-requires-clause-numbers
join_all-requires-clause-numbers g c =
    let count : vec_len c.args.workers ≡ length c.args.workers.items = search rules in
    numbers_of _ _ c.in_ok-parties.parties.items c.in_ok-parties.ensures.same count c.requires.numbers

pub returns-clause-back : goal.returns-clause-back
returns-clause-back g c = has_all c.args.workers.items c.in_ok-parties.parties.items c.args.rounds c.in_ok-parties.ensures.same c.join_all.result c.join_all.ensures.back c.join_all.ensures.seen

pub returns-clause-stopped : goal.returns-clause-stopped
returns-clause-stopped g c =
    let count : vec_len c.args.workers ≡ length c.args.workers.items = search rules in
    stopped_of _ _ c.in_ok-parties.parties.items c.in_ok-parties.ensures.same count _ _ _ c.args.rounds c.join_all.result c.join_all.ensures.stopped
