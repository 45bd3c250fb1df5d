use Rattle.std.proofs.Common.{rules, ◌≡◌, ◌<◌, ◌≤◌, ◌∷◌, ◌∙◌, ap, sym, length}
use Rattle.std.specs.Vec.Iter.{into_iter_items}
use Rattle.span_storm.specs.inside.Back.{PartyView}
use Rattle.span_storm.proofs.Gathering.{all_of_cons, gathered_first, gathered_also, new_of, parts_fit, seen_also, seen_first, stopped_also, stopped_as_one}
use Rattle.span_storm.proofs.threads.join_all.Goals as goal

pub loop-party-init : goal.loop-party-init
loop-party-init g c =
    let is = sym c.into_iter-parties.ensures.rest ∙ c.in-Some.ensures.items ∙ ap (λ rest. c.in-Some.first ∷ into_iter_items rest) (sym c.into_iter-party-iterator.ensures.into_iter_gives) in
    let new = new_of c.args.rounds c.in-Some.first _ _ is c.requires.each in
    let n = length c.args.parties.items in
    let gates = all_of_cons _ _ c.in-Some.first is (λ (party : PartyView g.row.G.Denot). party.gate ≡ c.args.gate.now) c.requires.gates in
    let numbers = all_of_cons _ _ c.in-Some.first is (λ (party : PartyView g.row.G.Denot). party.worker.number < n) c.requires.numbers in
    record {
      new = new.1;
      gathers = gathered_first c.args.rounds c.in-Some.first _ _ is new.0.0 new.0.1 c.join-whole.result c.join-whole.ensures.back;
      seen = seen_first c.args.rounds c.in-Some.first _ _ is new.0.0 new.0.1 c.join-whole.result c.join-whole.ensures.back;
      numbers = numbers.1;
      gates = gates.1;
      stopped = stopped_as_one _ _ g.G.Gate.holds _ _ n _ c.args.rounds _ c.join-whole.result gates.0 numbers.0 new.0.0 c.join-whole.ensures.stopped;
    }

pub both-whole-requires : goal.both-whole-requires
both-whole-requires g c =
    let before = c.loop-party.invariant in
    let is = c.in-Some-party.ensures.steps.0 in
    let new = new_of c.args.rounds c.in-Some-party.party _ _ is before.new in
    let few : length c.args.parties.items ≤ 16 = search rules in
    parts_fit c.args.rounds c.in-Some-party.party _ _ is new.0.0 new.0.1 _ _ c.loop-party.whole c.join.result c.requires.rounds few before.gathers c.join.ensures.back

pub loop-party-preserved : goal.loop-party-preserved
loop-party-preserved g c =
    let before = c.loop-party.invariant in
    let is = c.in-Some-party.ensures.steps.0 in
    let new = new_of c.args.rounds c.in-Some-party.party _ _ is before.new in
    let n = length c.args.parties.items in
    let gates = all_of_cons _ _ c.in-Some-party.party is (λ (party : PartyView g.row.G.Denot). party.gate ≡ c.args.gate.now) before.gates in
    let numbers = all_of_cons _ _ c.in-Some-party.party is (λ (party : PartyView g.row.G.Denot). party.worker.number < n) before.numbers in
    record {
      new = new.1;
      gathers = gathered_also c.args.rounds c.in-Some-party.party _ _ is new.0.0 new.0.1 _ _ c.loop-party.whole c.join.result c.both-whole.result c.both-whole.ensures before.gathers c.join.ensures.back;
      seen = seen_also c.args.rounds c.in-Some-party.party _ _ is new.0.0 new.0.1 _ c.loop-party.whole c.join.result c.both-whole.result c.both-whole.ensures before.seen c.join.ensures.back;
      numbers = numbers.1;
      gates = gates.1;
      stopped = stopped_also _ c.loop-party.whole c.join.result c.both-whole.result c.both-whole.ensures before.stopped
          (stopped_as_one _ _ g.G.Gate.holds _ _ n _ c.args.rounds _ c.join.result gates.0 numbers.0 new.0.0 c.join.ensures.stopped);
    }
