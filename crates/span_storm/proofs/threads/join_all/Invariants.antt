use Rattle.std.proofs.Common.{◌≡◌, ◌*◌, ◌<◌, length, map}
use Rattle.std.specs.Prelude.{All, IfErr, sum_by}
use Rattle.std.specs.Vec.Iter.{into_iter_items}
use Rattle.span_storm.specs.Storm.{IsOneOf}
use Rattle.span_storm.specs.inside.Back.{Gathers, GathersSeen, IsWorkersStop}
use Rattle.span_storm.proofs.Gathering.{AreNew, number_of, spare_of}
use Rattle.span_storm.proofs.threads.join_all.Given as goal

abbrev pub invariant-loop-party : goal.invariant-loop-party
invariant-loop-party g l = record {
  new : AreNew l.rounds (into_iter_items l.party-iterator);
  gathers : Gathers l.whole (length l.fn.parties.items) (length (into_iter_items l.party-iterator)) (9 * l.rounds)
      (sum_by spare_of l.fn.parties.items) (sum_by spare_of (into_iter_items l.party-iterator));
  seen : GathersSeen l.whole (9 * l.rounds) (map number_of (into_iter_items l.party-iterator)) (map number_of l.fn.parties.items);
  numbers : All (λ party. party.worker.number < length l.fn.parties.items) (into_iter_items l.party-iterator);
  gates : All (λ party. party.gate ≡ l.gate) (into_iter_items l.party-iterator);
  stopped : IfErr l.whole (IsWorkersStop g.S.Setup.limits g.S.Setup.rules (g.G.Gate.holds l.gate) (IsOneOf (length l.fn.parties.items) l.rounds));
}
