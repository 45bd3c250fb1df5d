use Rattle.std.proofs.Common.{rules, ◌≡◌, ℕ, ◌<◌, ◌≤◌, ◌∙◌, List, true, length, ap, sym, subst, arith}
use Rattle.std.proofs.lemmas.Result.{err_from_is_err_and}
use Rattle.std.specs.Prelude.{Option, Some, IsSomeAnd, slice_index_or}
use Rattle.span_id.specs.declared.limits.Limits.{Limits}
use Rattle.span_layers.specs.declared.form.Form.{Form}
use Rattle.span_layers.specs.Filter.{Filter}
use Rattle.span_outlet.specs.Drain.{DrainView}
use Rattle.span_outlet.specs.Outlet.{RingName}
use Rattle.span_registry.specs.declared.report.Report.{Report}
use Rattle.span_registry.specs.Worker.{WorkerView, IsNew}
use Rattle.span_registry.specs.Share.{ShareView}
use Rattle.span_registry.specs.Report.{IsDrainedEnd, IsReportOf}
use Rattle.span_storm.specs.Storm.{IsStormEnd, IsStormFault, wants_jobs}
use Rattle.span_storm.specs.declared.fault.StormFault.{StormFault}
use Rattle.span_storm.specs.declared.fault.StormFault.TheVariants.{Memory, Refused, Held}
use Rattle.span_storm.specs.inside.Back.{AreReady, HasAll, IsStormStop}
use Rattle.span_storm.proofs.Gathering.{each_made}
use Rattle.span_storm.proofs.Leaving.{world_is_empty, nothing_left}
use Rattle.span_storm.proofs.run.run.Goals as goal

-- the ring has so many places
has_places : (name : Option RingName) (ring : RingName) (places : ℕ) → name ≡ Some ring → ring.places ≡ places → IsSomeAnd name (λ ring. ring.places ≡ places)
has_places name ring places is are = subst (λ (name : Option RingName). IsSomeAnd name (λ ring. ring.places ≡ places)) (sym is) are

-- what a drained end says where these workers made so many rounds
storm_end : (limits : Limits) (rounds : ℕ) (rules : List Filter) (forms : List Form) (drain : DrainView) (ring : RingName) (share : ShareView) (workers : List WorkerView) (report : Report)
    → drain.forms ≡ forms → drain.name ≡ ring → ring.places ≡ limits.ring → HasAll workers rounds share → ((i : ℕ) (d : WorkerView) → i < limits.workers → IsNew i (slice_index_or workers i d))
    → IsDrainedEnd limits rules drain share report → IsStormEnd limits rounds rules forms report
storm_end limits rounds rules forms drain ring share workers report same name places all new end =
    let ended = end.end.ended in
    let made = each_made share.seen workers _ _ _ ended.fronts all.numbers new all.own_are ended.seen_are in
    record {
      core = end.end.core;
      limits_are = ended.limits_are;
      rules_are = ended.rules_are;
      places = has_places _ ring _ (end.ring_is ∙ ap (λ (r : RingName). Some r) name) places;
      legal = ended.legal;
      within = ended.within;
      each = λ worker low. (made worker low).0;
      rounds_are = λ worker low. (made worker low).1;
      emptied = world_is_empty rules limits.workers rounds _ _ ended.legal (λ worker low. (made worker low).0) (λ worker low. (made worker low).1) (ended.emptied all.units);
      report_is = subst (λ f. IsReportOf end.end.core f report) same end.end.report_is;
    }

pub returns-clause-ended : goal.returns-clause-ended
returns-clause-ended g c =
    let back = c.in_ok-whole.ensures.back in
    storm_end _ _ _ _ _ _ _ _ _ back.drain.forms back.drain.name c.requires.places back.whole c.in-Ok.ensures.each c.finish.ensures.ended

pub returns-clause-numbers : goal.returns-clause-numbers
returns-clause-numbers g c =
    let none = nothing_left _ _ _ _ _ (returns-clause-ended g c) in
    record {
      calls = search rules;
      handles = search rules;
      entries = none.0;
      left = none.1;
      balance = omega (arith, c.finish.ensures.balance, none.1);
    }

-- the fault of a party that stopped
storm_fault : (limits : Limits) (rounds : ℕ) (rules : List Filter) (holds : ℕ → ℕ → Type 0) (fault : StormFault) → IsStormStop limits rules holds limits.workers rounds fault → IsStormFault limits rounds rules holds fault
storm_fault limits rounds rules holds Memory stop = tt
storm_fault limits rounds rules holds (Refused fault) stop = stop
storm_fault limits rounds rules holds (Held party) stop = stop

pub returns-in_err-whole-clause-faults : goal.returns-in_err-whole-clause-faults
returns-in_err-whole-clause-faults g c =
    let p = err_from_is_err_and c.from_residual.result c.from_residual.ensures.1 in
    rw (p.1, p.2) (let limits = g.S.Setup.limits in
    let rules = g.S.Setup.rules in
    let rounds = c.args.rounds in
    let holds = g.G.Gate.holds c.args.gate.now in
    storm_fault limits rounds rules holds c.in_err-whole.field-0.0 (subst (λ count. IsStormStop limits rules holds count rounds c.in_err-whole.field-0.0) c.in-Ok.ensures.count.0 c.in_err-whole.ensures.stopped))

-- so many new workers may begin
are_ready : (rules : List Filter) (workers : List WorkerView) (count limit rounds : ℕ) → length workers ≡ count → count ≡ limit → 0 < limit → limit ≤ 16 → rounds ≤ 400 → wants_jobs rules ≡ true
    → ((i : ℕ) (d : WorkerView) → i < limit → IsNew i (slice_index_or workers i d)) → AreReady rules count workers rounds
are_ready rules workers count limit rounds length_is count_is some few few_rounds wanted each = record {
  wanted = wanted;
  some = omega (arith, count_is, some);
  few = omega (arith, count_is, few);
  few_rounds = few_rounds;
  new = λ k d low. (each k d (omega (arith, low, length_is, count_is))).accepted_is;
  numbers = λ k d low. omega (arith, low, length_is, (each k d (omega (arith, low, length_is, count_is))).number_is);
  spare = λ k d low. omega (arith, (each k d (omega (arith, low, length_is, count_is))).spare_low);
}

pub in_threads-requires-after_bounds : goal.in_threads-requires-after_bounds
in_threads-requires-after_bounds g c κs within =
    let made = c.in-Ok.ensures in
    are_ready _ _ _ _ _ (sym c.in-Ok.workers.ok.0) made.count.0 (search rules) c.requires.workers c.requires.rounds c.requires.wanted made.each
