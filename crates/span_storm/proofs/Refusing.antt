-- A call of a round that was refused.
use Rattle.std.proofs.Common.{◌≡◌, ℕ, ◌%◌, ◌&&◌, true, List, [], ◌∷◌, ◌++◌, length, refl, sym, ap, ◌∙◌, subst, arith}
use Rattle.std.specs.Prelude.{Option}
use Rattle.std.proofs.lemmas.Bool.{false≢true}
use Rattle.span_id.specs.declared.fault.Fault.{Fault}
use Rattle.span_id.specs.declared.fault.Fault.TheVariants.{Unknown, CountFull, Full, NotEntered, TooManyLayers, BadName, Backlog, BadLimits, Memory}
use Rattle.span_id.specs.declared.limits.Limits.{Limits}
use Rattle.span_id.specs.Meta.{PlainMeta}
use Rattle.span_id.specs.Name.{is_name}
use Rattle.span_layers.specs.Filter.{Filter}
use Rattle.span_outlet.specs.Request.{Request, new_span, clone_span, enter, exit, try_close, record_fields, event, Answer, worker_of}
use Rattle.span_outlet.specs.Batch.{PlainBatch}
use Rattle.span_core.specs.Core.{CoreView, IsAccepted, IsRefused, WhyRefused, are_keys, is_named}
use Rattle.span_core.proofs.Judging.{tells}
use Rattle.span_history.specs.Own.{own}
use Rattle.span_history.proofs.Owning.{one_more_own}
use Rattle.span_registry.specs.Worker.{WorkerView}
use Rattle.span_registry.specs.Report.{IsWithin}
use Rattle.span_registry.specs.Happened.{Happened}
use Rattle.span_storm.specs.Storm.{AreOfRounds, IsCallOfRound, IsSpanOfRound, MayCome, WasRefused}
use Rattle.span_storm.specs.Storm.AreOfRounds.{none, more}
use Rattle.span_storm.specs.inside.Back.{HasRounds, IsAt}
use Rattle.span_storm.specs.Storm.IsSpanOfRound.{job, step}

named_span : (place : ℕ) (meta : PlainMeta) (parent : Option ℕ) → IsSpanOfRound place meta parent → is_name meta.name ≡ true
named_span place meta parent (job first is root) = ap (λ (m : PlainMeta). is_name m.name) is
named_span place meta parent (step fifth is) = ap (λ (m : PlainMeta). is_name m.name) is

-- each name in a round is one
named : (worker place : ℕ) (request : Request) → IsCallOfRound worker place request → is_named request ≡ true
named worker place (new_span caller meta fields parent) call = ap (λ b. b && are_keys fields) (named_span place meta parent call.2) ∙ ap are_keys call.1
named worker place (clone_span caller id) call = refl
named worker place (enter caller id) call = refl
named worker place (exit caller id) call = refl
named worker place (try_close caller id) call = refl
named worker place (record_fields caller id fields) call = absurd call
named worker place (event caller meta message fields parent) call = ap (λ (m : PlainMeta). is_name m.name && are_keys fields) call.2 ∙ ap are_keys call.4

pub may_come : (core : CoreView) (worker place : ℕ) (request : Request) (fault : Fault) → IsCallOfRound worker place request → WhyRefused core request fault → MayCome fault
may_come core worker place request BadName call why = absurd (false≢true (sym (tells core request BadName why) ∙ named worker place request call))
may_come core worker place request TooManyLayers call why = tells core request TooManyLayers why
may_come core worker place request BadLimits call why = tells core request BadLimits why
may_come core worker place request Unknown call why = tt
may_come core worker place request CountFull call why = tt
may_come core worker place request Full call why = tt
may_come core worker place request NotEntered call why = tt
may_come core worker place request Backlog call why = tt
may_come core worker place request Memory call why = tt

caller : (worker place : ℕ) (request : Request) → IsCallOfRound worker place request → worker_of request ≡ worker
caller worker place (new_span who meta fields parent) call = call.0
caller worker place (clone_span who id) call = call.0
caller worker place (enter who id) call = call.0
caller worker place (exit who id) call = call.0
caller worker place (try_close who id) call = call.0
caller worker place (record_fields who id fields) call = absurd call
caller worker place (event who meta message fields parent) call = call.0

-- one more call was sent, which is the worker's at this place of a round
pub record IsSent (worker place : ℕ) (old new : CoreView) : Type 0 where
  batch : PlainBatch
  sent : new.sent ≡ old.sent ++ batch ∷ []
  call : IsCallOfRound worker place batch.request

pub is_sent : (worker place : ℕ) (old new : CoreView) (request : Request) (answer : Answer) → IsCallOfRound worker place request → IsAccepted old request answer new → IsSent worker place old new
is_sent worker place old new request answer call is = record { batch = record { request = request; answer = answer; notes = is.notes }; sent = is.sent; call = call }

-- a worker without calls
pub none_made : (worker : WorkerView) → length (own worker.number worker.seen) ≡ 0 → HasRounds worker
none_made worker long = empty worker.number (own worker.number worker.seen) long where
  empty : (number : ℕ) (calls : List PlainBatch) → length calls ≡ 0 → AreOfRounds number calls
  empty number [] long = none
  empty number (batch ∷ calls) long = absurd (search (arith, long))

module _ (limits : Limits) (rules : List Filter) (before after : WorkerView) (step : CoreView → CoreView → Type 0)
    (long : length (own before.number before.seen) ≡ before.accepted) (rounds : HasRounds before) (happened : Happened limits rules before after step) where
  long_then : length (own before.number happened.old.sent) ≡ before.accepted
  long_then = sym (ap length happened.seen_before.own_are) ∙ long

  rounds_then : AreOfRounds before.number (own before.number happened.old.sent)
  rounds_then = subst (AreOfRounds before.number) happened.seen_before.own_are rounds

  -- the worker's call was accepted, and is the next one of its rounds
  pub one_more_made : after.number ≡ before.number → ((old new : CoreView) → step old new → IsSent before.number (before.accepted % 9) old new) → HasRounds after
  one_more_made number sends =
      let sent = sends happened.old happened.new happened.step_is in
      let call = subst (λ n. IsCallOfRound before.number (n % 9) sent.batch.request) (sym long_then) sent.call in
      let own_after = ap (own before.number) (happened.seen_after ∙ sent.sent) ∙ one_more_own before.number happened.old.sent sent.batch (caller before.number (before.accepted % 9) sent.batch.request sent.call) in
      subst (λ n. AreOfRounds n (own n after.seen)) (sym number) (more sent.batch rounds_then call own_after)

-- a core that differs by how often the outlet lacked a place kept the same limits
within_before : (limits : Limits) (old new : CoreView) (times : ℕ) → new ≡ record old { times_full = times } → IsWithin limits new → IsWithin limits old
within_before limits old new times same within = let kept = subst (IsWithin limits) same within in record { counts = kept.counts; slots = kept.slots; calls = kept.calls }

-- the worker's call was refused, whatever the request is where it happened
pub refused_call : (limits : Limits) (rules : List Filter) (before after : WorkerView) (request : CoreView → Request) (fault : Fault)
    → length (own before.number before.seen) ≡ before.accepted → HasRounds before → after ≡ record before { seen = after.seen }
    → ((core : CoreView) → IsCallOfRound before.number (before.accepted % 9) (request core))
    → Happened limits rules before after (λ old new. IsRefused old (request old) fault new) → WasRefused limits rules (IsAt after) fault
refused_call limits rules before after request fault long rounds same call happened =
    let long_then = sym (ap length happened.seen_before.own_are) ∙ long in
    record {
      may_come = may_come happened.old before.number (before.accepted % 9) (request happened.old) fault (call happened.old) happened.step_is.why;
      worker = before.number;
      core = happened.old;
      limits_are = happened.limits_are;
      rules_are = happened.rules_are;
      legal = happened.legal;
      within = within_before limits happened.old happened.new _ happened.step_is.unchanged happened.within_after;
      own_are = subst (AreOfRounds before.number) happened.seen_before.own_are rounds;
      worker_is = (sym (ap (λ (w : WorkerView). w.number) same), long_then ∙ sym (ap (λ (w : WorkerView). w.accepted) same));
      request = request happened.old;
      call = subst (λ n. IsCallOfRound before.number (n % 9) (request happened.old)) (sym long_then) (call happened.old);
      why = happened.step_is.why;
    }
