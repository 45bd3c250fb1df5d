-- What holds whenever the lock is free: what a call has from it, and why it holds again after the call.
use Rattle.std.proofs.Common.{◌≡◌, ℕ, ◌+◌, ◌^◌, ◌<◌, true, false, Option, Some, None, List, [], ◌∷◌, ◌++◌, length, refl, sym, ap, ◌∙◌, subst, arith}
use Rattle.span_id.specs.declared.fault.Fault.{Fault}
use Rattle.span_id.specs.declared.limits.Limits.{Limits}
use Rattle.span_layers.specs.Filter.{Filter}
use Rattle.span_layers.specs.declared.form.Form.{Form}
use Rattle.span_forest.specs.declared.span.Holder.TheVariants.{Handle}
use Rattle.span_forest.specs.Node.{Node}
use Rattle.span_forest.specs.Spans.{find}
use Rattle.span_forest.specs.Count.{total_handles}
use Rattle.span_forest.specs.Holders.{held_in}
use Rattle.span_outlet.specs.Outlet.{RingName}
use Rattle.span_outlet.specs.Request.{Request, Answer, worker_of}
use Rattle.span_outlet.specs.Batch.{PlainBatch}
use Rattle.span_core.specs.History.{IsLegal}
use Rattle.span_core.specs.Handles.{handles_given_out, handles_given_back}
use Rattle.span_core.specs.Step.{is_wanted_call}
use Rattle.span_core.specs.Core.{CoreView, is_named, IsRefused, IsNotWanted}
use Rattle.span_core.proofs.Judging.{unwanted_named}
use Rattle.span_seats.specs.declared.view.RootView.{RootView}
use Rattle.span_seats.specs.RootView.{handle_count}
use Rattle.span_registry.specs.inside.Seated.{AreSeated}
use Rattle.span_registry.specs.inside.Called.{MayBeCounted, IsAsLong, IsOneLonger}
use Rattle.span_registry.specs.Locked.{HoldsWhenFree}

-- the book of handles moved as the handles of all spans did
same_total : (book total book_after total_after out back : ℕ) → book ≡ total → book_after + back ≡ book + out → total_after + back ≡ total + out → book_after ≡ total_after
same_total book total book_after total_after out back is moved more = omega arith

module _ {limits : Limits} {rules : List Filter} {forms : List Form} {ring : Option RingName} {handle_parts call_parts handles calls : ℕ} {history : List PlainBatch} {root : RootView} {core : CoreView} (free : HoldsWhenFree limits rules forms ring handle_parts call_parts handles calls history root core) where
  -- the root and the core agree
  pub free_seated : AreSeated root core
  free_seated = record {
    counted = λ id. counted id (find core.world.spans id) refl;
    sized = free.words;
    opened = free.word_of_open;
    vacant = free.free_slots_are_0;
  }
    where
      counted : (id : ℕ) (o : Option Node) → find core.world.spans id ≡ o → handle_count id root.handles ≡ held_in Handle (find core.world.spans id)
      counted id None is = free.no_other_numbers id is ∙ ap (held_in Handle) (sym is)
      counted id (Some node) is = free.numbers_of_open id node is ∙ ap (held_in Handle) (sym is)

  -- a worker's number is below the number of workers
  pub free_worker : {number : ℕ} → number < call_parts → number < core.limits.workers
  free_worker {number} below = subst (λ (parts : ℕ). number < parts) free.call_parts_are below

  -- there is room for one more call in the book
  pub free_room : {request : Request} {answer : Answer} {new : CoreView} → MayBeCounted core request answer new → calls + 1 < 2 ^ 64
  free_room counted = subst (λ (n : ℕ). n < 2 ^ 64) (counted.calls ∙ ap (λ n. n + 1) (sym free.calls_are)) counted.fits

  -- the history is legal under the rules and limits that the registry was made with
  pub free_legal : IsLegal rules limits.workers core.sent core.world
  free_legal =
      subst (λ (r : List Filter). IsLegal r limits.workers core.sent core.world) free.rules_are
      (subst (λ (l : Limits). IsLegal core.rules l.workers core.sent core.world) free.limits_are free.legal)

  -- the same core, with another root that agrees with it
  pub free_same : {after : RootView} → AreSeated after core → HoldsWhenFree limits rules forms ring handle_parts call_parts handles calls history after core
  free_same seated = record {
    limits_are = free.limits_are;
    rules_are = free.rules_are;
    forms_are = free.forms_are;
    ring_is = free.ring_is;
    legal = free.legal;
    history_is = free.history_is;
    calls_are = free.calls_are;
    handles_are = free.handles_are;
    numbers_of_open = λ id node is. seated.counted id ∙ ap (held_in Handle) is;
    no_other_numbers = λ id is. seated.counted id ∙ ap (held_in Handle) is;
    words = seated.sized;
    word_of_open = seated.opened;
    free_slots_are_0 = seated.vacant;
    handle_parts_fit = free.handle_parts_fit;
    call_parts_are = free.call_parts_are;
  }

  -- a call was refused
  pub free_refused : {request : Request} {fault : Fault} {after : RootView} {new : CoreView} {history_after : List PlainBatch} → IsRefused core request fault new → AreSeated after new → history_after ≡ new.sent
      → HoldsWhenFree limits rules forms ring handle_parts call_parts handles calls history_after after new
  free_refused refused seated told = record {
    limits_are = ap (λ (v : CoreView). v.limits) refused.unchanged ∙ free.limits_are;
    rules_are = ap (λ (v : CoreView). v.rules) refused.unchanged ∙ free.rules_are;
    forms_are = ap (λ (v : CoreView). v.forms) refused.unchanged ∙ free.forms_are;
    ring_is = ap (λ (v : CoreView). v.name) refused.unchanged ∙ free.ring_is;
    legal = subst (λ (v : CoreView). IsLegal v.rules v.limits.workers v.sent v.world) (sym refused.unchanged) free.legal;
    history_is = told;
    calls_are = free.calls_are ∙ ap (λ (v : CoreView). length v.sent) (sym refused.unchanged);
    handles_are = free.handles_are ∙ ap (λ (v : CoreView). total_handles v.world.spans) (sym refused.unchanged);
    numbers_of_open = λ id node is. seated.counted id ∙ ap (held_in Handle) is;
    no_other_numbers = λ id is. seated.counted id ∙ ap (held_in Handle) is;
    words = seated.sized;
    word_of_open = seated.opened;
    free_slots_are_0 = seated.vacant;
    handle_parts_fit = free.handle_parts_fit;
    call_parts_are = free.call_parts_are ∙ ap (λ (v : CoreView). v.limits.workers) (sym refused.unchanged);
  }

  -- a new span was not wanted
  pub free_not_wanted : {request : Request} {after : RootView} {new : CoreView} → IsNotWanted core request new → AreSeated after new
      → HoldsWhenFree limits rules forms ring handle_parts call_parts handles calls history after new
  free_not_wanted {request} {after} {new} none seated =
      subst (λ (v : CoreView). HoldsWhenFree limits rules forms ring handle_parts call_parts handles calls history after v) (sym none.same) (free_same (subst (λ (v : CoreView). AreSeated after v) none.same seated))

  -- its names are names, and no rule of the registry admits it
  pub free_unwanted : {request : Request} {new : CoreView} → IsNotWanted core request new → (is_named request ≡ true) × (is_wanted_call rules request ≡ false)
  free_unwanted {request} {new} none =
      let is = unwanted_named core request new none in
      (is.0, subst (λ (r : List Filter). is_wanted_call r request ≡ false) free.rules_are is.1)

  -- a call was accepted, and the books moved with it
  pub free_counted : {request : Request} {answer : Answer} {after : RootView} {new : CoreView} {handles_after calls_after : ℕ} {history_after : List PlainBatch} → MayBeCounted core request answer new → AreSeated after new
      → handles_after + handles_given_back request ≡ handles + handles_given_out request → calls_after ≡ calls + 1 → history_after ≡ new.sent
      → HoldsWhenFree limits rules forms ring handle_parts call_parts handles_after calls_after history_after after new
  free_counted {request = request} {handles_after = handles_after} counted seated moved more told = record {
    limits_are = counted.accepted.limits ∙ free.limits_are;
    rules_are = counted.accepted.rules ∙ free.rules_are;
    forms_are = counted.accepted.forms ∙ free.forms_are;
    ring_is = counted.accepted.name ∙ free.ring_is;
    legal = counted.legal;
    history_is = told;
    calls_are = more ∙ ap (λ n. n + 1) free.calls_are ∙ sym counted.calls;
    handles_are = same_total handles _ handles_after _ (handles_given_out request) (handles_given_back request) free.handles_are moved counted.handles;
    numbers_of_open = λ id node is. seated.counted id ∙ ap (held_in Handle) is;
    no_other_numbers = λ id is. seated.counted id ∙ ap (held_in Handle) is;
    words = seated.sized;
    word_of_open = seated.opened;
    free_slots_are_0 = seated.vacant;
    handle_parts_fit = free.handle_parts_fit;
    call_parts_are = free.call_parts_are ∙ ap (λ (l : Limits). l.workers) (sym counted.accepted.limits);
  }

  -- an accepted call makes the history longer
  pub free_longer : {request : Request} {answer : Answer} {new : CoreView} → MayBeCounted core request answer new → IsOneLonger limits rules (worker_of request) history new
  free_longer {request} {answer} counted = record {
    rules_are = counted.accepted.rules ∙ free.rules_are;
    limits_are = counted.accepted.limits ∙ free.limits_are;
    batch = record { request = request; answer = answer; notes = counted.accepted.notes };
    by = refl;
    sent = counted.accepted.sent ∙ ap (λ (h : List PlainBatch). h ++ record { request = request; answer = answer; notes = counted.accepted.notes } ∷ []) (sym free.history_is);
  }

  -- a refused call leaves the history as it is
  pub free_as_long : {request : Request} {fault : Fault} {new : CoreView} → IsRefused core request fault new → IsAsLong limits rules history new
  free_as_long refused = record {
    rules_are = ap (λ (v : CoreView). v.rules) refused.unchanged ∙ free.rules_are;
    limits_are = ap (λ (v : CoreView). v.limits) refused.unchanged ∙ free.limits_are;
    sent = ap (λ (v : CoreView). v.sent) refused.unchanged ∙ sym free.history_is;
  }
