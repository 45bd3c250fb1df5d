-- Each call keeps the seats and the core agreed. `r` is the root's view before the call, `r₁`, `r₂` .. after its steps.
use Rattle.std.proofs.Common.{◌≡◌, ◌≢◌, ℕ, ◌+◌, ◌<◌, Bool, true, false, cond, List, length, Option, Some, refl, sym, ap, ◌∙◌, subst, true≢false}
use Rattle.std.specs.Prelude.{◌^◌, IsSomeAnd, Result, Ok, Err, IfOk, IfErr, MatchResult}
use Rattle.span_id.specs.Id.{slot_of, generation_of}
use Rattle.span_id.specs.Meta.{KeyValue, PlainMeta}
use Rattle.span_id.specs.declared.fault.Fault.{Fault}
use Rattle.span_id.specs.declared.fault.Fault.TheVariants.{Unknown}
use Rattle.span_forest.specs.declared.span.Holder.TheVariants.{Handle, Entry}
use Rattle.span_forest.specs.Node.{with_fields}
use Rattle.span_forest.specs.Spans.{Spans, find, IsOpen, with_change}
use Rattle.span_forest.specs.Holders.{held_in, with_more}
use Rattle.span_forest.specs.Keep.{with_holder}
use Rattle.span_forest.specs.Release.{closing_list, spans_left}
use Rattle.span_outlet.specs.declared.batch.ParentOf.{ParentOf}
use Rattle.span_outlet.specs.Request.{Request, Answer, clone_span, cloned, try_close, released, enter, entered, exit, exited, record_fields, recorded, event, told}
use Rattle.span_core.specs.World.{World}
use Rattle.span_core.specs.Step.{closed_by_exit, stays_inside, is_open, is_known}
use Rattle.span_core.specs.History.{IsLegal}
use Rattle.span_core.specs.Core.{CoreView, IsAccepted, IsRefused, WhyRefused}
use Rattle.span_core.proofs.Judging.{tells}
use Rattle.span_core.proofs.Legal.{whole}
use Rattle.span_core.proofs.Holds.{held-changed}
use Rattle.span_seats.specs.declared.view.HandleView.{HandleView}
use Rattle.span_seats.specs.declared.view.RootView.{RootView}
use Rattle.span_seats.specs.RootView.{handle_count, has_number, IsOpenIn, HasNoHandle, MayClose, stored, with_number, without_number, closed_words}
use Rattle.span_seats.specs.OpenSpans.{OpenSpans, IsSound, IsAdded, IsReleased, Agree}
use Rattle.span_seats.proofs.Agreed.{handle_counts, refused_agrees, cloned_agrees, released_counts, released_words, left_counts, may_close, closed_agrees, added_slot, added_free, added_opens, added_id, added_agrees}
use Rattle.span_registry.specs.inside.Seated.{spans_seen, AreSeated}
use Rattle.span_registry.specs.inside.Called.{MayBeCounted, IsRefusedWhereHeld}
use Rattle.span_registry.proofs.Totals.{counted_of}
use Rattle.span_registry.proofs.Bridge.{open-changed, cloned_of, sound_left, released_of, spans_exited, sound_exited, exited_of}

-- a seat was joined, and its span is open: a seat of that id may be split off, and once more
pub joined_opens : (r r₁ : RootView) (id number : ℕ) → r₁ ≡ without_number r id number → IsOpenIn r.words id → IsOpenIn r₁.words r₁.split_id
joined_opens r r₁ id number joined is = subst (λ (x : RootView). IsOpenIn x.words x.split_id) (sym joined) is

pub given_opens : (r₁ r₂ : RootView) → r₂ ≡ with_number r₁ → IsOpenIn r₁.words r₁.split_id → IsOpenIn r₂.words r₂.split_id
given_opens r₁ r₂ given is = subst (λ (x : RootView). IsOpenIn x.words x.split_id) (sym given) is

pub joined_id : (r r₁ : RootView) (id number : ℕ) → r₁ ≡ without_number r id number → r₁.split_id ≡ id
joined_id r r₁ id number joined = ap (λ (x : RootView). x.split_id) joined

pub given_id : (r₁ r₂ : RootView) → r₂ ≡ with_number r₁ → r₂.split_id ≡ r₁.split_id
given_id r₁ r₂ given = ap (λ (x : RootView). x.split_id) given

-- a call that leaves the core as it is but for how often the outlet lacked a place
seated_slots : (core new : CoreView) (r : RootView) → new.limits ≡ core.limits → Agree r core.limits.slots (spans_seen new.world.spans) → AreSeated r new
seated_slots core new r limits a = subst (λ k. Agree r k (spans_seen new.world.spans)) (ap (λ l. l.slots) (sym limits)) a

pub seated_refused : (core new : CoreView) (request : Request) (fault : Fault) (r : RootView) → IsRefused core request fault new → AreSeated r core → AreSeated r new
seated_refused core new request fault r refused a = subst (λ (v : CoreView). AreSeated r v) (sym refused.unchanged) a

-- what the call names is there, so it isn't refused as unknown
pub never_unknown : (core new : CoreView) (request : Request) (fault : Fault) → is_known core.world.spans request ≡ true → IsRefused core request fault new → fault ≢ Unknown
never_unknown core new request fault known refused e =
    true≢false (sym known ∙ tells core request Unknown (subst (λ (f : Fault). WhyRefused core request f) e refused.why))

-- a call on a handle whose span is there: it may be counted, or it was refused, and not as unknown
pub done_of : {T : Type 0} (r : Result T Fault) (core new : CoreView) (request : Request) (answer : T → Answer) → is_known core.world.spans request ≡ true
    → IsLegal core.rules core.limits.workers core.sent core.world → IsLegal new.rules new.limits.workers new.sent new.world → length new.sent < 2 ^ 64
    → IfOk r (λ x. IsAccepted core request (answer x) new) → IfErr r (λ fault. IsRefused core request fault new)
    → MatchResult r (λ x. MayBeCounted core request (answer x) new) (λ fault. IsRefusedWhereHeld core request fault new)
done_of (Ok x) core new request answer known before legal fits accepted refused = counted_of core new request (answer x) before legal fits accepted
done_of (Err fault) core new request answer known before legal fits accepted refused = record { refused = refused; never_unknown = never_unknown core new request fault known refused }

-- a call that keeps a root that agrees agreed, accepted or refused
pub seated_done : {T : Type 0} (r : Result T Fault) (core new : CoreView) (request : Request) (answer : T → Answer) (root : RootView)
    → ((x : T) → IsAccepted core request (answer x) new → AreSeated root core → AreSeated root new)
    → IfOk r (λ x. IsAccepted core request (answer x) new) → IfErr r (λ fault. IsRefused core request fault new) → AreSeated root core → AreSeated root new
seated_done (Ok x) core new request answer root kept accepted refused a = kept x accepted a
seated_done (Err fault) core new request answer root kept accepted refused a = seated_refused core new request fault root refused a

-- the seat that stood in a handle is of the handle's id
pub shown_is : {o : Option HandleView} {seat : HandleView} {id : ℕ} → o ≡ Some seat → IsSomeAnd o (λ s. s.id ≡ id) → seat.id ≡ id
shown_is {seat = seat} {id = id} is h = subst (λ (o : Option HandleView). IsSomeAnd o (λ s. s.id ≡ id)) is h

-- a call that changes no handle, and opens and closes no span
agree_same : (r : RootView) (slots : ℕ) (before after : OpenSpans) → ((x : ℕ) → after.is_open x ≡ before.is_open x) → ((x : ℕ) → after.handles x ≡ before.handles x) → Agree r slots before → Agree r slots after
agree_same r slots before after opens handles a = record {
  counted = λ x. a.counted x ∙ sym (handles x);
  sized = a.sized;
  opened = λ x is. a.opened x (sym (opens x) ∙ is);
  vacant = λ s none. a.vacant s (λ x is e. none x (opens x ∙ is) e);
}

pub seated_entered : (core new : CoreView) (worker id : ℕ) (first : Bool) (r : RootView) → IsAccepted core (enter worker id) (entered first) new → AreSeated r core → AreSeated r new
seated_entered core new worker id first r accepted a =
    let after : new.world.spans ≡ cond first (with_holder core.world.spans id Entry) core.world.spans = ap (λ (v : World). v.spans) accepted.step.changes.after in
    seated_slots core new r accepted.limits
    (agree_same r core.limits.slots _ _ (λ x. ap (λ (s : Spans). is_open s x) after ∙ by_open first x) (λ x. ap (λ (s : Spans). held_in Handle (find s x)) after ∙ by_handles first x) a)
  where
    by_open : (first : Bool) (x : ℕ) → is_open (cond first (with_holder core.world.spans id Entry) core.world.spans) x ≡ is_open core.world.spans x
    by_open true x = open-changed (with_more Entry) core.world.spans id x
    by_open false x = refl

    by_handles : (first : Bool) (x : ℕ) → held_in Handle (find (cond first (with_holder core.world.spans id Entry) core.world.spans) x) ≡ held_in Handle (find core.world.spans x)
    by_handles true x = held-changed Handle (with_more Entry) (λ node. refl) core.world.spans id x
    by_handles false x = refl

pub seated_recorded : (core new : CoreView) (worker id : ℕ) (fields : List KeyValue) (r : RootView) → IsAccepted core (record_fields worker id fields) recorded new → AreSeated r core → AreSeated r new
seated_recorded core new worker id fields r accepted a =
    let after : new.world.spans ≡ with_change (with_fields fields) core.world.spans id = ap (λ (v : World). v.spans) accepted.step.changes.after in
    seated_slots core new r accepted.limits
    (agree_same r core.limits.slots _ _ (λ x. ap (λ (s : Spans). is_open s x) after ∙ open-changed (with_fields fields) core.world.spans id x) (λ x. ap (λ (s : Spans). held_in Handle (find s x)) after ∙ held-changed Handle (with_fields fields) (λ node. refl) core.world.spans id x) a)

pub seated_told : (core new : CoreView) (worker : ℕ) (meta : PlainMeta) (message : List ℕ) (fields : List KeyValue) (parent : ParentOf) (r : RootView) → IsAccepted core (event worker meta message fields parent) told new → AreSeated r core → AreSeated r new
seated_told core new worker meta message fields parent r accepted a =
    seated_slots core new r accepted.limits (subst (λ (v : World). Agree r core.limits.slots (spans_seen v.spans)) (sym accepted.step.changes.after) a)

-- what the root is after it was shown a closing list
pub shown_handles : (lent left r r₁ : RootView) → lent ≡ r → left ≡ r₁ → left.handles ≡ lent.handles → r₁.handles ≡ r.handles
shown_handles lent left r r₁ lent_is left_is same = ap (λ (x : RootView). x.handles) (sym left_is) ∙ same ∙ ap (λ (x : RootView). x.handles) lent_is

pub shown_words : (lent left r r₁ : RootView) (list ids : List ℕ) → lent ≡ r → left ≡ r₁ → list ≡ ids → left.words ≡ closed_words lent.words list → r₁.words ≡ closed_words r.words ids
shown_words lent left r r₁ list ids lent_is left_is list_is closed =
    ap (λ (x : RootView). x.words) (sym left_is) ∙ closed ∙ (λ j. closed_words (lent_is j).words (list_is j))

-- a call on a handle: the join has shown its number
module _ (core : CoreView) (r r₁ : RootView) (h : HandleView) (id : ℕ) (a : AreSeated r core) (shown : has_number h.id h.number r.handles ≡ true) (is : h.id ≡ id) (joined : r₁ ≡ without_number r h.id h.number) where
  pub span_is_held : 0 < held_in Handle (find core.world.spans id)
  span_is_held = handle_counts (spans_seen core.world.spans) core.limits.slots r r₁ h id a shown is joined

  -- the handle gets a seat back
  pub seated_back : (r₂ : RootView) → r₂ ≡ with_number r₁ → AreSeated r₂ core
  seated_back r₂ back = refused_agrees (spans_seen core.world.spans) core.limits.slots r r₁ h id a shown is joined r₂ back

  -- and the new handle another
  pub seated_cloned : (new : CoreView) (worker : ℕ) (r₂ r₃ : RootView) → r₂ ≡ with_number r₁ → r₃ ≡ with_number r₂ → IsAccepted core (clone_span worker id) cloned new → AreSeated r₃ new
  seated_cloned new worker r₂ r₃ back given accepted =
      seated_slots core new r₃ accepted.limits (cloned_agrees (spans_seen core.world.spans) core.limits.slots r r₁ h id a shown is joined (spans_seen new.world.spans) r₂ r₃ back given (cloned_of core new worker id accepted))

  -- a handle given back
  module _ (legal : IsLegal core.rules core.limits.workers core.sent core.world) (before : IsSound (spans_seen core.world.spans)) where
    abbrev left : Spans
    left = spans_left core.world.spans id Handle

    gone : IsReleased true id (closing_list core.world.spans id Handle) (spans_seen core.world.spans) (spans_seen left)
    gone = released_of core.world.spans id (whole _ _ _ _ legal).settled.upheld span_is_held

    after : IsSound (spans_seen left)
    after = sound_left core.world.spans id Handle before

    counted : (x : ℕ) → handle_count x r₁.handles ≡ held_in Handle (find left x)
    counted = released_counts (spans_seen core.world.spans) core.limits.slots r r₁ h id a shown is joined (spans_seen left) (closing_list core.world.spans id Handle) gone

    same_words : r₁.words ≡ r.words
    same_words = released_words (spans_seen core.world.spans) core.limits.slots r r₁ h id a shown is joined

    pub released_may_close : MayClose r₁ (closing_list core.world.spans id Handle)
    released_may_close = may_close true id _ _ _ before after gone core.limits.slots r r₁ a counted same_words

    pub seated_released : (new : CoreView) (worker : ℕ) → IsAccepted core (try_close worker id) (released (closing_list core.world.spans id Handle)) new
        → (r₂ : RootView) → r₂.handles ≡ r₁.handles → r₂.words ≡ closed_words r₁.words (closing_list core.world.spans id Handle) → AreSeated r₂ new
    seated_released new worker accepted r₂ handles words =
        let spans_are : new.world.spans ≡ left = ap (λ (v : World). v.spans) accepted.step.changes.after in
        seated_slots core new r₂ accepted.limits
        (subst (λ (s : Spans). Agree r₂ core.limits.slots (spans_seen s)) (sym spans_are) (closed_agrees true id _ _ _ before after gone core.limits.slots r r₁ a counted same_words r₂ handles words))

-- an exit, which takes no handle
module _ (core : CoreView) (worker id : ℕ) (legal : IsLegal core.rules core.limits.workers core.sent core.world) (before : IsSound (spans_seen core.world.spans)) (there : IsOpen core.world.spans id) (r : RootView) (a : AreSeated r core) where
  abbrev left_open : Spans
  left_open = spans_exited core.world.spans id (stays_inside core.world worker id)

  gone_exited : IsReleased false id (closed_by_exit core.world worker id) (spans_seen core.world.spans) (spans_seen left_open)
  gone_exited = exited_of core.world.spans id (whole _ _ _ _ legal).settled.upheld there (stays_inside core.world worker id)

  after_exited : IsSound (spans_seen left_open)
  after_exited = sound_exited core.world.spans id (stays_inside core.world worker id) before

  still_counted : (x : ℕ) → handle_count x r.handles ≡ held_in Handle (find left_open x)
  still_counted = left_counts (spans_seen core.world.spans) (spans_seen left_open) core.limits.slots r id (closed_by_exit core.world worker id) a gone_exited

  pub exited_may_close : MayClose r (closed_by_exit core.world worker id)
  exited_may_close = may_close false id _ _ _ before after_exited gone_exited core.limits.slots r r a still_counted refl

  pub seated_exited : (new : CoreView) → IsAccepted core (exit worker id) (exited (closed_by_exit core.world worker id)) new
      → (r₂ : RootView) → r₂.handles ≡ r.handles → r₂.words ≡ closed_words r.words (closed_by_exit core.world worker id) → AreSeated r₂ new
  seated_exited new accepted r₂ handles words =
      let spans_are : new.world.spans ≡ left_open = ap (λ (v : World). v.spans) accepted.step.changes.after in
      seated_slots core new r₂ accepted.limits
      (subst (λ (s : Spans). Agree r₂ core.limits.slots (spans_seen s)) (sym spans_are) (closed_agrees false id _ _ _ before after_exited gone_exited core.limits.slots r r a still_counted refl r₂ handles words))

-- a new span: its slot's word is stored, and its handle gets a seat
module _ (core new : CoreView) (id : ℕ) (before : IsSound (spans_seen core.world.spans)) (added : IsAdded id core.limits.slots (spans_seen core.world.spans) (spans_seen new.world.spans)) (r : RootView) (a : AreSeated r core) where
  pub new_slot : slot_of id < length r.words
  new_slot = added_slot id core.limits.slots _ _ before added r a

  pub new_free : HasNoHandle r.handles (slot_of id)
  new_free = added_free id core.limits.slots _ _ before added r a

  pub new_opens : (r₁ : RootView) → r₁ ≡ stored r (slot_of id) (generation_of id + 1) → IsOpenIn r₁.words r₁.split_id
  new_opens r₁ stored_is = added_opens id core.limits.slots _ _ before added r a r₁ stored_is

  pub new_id : (r₁ : RootView) → r₁ ≡ stored r (slot_of id) (generation_of id + 1) → r₁.split_id ≡ id
  new_id r₁ stored_is = added_id id core.limits.slots _ _ before added r a r₁ stored_is

  pub seated_new : (r₁ r₂ : RootView) → r₁ ≡ stored r (slot_of id) (generation_of id + 1) → r₂ ≡ with_number r₁ → new.limits ≡ core.limits → AreSeated r₂ new
  seated_new r₁ r₂ stored_is given limits = seated_slots core new r₂ limits (added_agrees id core.limits.slots _ _ before added r a r₁ r₂ stored_is given)
