-- What a legal history keeps of the stacks: each worker has one, and the entries of a span are the workers inside it.
use Rattle.std.proofs.Common.{◌≡◌, ℕ, ◌<◌, cond, List, [], ◌∷◌, ◌++◌, length, get_or, set, refl, sym, ap, ◌∙◌, subst}
use Rattle.std.proofs.lemmas.Bool.{false≢true}
use Rattle.std.proofs.lemmas.List.{length-set, length-replicate}
use Rattle.span_id.specs.Ids.{has}
use Rattle.span_layers.specs.Filter.{Filter}
use Rattle.span_forest.specs.declared.span.Holder.TheVariants.{Handle, Entry}
use Rattle.span_forest.specs.Node.{with_fields}
use Rattle.span_forest.specs.Spans.{find}
use Rattle.span_forest.specs.Keep.{with_holder}
use Rattle.span_forest.proofs.Spared.{not_some}
use Rattle.span_core.specs.World.{World, IsWorld}
use Rattle.span_outlet.specs.Request.{Request, new_span, clone_span, enter, exit, try_close, record_fields, event, Answer, made, cloned, entered, exited, released, recorded, told, worker_of}
use Rattle.span_outlet.specs.Batch.{PlainBatch}
use Rattle.span_core.specs.Step.{Changes, stays_inside}
use Rattle.span_core.specs.History.{issued, IsLegal}
use Rattle.span_core.specs.History.IsLegal.{none, more}
use Rattle.span_core.specs.ClosedSpans.{closed_in}
use Rattle.span_core.proofs.Deciding.{held_from}
use Rattle.span_core.proofs.Steps.{answered, first_is}
use Rattle.span_core.proofs.Worlds.{nobody_inside, world_kept_handle, world_changed, world_released_handle, world_entered}
use Rattle.span_core.proofs.NewSpans.{world_new}
use Rattle.span_core.proofs.Accepting.{held_open, world_after_exit}
use Rattle.span_core.proofs.Legal.{IsSettled, whole}

-- no call changes how many stacks there are
stacks_stay : (rules : List Filter) (ids : List ℕ) (old : World) (request : Request) (answer : Answer) (new : World) → Changes rules ids old request answer new → length new.stacks ≡ length old.stacks
stacks_stay rules ids old (new_span worker meta fields parent) (made id) new h = ap (λ (w : World). length w.stacks) h.after
stacks_stay rules ids old (clone_span worker id) cloned new h = ap (λ (w : World). length w.stacks) h.after
stacks_stay rules ids old (enter worker id) (entered first) new h = ap (λ (w : World). length w.stacks) h.after ∙ length-set old.stacks worker _
stacks_stay rules ids old (exit worker id) (exited closed) new h = ap (λ (w : World). length w.stacks) h.after ∙ length-set old.stacks worker _
stacks_stay rules ids old (try_close worker id) (released closed) new h = ap (λ (w : World). length w.stacks) h.after
stacks_stay rules ids old (record_fields worker id fields) recorded new h = ap (λ (w : World). length w.stacks) h.after
stacks_stay rules ids old (event worker meta message fields parent) told new h = ap (λ (w : World). length w.stacks) h.after
stacks_stay rules ids old _ _ new h = absurd (false≢true (answered h))

-- each worker has a stack
pub stacks_are : (rules : List Filter) (workers : ℕ) (history : List PlainBatch) (world : World) → IsLegal rules workers history world → length world.stacks ≡ workers
stacks_are rules workers [] world none = length-replicate {A = List ℕ} workers []
stacks_are rules workers history new (more {before} {old} batch legal step sent) =
    stacks_stay rules (issued before) old batch.request batch.answer new step.changes ∙ stacks_are rules workers before old legal

-- a call by one of the workers keeps the entries the workers inside
world_step : (rules : List Filter) (ids closed : List ℕ) (old : World) (request : Request) (answer : Answer) (new : World) → worker_of request < length old.stacks → Changes rules ids old request answer new → IsSettled rules ids closed old.spans
    → IsWorld old → IsWorld new
world_step rules ids closed old (new_span worker meta fields parent) (made id) new within h w before =
    let gone = not_some (find old.spans id) (λ o. false≢true (sym h.id_is_new.1 ∙ w.open_issued id o)) in
    subst (λ (v : World). IsWorld v) (sym h.after) (world_new old.spans id _ old.stacks gone refl before)
world_step rules ids closed old (clone_span worker id) cloned new within h w before =
    subst (λ (v : World). IsWorld v) (sym h.after) (world_kept_handle old.spans id old.stacks before)
world_step rules ids closed old (enter worker id) (entered first) new within h w before =
    let there = held_open old.spans id Handle (held_from old.spans id h.known) in
    let stack = get_or old.stacks worker [] in
    subst (λ (v : World). IsWorld v) (sym h.after)
    (subst (λ b. IsWorld (record { spans = cond b (with_holder old.spans id Entry) old.spans; stacks = set old.stacks worker (stack ++ id ∷ []) })) (sym (first_is h))
    (world_entered old.spans old.stacks worker id stack (has stack id) there.0 within refl refl there.1 before))
world_step rules ids closed old (exit worker id) (exited gone) new within h w before =
    subst (λ (v : World). IsWorld v) (sym h.after) (world_after_exit old.spans old.stacks worker id (stays_inside old worker id) within h.inside refl before)
world_step rules ids closed old (try_close worker id) (released gone) new within h w before =
    subst (λ (v : World). IsWorld v) (sym h.after) (world_released_handle old.spans id old.stacks before)
world_step rules ids closed old (record_fields worker id fields) recorded new within h w before =
    subst (λ (v : World). IsWorld v) (sym h.after) (world_changed (with_fields fields) (λ node. refl) old.spans id old.stacks before)
world_step rules ids closed old (event worker meta message fields parent) told new within h w before = subst (λ (v : World). IsWorld v) (sym h.after) before
world_step rules ids closed old _ _ new within h w before = absurd (false≢true (answered h))

-- the entries of each span are the workers inside it, each counted once
pub legal_world : (rules : List Filter) (workers : ℕ) (history : List PlainBatch) (world : World) → IsLegal rules workers history world → IsWorld world
legal_world rules workers [] world none = record { entered = λ id. sym (nobody_inside workers id) }
legal_world rules workers history new (more {before} {old} batch legal step sent) =
    world_step rules (issued before) (closed_in before) old batch.request batch.answer new step.within step.changes (whole rules workers before old legal).settled (legal_world rules workers before old legal)
