-- What a call does to the number of handles, and what a new span's id finds.
use Rattle.std.proofs.Common.{◌≡◌, ◌≢◌, ℕ, ◌+◌, true, false, List, Option, Some, sym, ap, ◌∙◌, inl, inr, arith}
use Rattle.std.proofs.lemmas.Bool.{cases_Bool, false≢true}
use Rattle.span_id.specs.Meta.{KeyValue, PlainMeta}
use Rattle.span_layers.specs.Filter.{Filter, admission_set}
use Rattle.span_forest.specs.declared.span.Holder.TheVariants.{Handle}
use Rattle.span_forest.specs.Node.{new_node}
use Rattle.span_forest.specs.Spans.{find}
use Rattle.span_forest.specs.Forest.{IsForest}
use Rattle.span_forest.specs.Count.{total_handles}
use Rattle.span_slots.proofs.Entries.{find-with_same, find-with_other}
use Rattle.span_forest.proofs.Spared.{not_some}
use Rattle.span_forest.proofs.Handles.{handles-with, handles-fields, handles-kept_handle, handles-kept_entry, handles-left_handle, handles-left_entry}
use Rattle.span_core.specs.World.{World}
use Rattle.span_outlet.specs.Request.{Request, new_span, clone_span, enter, exit, try_close, record_fields, event, Answer, made, cloned, entered, exited, released, recorded, told}
use Rattle.span_core.specs.Step.{Changes, stays_inside}
use Rattle.span_core.specs.Handles.{handles_given_out, handles_given_back}
use Rattle.span_core.proofs.Deciding.{held_from}
use Rattle.span_core.proofs.Steps.{answered}
use Rattle.span_core.proofs.Accepting.{held_open}
use Rattle.span_core.proofs.Legal.{IsSettled}

pub handles_step : (rules : List Filter) (ids : List ℕ) (old : World) (request : Request) (answer : Answer) (new : World) → Changes rules ids old request answer new → IsForest old.spans
    → total_handles new.spans + handles_given_back request ≡ total_handles old.spans + handles_given_out request
handles_step rules ids old (new_span worker meta fields parent) (made id) new h forest =
    let is = ap (λ (w : World). total_handles w.spans) h.after in
    let more = handles-with old.spans id (new_node meta fields parent (admission_set rules meta.target meta.level)) in
    omega (arith, is, more)
handles_step rules ids old (clone_span worker id) cloned new h forest =
    let is = ap (λ (w : World). total_handles w.spans) h.after in
    let there = held_open old.spans id Handle (held_from old.spans id h.known) in
    let more = handles-kept_handle old.spans id there.0 forest.ids_apart there.1 in
    omega (arith, is, more)
handles_step rules ids old (enter worker id) (entered true) new h forest =
    let is = ap (λ (w : World). total_handles w.spans) h.after in
    let same = handles-kept_entry old.spans id in
    omega (arith, is, same)
handles_step rules ids old (enter worker id) (entered false) new h forest =
    let is = ap (λ (w : World). total_handles w.spans) h.after in
    omega (arith, is)
handles_step rules ids old (exit worker id) (exited closed) new h forest =
    let is = ap (λ (w : World). total_handles w.spans) h.after in
    elim (cases_Bool (stays_inside old worker id)) [
      | inl t ↦ (let is' = rw t at is in omega (arith, is'))
      | inr t ↦ (let is' = rw t at is in let same = handles-left_entry old.spans id forest in omega (arith, is', same))
    ]
handles_step rules ids old (try_close worker id) (released closed) new h forest =
    let is = ap (λ (w : World). total_handles w.spans) h.after in
    let less = handles-left_handle old.spans id forest (held_from old.spans id h.known) in
    omega (arith, is, less)
handles_step rules ids old (record_fields worker id fields) recorded new h forest =
    let is = ap (λ (w : World). total_handles w.spans) h.after in
    let same = handles-fields fields old.spans id in
    omega (arith, is, same)
handles_step rules ids old (event worker meta message fields parent) told new h forest =
    let is = ap (λ (w : World). total_handles w.spans) h.after in
    omega (arith, is)
handles_step rules ids old _ _ new h forest = absurd (false≢true (answered h))

module _ (rules : List Filter) (ids closed : List ℕ) (old : World) (worker id : ℕ) (meta : PlainMeta) (fields : List KeyValue) (parent : Option ℕ) (new : World)
    (change : Changes rules ids old (new_span worker meta fields parent) (made id) new) where
  pub found_new : IsSettled rules ids closed old.spans → find new.spans id ≡ Some (new_node meta fields parent (admission_set rules meta.target meta.level))
  found_new w =
      ap (λ (v : World). find v.spans id) change.after
      ∙ find-with_same old.spans id (new_node meta fields parent (admission_set rules meta.target meta.level)) (not_some (find old.spans id) (λ there. false≢true (sym change.id_is_new.1 ∙ w.open_issued id there)))

  pub found_other : (other : ℕ) → other ≢ id → find new.spans other ≡ find old.spans other
  found_other other apart =
      ap (λ (v : World). find v.spans other) change.after
      ∙ find-with_other old.spans id other (new_node meta fields parent (admission_set rules meta.target meta.level)) apart
