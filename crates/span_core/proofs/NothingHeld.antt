-- What a call that gives a holder back does, from the step that it is.
use Rattle.std.proofs.Common.{◌≡◌, ℕ, ◌<◌, true, List, refl, sym, ap, ◌∙◌, inl, inr, arith}
use Rattle.std.specs.Prelude.{count_by, ◌&&◌, if◌then◌else◌}
use Rattle.std.proofs.lemmas.Bool.{cases_lt, false≢true}
use Rattle.span_id.specs.Ids.{has}
use Rattle.span_layers.specs.Filter.{Filter}
use Rattle.span_forest.specs.Spans.{find, IsOpen}
use Rattle.span_forest.specs.Count.{holders_in}
use Rattle.span_forest.specs.Forest.{IsForest}
use Rattle.span_forest.specs.Holders.{with_less}
use Rattle.span_forest.proofs.Ranks.{ranked}
use Rattle.span_forest.proofs.Nodes.{with_less-parent, IsForest-changed}
use Rattle.span_forest.proofs.Finds.{child_exists}
use Rattle.span_forest.proofs.Spared.{none_open, not_some, held_live}
use Rattle.span_outlet.specs.Request.{Request, Answer}
use Rattle.span_outlet.specs.Batch.{PlainBatch}
use Rattle.span_core.specs.World.{World, IsWorld}
use Rattle.span_core.specs.Step.{Changes}
use Rattle.span_core.specs.History.{IsLegal}
use Rattle.span_core.specs.History.IsLegal.{more}
use Rattle.span_core.specs.Core.{CoreView, IsAccepted}
use Rattle.span_core.specs.ClosedSpans.{closed_by, spans_before_closing, gives_back, tells_close, hears_close}
use Rattle.span_core.specs.GivenBack.{ClosesWhatNothingHolds}
use Rattle.span_core.proofs.Effects.{effect}
use Rattle.span_core.proofs.Effects.Effect.{stays, changes, makes, frees}
use Rattle.span_core.proofs.Legal.{IsSettled, whole}
use Rattle.span_core.proofs.Released.{closes_exactly, closes_dead, closes_no_other, closes_once, closes_child_first}

-- the spans are a forest once the holder was given back
left_forest : (rules : List Filter) (ids closed : List ℕ) (old : World) (request : Request) (answer : Answer) (new : World) → Changes rules ids old request answer new → IsSettled rules ids closed old.spans
    → IsForest (spans_before_closing old request)
left_forest rules ids closed old request answer new change w =
    elim (effect rules ids old request answer new change) [
      | stays same quiet ↦ rw quiet.left w.upheld.forest
      | changes f at mild other same quiet ↦ rw quiet.left w.upheld.forest
      | makes m ↦ rw m.left w.upheld.forest
      | frees m ↦ rw m.left (IsForest-changed (with_less m.holder) (with_less-parent m.holder) old.spans m.id w.upheld.forest)
    ]

zero_or : (n : ℕ) → (0 < n → ⊥) → n ≡ 0
zero_or n h = elim (cases_lt 0 n) [ inl t ↦ absurd (h t) | inr t ↦ omega (arith, t) ]

pub releases : (workers : ℕ) (old : CoreView) (request : Request) (answer : Answer) (new : CoreView) → IsLegal old.rules workers old.sent old.world → IsWorld old.world
    → (accepted : IsAccepted old request answer new)
    → ((layer id : ℕ) → count_by (tells_close layer id) accepted.notes ≡ (if has (closed_by answer) id && hears_close old.rules old.world.spans layer id then 1 else 0))
    → gives_back request ≡ true → ClosesWhatNothingHolds old request new
releases workers old request answer new legal world accepted announced gives =
    let batch : PlainBatch = record { request = request; answer = answer; notes = accepted.notes } in
    let w = (whole _ _ _ _ legal).settled in
    let after = (whole _ _ _ _ (more batch legal accepted.step accepted.sent)).settled in
    let change = accepted.step.changes in
    let left = spans_before_closing old.world request in
    let forest = left_forest _ _ _ old.world request answer new.world change w in
    let listed = closes_exactly _ _ _ old.world request answer new.world change w world in
    let dead = closes_dead _ _ _ old.world request answer new.world change w in
    let kept : (id : ℕ) → IsOpen new.world.spans id → find new.world.spans id ≡ find left id =
    λ id o. closes_no_other _ _ _ old.world request answer new.world change w id gives (λ t. none_open (find new.world.spans id) ((listed id).0 t).1 o) in
    record {
      batch = batch;
      sent = accepted.sent;
      asked = refl;
      gone = λ id there. (
        λ none. record {
          no_holder = zero_or (holders_in (find left id)) (λ held. false≢true (sym ((dead id there).0 ((listed id).1 (there, none))) ∙ held_live left id (ranked left forest) held));
          no_child = λ child e. none_open (find new.world.spans id) none (after.upheld.forest.parents_open child id e);
        },
        λ nothing. not_some (find new.world.spans id) (λ o.
            let positive = after.upheld.positive id o in
            let none = ap holders_in (kept id o) ∙ nothing.no_holder in
            let child = child_exists new.world.spans id after.upheld.forest.ids_apart (omega (arith, positive, none)) in
            nothing.no_child child.0 child.1),
      );
      others = kept;
      listed = listed;
      child_first = λ i j d low high. (
        closes_once _ _ _ old.world request answer new.world change w i j d low high,
        closes_child_first _ _ _ old.world request answer new.world change w i j d low high,
      );
      announced = announced;
    }
