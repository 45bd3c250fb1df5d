-- Which spans a call closes, and in which order.
use Rattle.std.proofs.Common.{◌≡◌, ◌≢◌, ℕ, true, false, List, [], Some, None, IsTrue, refl, sym, ap, subst, ◌∙◌}
use Rattle.std.specs.Prelude.{◌↔◌, IsSome, AllPairs}
use Rattle.std.proofs.lemmas.Bool.{false≢true}
use Rattle.span_id.specs.Ids.{has}
use Rattle.span_layers.specs.Filter.{Filter}
use Rattle.span_forest.specs.Spans.{Spans, find, IsOpen, parent_of, with_entry}
use Rattle.span_forest.specs.Live.{is_live}
use Rattle.span_forest.proofs.Ranks.{ranked}
use Rattle.span_forest.proofs.Walks.{all_live}
use Rattle.span_forest.proofs.Nodes.{changed_open}
use Rattle.span_slots.proofs.Entries.{find-with_other}
use Rattle.span_forest.proofs.Orders.{list_once, list_child_first}
use Rattle.span_forest.proofs.Spared.{none_open, gone_exactly, dead_exactly, listed_open, others_stay}
use Rattle.span_core.specs.World.{World, IsWorld}
use Rattle.span_outlet.specs.Request.{Request, Answer}
use Rattle.span_core.specs.Step.{Changes}
use Rattle.span_core.specs.ClosedSpans.{closed_by, spans_before_closing, gives_back}
use Rattle.span_core.proofs.Effects.{Makes, effect}
use Rattle.span_core.proofs.Effects.Effect.{stays, changes, makes, frees}
use Rattle.span_core.proofs.Legal.{IsSettled, AllPairs-nil}

-- the spans of the list closed, and no others
abbrev pub ClosesExactly : Spans → List ℕ → Spans → ℕ → Type 0
ClosesExactly old closed new id = IsTrue (has closed id) ↔ (IsOpen old id × (find new id ≡ None))

-- which are those that are not live without the holder
abbrev pub ClosesDead : Spans → List ℕ → ℕ → Type 0
ClosesDead left closed id = IsTrue (has closed id) ↔ (is_live left id ≡ false)

-- where open spans stay open
closes_none : (old new : Spans) (closed : List ℕ) (id : ℕ) → closed ≡ [] → (IsOpen old id → IsOpen new id) → ClosesExactly old closed new id
closes_none old new closed id none still =
    rw none (λ t. absurd (false≢true t), λ both. absurd (none_open (find new id) both.1 (still both.0)))

live_all : (old left : Spans) (closed : List ℕ) (id : ℕ) → closed ≡ [] → left ≡ old → is_live old id ≡ true → ClosesDead left closed id
live_all old left closed id none same live =
    rw (none, same) (λ t. absurd (false≢true t), λ dead. absurd (false≢true (sym dead ∙ live)))

module _ (rules : List Filter) (ids closed : List ℕ) (old : World) (request : Request) (answer : Answer) (new : World) (change : Changes rules ids old request answer new) (w : IsSettled rules ids closed old.spans) where
  still_made : (m : Makes rules ids old request answer new) (id : ℕ) → IsOpen old.spans id → IsOpen (with_entry old.spans m.id m.node) id
  still_made m id o =
      let apart : id ≢ m.id = λ e. false≢true (sym m.fresh ∙ ap (λ k. has ids k) (sym e) ∙ w.open_issued id o) in
      subst IsSome (sym (find-with_other old.spans m.id id m.node apart)) o

  pub closes_exactly : IsWorld old → (id : ℕ) → ClosesExactly old.spans (closed_by answer) new.spans id
  closes_exactly world id =
      elim (effect rules ids old request answer new change) [
        | stays same quiet ↦ closes_none old.spans new.spans (closed_by answer) id quiet.closed (λ o. rw same o)
        | changes f at mild other same quiet ↦ closes_none old.spans new.spans (closed_by answer) id quiet.closed (λ o. rw same (changed_open f old.spans at id o))
        | makes m ↦ closes_none old.spans new.spans (closed_by answer) id m.closed (λ o. rw m.spans (still_made m id o))
        | frees m ↦ (let listed = listed_open old.spans w.upheld.forest w.upheld.positive m.id m.holder (m.there world) id in
            let gone = gone_exactly old.spans w.upheld.forest w.upheld.positive m.id m.holder id in
            rw (m.closed, m.spans) (λ t. (listed t, (gone (listed t)).0 t), λ both. (gone both.0).1 both.1))
      ]

  pub closes_dead : (id : ℕ) → IsOpen old.spans id → ClosesDead (spans_before_closing old request) (closed_by answer) id
  closes_dead id o =
      let live = all_live old.spans (ranked old.spans w.upheld.forest) w.upheld.positive id o in
      elim (effect rules ids old request answer new change) [
        | stays same quiet ↦ live_all old.spans (spans_before_closing old request) (closed_by answer) id quiet.closed quiet.left live
        | changes f at mild other same quiet ↦ live_all old.spans (spans_before_closing old request) (closed_by answer) id quiet.closed quiet.left live
        | makes m ↦ live_all old.spans (spans_before_closing old request) (closed_by answer) id m.closed m.left live
        | frees m ↦ rw (m.closed, m.left) (dead_exactly old.spans w.upheld.forest w.upheld.positive m.id m.holder id o)
      ]

  -- each other span stays as it is without the holder
  pub closes_no_other : (id : ℕ) → gives_back request ≡ true → (has (closed_by answer) id ≡ true → ⊥) → find new.spans id ≡ find (spans_before_closing old request) id
  closes_no_other id gives unlisted =
      elim (effect rules ids old request answer new change) [
        | stays same quiet ↦ rw (same, quiet.left) refl
        | changes f at mild other same quiet ↦ absurd (false≢true (sym other ∙ gives))
        | makes m ↦ absurd (false≢true (sym m.other ∙ gives))
        | frees m ↦ rw (m.spans, m.left) (others_stay old.spans w.upheld.forest w.upheld.positive m.id m.holder id (rw m.closed at unlisted))
      ]

  pub closes_once : AllPairs (λ first later. first ≢ later) (closed_by answer)
  closes_once =
      elim (effect rules ids old request answer new change) [
        | stays same quiet ↦ rw quiet.closed (AllPairs-nil (λ first later. first ≢ later))
        | changes f at mild other same quiet ↦ rw quiet.closed (AllPairs-nil (λ first later. first ≢ later))
        | makes m ↦ rw m.closed (AllPairs-nil (λ first later. first ≢ later))
        | frees m ↦ rw m.closed (list_once old.spans w.upheld.forest m.id m.holder)
      ]

  pub closes_child_first : AllPairs (λ first later. parent_of old.spans later ≢ Some first) (closed_by answer)
  closes_child_first =
      elim (effect rules ids old request answer new change) [
        | stays same quiet ↦ rw quiet.closed (AllPairs-nil (λ first later. parent_of old.spans later ≢ Some first))
        | changes f at mild other same quiet ↦ rw quiet.closed (AllPairs-nil (λ first later. parent_of old.spans later ≢ Some first))
        | makes m ↦ rw m.closed (AllPairs-nil (λ first later. parent_of old.spans later ≢ Some first))
        | frees m ↦ rw m.closed (list_child_first old.spans w.upheld.forest m.id m.holder)
      ]
