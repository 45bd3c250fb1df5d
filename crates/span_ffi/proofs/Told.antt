-- An event under a parent that isn't open is refused alike, whichever such parent it is.
use Rattle.std.proofs.Common.{◌≡◌, ℕ, ◌∙◌, Bool, true, false, List, sym, subst, refl}
use Rattle.std.proofs.lemmas.Bool.{true≢false}
use Rattle.span_id.specs.declared.fault.Fault.{Fault}
use Rattle.span_id.specs.declared.fault.Fault.TheVariants.{Unknown, CountFull, Full, NotEntered, TooManyLayers, BadName, Backlog, BadLimits, Memory}
use Rattle.span_id.specs.Meta.{PlainMeta, KeyValue}
use Rattle.span_outlet.specs.declared.batch.ParentOf.{ParentOf}
use Rattle.span_outlet.specs.declared.batch.ParentOf.TheVariants.{Root, Current, Of}
use Rattle.span_outlet.specs.Request.{Request, event, told}
use Rattle.span_core.specs.Step.{is_open}
use Rattle.span_core.specs.Core.{CoreView, IsRefused}
use Rattle.span_core.proofs.Judging.{judged_alike, why_alike}
use Rattle.span_border.specs.declared.status.Status.{Status}
use Rattle.span_border.specs.declared.status.Status.TheVariants.{Done, Refused, BadData, EmptyHandle, HandleInUse, NoSuchWorker, NoLine, ShortBuffer, NoSuchCallsite}
use Rattle.span_ffi.specs.Calls.{AnswersData}
use Rattle.span_ffi.specs.inside.Parents.{AreAlike}
use Rattle.span_ffi.proofs.Read.{said_alike}

module _ (worker : ℕ) (meta : PlainMeta) (message : List ℕ) (fields : List KeyValue) (old new : CoreView) where
  abbrev tells : Type 0 → ParentOf → Status → Type 0
  tells Says parent status = AnswersData worker Says (event worker meta message fields parent) told old status new

  abbrev under : ℕ → Request
  under id = event worker meta message fields (Of id)

  refused_alike : (a b : ℕ) → is_open old.world.spans a ≡ false → is_open old.world.spans b ≡ false → (fault : Fault) → IsRefused old (under a) fault new → IsRefused old (under b) fault new
  refused_alike a b closed closed' fault is = record {
    why = why_alike old (under a) (under b) fault (judged_alike old (under a) (under b) refl refl closed closed') is.why;
    unchanged = is.unchanged;
  }

  closed_alike : (Says : Type 0) (a b : ℕ) → is_open old.world.spans a ≡ false → is_open old.world.spans b ≡ false
      → (status : Status) → tells Says (Of a) status → tells Says (Of b) status
  closed_alike Says a b closed closed' NoSuchWorker is = is
  closed_alike Says a b closed closed' BadData is = is
  closed_alike Says a b closed closed' (Refused Memory) is = is
  closed_alike Says a b closed closed' (Refused Unknown) (says, (within, is)) = (says, (within, refused_alike a b closed closed' Unknown is))
  closed_alike Says a b closed closed' (Refused BadName) (says, (within, is)) = (says, (within, refused_alike a b closed closed' BadName is))
  closed_alike Says a b closed closed' (Refused CountFull) (says, (within, is)) = (says, (within, refused_alike a b closed closed' CountFull is))
  closed_alike Says a b closed closed' (Refused Full) (says, (within, is)) = (says, (within, refused_alike a b closed closed' Full is))
  closed_alike Says a b closed closed' (Refused NotEntered) (says, (within, is)) = (says, (within, refused_alike a b closed closed' NotEntered is))
  closed_alike Says a b closed closed' (Refused TooManyLayers) (says, (within, is)) = (says, (within, refused_alike a b closed closed' TooManyLayers is))
  closed_alike Says a b closed closed' (Refused Backlog) (says, (within, is)) = (says, (within, refused_alike a b closed closed' Backlog is))
  closed_alike Says a b closed closed' (Refused BadLimits) (says, (within, is)) = (says, (within, refused_alike a b closed closed' BadLimits is))
  closed_alike Says a b closed closed' Done (says, (within, is)) = absurd (true≢false (sym is.step.changes.known ∙ closed))
  closed_alike Says a b closed closed' EmptyHandle (says, is) = absurd is
  closed_alike Says a b closed closed' HandleInUse (says, is) = absurd is
  closed_alike Says a b closed closed' NoLine (says, is) = absurd is
  closed_alike Says a b closed closed' ShortBuffer (says, is) = absurd is
  closed_alike Says a b closed closed' NoSuchCallsite (says, is) = absurd is

  told_alike : (Says : Type 0) (meant said : ParentOf) → AreAlike old.world.spans meant said
      → (status : Status) → tells Says meant status → tells Says said status
  told_alike Says Root Root alike status is = is
  told_alike Says Current Current alike status is = is
  told_alike Says (Of id) (Of other) alike status is = by_open (is_open old.world.spans other) refl
    where
      by_open : (answer : Bool) → is_open old.world.spans other ≡ answer → tells Says (Of other) status
      by_open true is_true = subst (λ (parent : ℕ). tells Says (Of parent) status) (alike.1 is_true) is
      by_open false is_false = closed_alike Says id other (alike.0 ∙ is_false) is_false status is
  told_alike Says Root Current alike status is = absurd alike
  told_alike Says Root (Of id) alike status is = absurd alike
  told_alike Says Current Root alike status is = absurd alike
  told_alike Says Current (Of id) alike status is = absurd alike
  told_alike Says (Of id) Root alike status is = absurd alike
  told_alike Says (Of id) Current alike status is = absurd alike

  -- the same, where other words say when the data say something
  pub tells_as_said : (Says Says' : Type 0) (meant said : ParentOf) → AreAlike old.world.spans meant said
      → (Says → Says') → (Says' → Says) → (status : Status) → tells Says meant status → tells Says' said status
  tells_as_said Says Says' meant said alike there back status is =
      told_alike Says' meant said alike status
      (said_alike worker Says Says' (event worker meta message fields meant) told old new there back status is)
