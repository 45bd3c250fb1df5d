-- A new span under a parent that isn't open is refused alike, whichever such parent it is.
use Rattle.std.proofs.Common.{◌≡◌, ℕ, ◌∙◌, Bool, true, false, List, Some, sym, subst, refl}
use Rattle.std.proofs.lemmas.Bool.{true≢false}
use Rattle.span_id.specs.declared.fault.Fault.TheVariants.{Unknown, CountFull, Full, NotEntered, TooManyLayers, BadName, Backlog, BadLimits, Memory}
use Rattle.span_id.specs.Meta.{PlainMeta, KeyValue}
use Rattle.span_outlet.specs.declared.batch.ParentOf.{ParentOf}
use Rattle.span_outlet.specs.declared.batch.ParentOf.TheVariants.{Root, Current, Of}
use Rattle.span_outlet.specs.Request.{Request, new_span}
use Rattle.span_core.specs.Step.{is_open}
use Rattle.span_core.specs.Parent.{parent_found}
use Rattle.span_core.specs.Core.{CoreView, judged}
use Rattle.span_core.proofs.Judging.{judged_alike, why_alike}
use Rattle.span_border.specs.declared.status.Status.{Status}
use Rattle.span_border.specs.declared.status.Status.TheVariants.{Done, Refused, BadData, EmptyHandle, HandleInUse, NoSuchWorker, NoLine, ShortBuffer, NoSuchCallsite}
use Rattle.span_ffi.specs.Data.{said_parent}
use Rattle.span_ffi.specs.Calls.{HasWorker, IsMadeOrRefused, MakesAsked, span_asked}
use Rattle.span_ffi.specs.inside.Parents.{AreAlike}

module _ (old new : CoreView) (worker : ℕ) (meta : PlainMeta) (fields : List KeyValue) (a b : ℕ)
    (closed : is_open old.world.spans a ≡ false) (closed' : is_open old.world.spans b ≡ false) where
  abbrev under : ℕ → Request
  under id = new_span worker meta fields (Some id)

  same_judgement : judged old (under a) ≡ judged old (under b)
  same_judgement = judged_alike old (under a) (under b) refl refl closed closed'

  closed_alike : (made : ℕ) (status : Status) → IsMadeOrRefused (under a) made old status new → IsMadeOrRefused (under b) made old status new
  closed_alike made Done is = (
    λ none. let unwanted = is.0 none in record { not_wanted = sym same_judgement ∙ unwanted.not_wanted; same = unwanted.same },
    λ some. absurd (true≢false (sym (is.1 some).0.step.changes.known ∙ closed)),
  )
  closed_alike made (Refused fault) is = record { why = why_alike old (under a) (under b) fault same_judgement is.why; unchanged = is.unchanged }
  closed_alike made BadData is = absurd is
  closed_alike made EmptyHandle is = absurd is
  closed_alike made HandleInUse is = absurd is
  closed_alike made NoSuchWorker is = absurd is
  closed_alike made NoLine is = absurd is
  closed_alike made ShortBuffer is = absurd is
  closed_alike made NoSuchCallsite is = absurd is

-- the outcome is the same under parents that are alike
pub made_alike : (old new : CoreView) (worker : ℕ) (meta : PlainMeta) (fields : List KeyValue) (meant said : ParentOf) (made : ℕ) (status : Status)
    → AreAlike old.world.spans meant said
    → IsMadeOrRefused (new_span worker meta fields (parent_found old.world worker meant)) made old status new
    → IsMadeOrRefused (new_span worker meta fields (parent_found old.world worker said)) made old status new
made_alike old new worker meta fields Root Root made status alike is = is
made_alike old new worker meta fields Current Current made status alike is = is
made_alike old new worker meta fields (Of id) (Of other) made status alike is = by_open (is_open old.world.spans other) refl
  where
    by_open : (answer : Bool) → is_open old.world.spans other ≡ answer
        → IsMadeOrRefused (new_span worker meta fields (Some other)) made old status new
    by_open true is_true = subst (λ (parent : ℕ). IsMadeOrRefused (new_span worker meta fields (Some parent)) made old status new) (alike.1 is_true) is
    by_open false is_false = closed_alike old new worker meta fields id other (alike.0 ∙ is_false) is_false made status is
made_alike old new worker meta fields Root Current made status alike is = absurd alike
made_alike old new worker meta fields Root (Of id) made status alike is = absurd alike
made_alike old new worker meta fields Current Root made status alike is = absurd alike
made_alike old new worker meta fields Current (Of id) made status alike is = absurd alike
made_alike old new worker meta fields (Of id) Root made status alike is = absurd alike
made_alike old new worker meta fields (Of id) Current made status alike is = absurd alike

-- what the registry did with the span that was asked for is what the call does
pub makes : (worker : ℕ) (Says : Type 0) (request : Request) (made : ℕ) (old : CoreView) (status : Status) (new : CoreView)
    → HasWorker old worker → Says → IsMadeOrRefused request made old status new → MakesAsked worker Says request made old status new
makes worker Says request made old Done new within says is = (within, says, is)
makes worker Says request made old (Refused Unknown) new within says is = (within, says, is)
makes worker Says request made old (Refused CountFull) new within says is = (within, says, is)
makes worker Says request made old (Refused Full) new within says is = (within, says, is)
makes worker Says request made old (Refused NotEntered) new within says is = (within, says, is)
makes worker Says request made old (Refused TooManyLayers) new within says is = (within, says, is)
makes worker Says request made old (Refused BadName) new within says is = (within, says, is)
makes worker Says request made old (Refused Backlog) new within says is = (within, says, is)
makes worker Says request made old (Refused BadLimits) new within says is = (within, says, is)
makes worker Says request made old (Refused Memory) new within says is = (within, says, is.unchanged)
makes worker Says request made old BadData new within says is = absurd is
makes worker Says request made old EmptyHandle new within says is = absurd is
makes worker Says request made old HandleInUse new within says is = absurd is
makes worker Says request made old NoSuchWorker new within says is = absurd is
makes worker Says request made old NoLine new within says is = absurd is
makes worker Says request made old ShortBuffer new within says is = absurd is
makes worker Says request made old NoSuchCallsite new within says is = absurd is

-- the same where the registry was asked for the meta and the fields that were read, under a parent that is alike
pub makes_as_read : (worker kind parent : ℕ) (Says : Type 0) (meta : PlainMeta) (fields : List KeyValue) (made : ℕ) (old : CoreView) (status : Status) (new : CoreView)
    (read : PlainMeta) (read_fields : List KeyValue) (meant : ParentOf)
    → HasWorker old worker → Says → read ≡ meta → read_fields ≡ fields → AreAlike old.world.spans meant (said_parent kind parent)
    → IsMadeOrRefused (new_span worker read read_fields (parent_found old.world worker meant)) made old status new
    → MakesAsked worker Says (span_asked worker kind parent meta fields old) made old status new
makes_as_read worker kind parent Says meta fields made old status new read read_fields meant within says is are alike done =
    let asked = λ (m : PlainMeta) (fs : List KeyValue). IsMadeOrRefused (span_asked worker kind parent m fs old) made old status new in
    let as_read = made_alike old new worker read read_fields meant (said_parent kind parent) made status alike done in
    makes worker Says (span_asked worker kind parent meta fields old) made old status new within says
    (subst (λ (fs : List KeyValue). asked meta fs) are (subst (λ (m : PlainMeta). asked m read_fields) is as_read))
