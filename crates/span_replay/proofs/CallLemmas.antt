-- From the registry's contracts to the answer that is written and the core that is left.
use Rattle.std.proofs.Common.{◌≡◌, ℕ, zero, suc, ◌+◌, ◌-◌, ◌^◌, ◌==◌, Bool, true, false, cond, refl, List, Option, Some, None, Result, Ok, Err, ◌<◌, sym, ap, arith, subst, ◌∙◌}
use Rattle.std.proofs.lemmas.Bool.{false≢true}
use Rattle.std.specs.Prelude.{IfOk, OnOk, IfSome, IfNone, MatchOption}
use Rattle.span_id.specs.declared.fault.Fault.{Fault}
use Rattle.span_id.specs.declared.fault.Fault.TheVariants.{Backlog}
use Rattle.span_core.specs.Core.{CoreView, IsAccepted, IsRefused, IsNotWanted, times_after}
use Rattle.span_id.specs.Meta.{KeyValue, PlainMeta}
use Rattle.span_outlet.specs.Request as call
use Rattle.span_core.specs.World.{World}
use Rattle.span_core.specs.Parent.{parent_found}
use Rattle.span_outlet.specs.declared.batch.ParentOf.{ParentOf}
use Rattle.span_outlet.specs.declared.batch.ParentOf.TheVariants.{Root, Of}
use Rattle.span_core.specs.Core.{IsLate}
use Rattle.span_core.specs.Outcome.{TakesNextId}
use Rattle.span_core.proofs.Outcomes.{accepted_outcome, refused_outcome, not_wanted_outcome}
use Rattle.span_replay.specs.inside.Calls.{IsMade}
use Rattle.span_replay.specs.Written.{answer_for, answer_written, core_left}
use Rattle.span_replay.specs.declared.run.answer.Answer.{Answer}
use Rattle.span_replay.specs.declared.run.answer.Answer.TheVariants.{Made, NotWanted, Refused}
use Rattle.span_script.specs.declared.stop.Stop.{Stop}

pub made_accepted : (old : CoreView) (request : call.Request) (answer : call.Answer) (new : CoreView) → IsAccepted old request answer new → TakesNextId old answer
    → IsMade old request (answer_written answer) new
made_accepted old request answer new made next =
    let is = accepted_outcome old request answer new made next in
    record { answer_is = sym (ap answer_for is); core_is = sym (ap (core_left old) is) }

pub made_refused : (old : CoreView) (request : call.Request) (fault : Fault) (new : CoreView) → IsRefused old request fault new → (IsLate fault → ⊥)
    → IsMade old request (Refused fault) new
made_refused old request fault new call judged =
    let is = refused_outcome old request fault new call judged in
    record { answer_is = sym (ap answer_for is.0); core_is = is.1 ∙ sym (ap (core_left old) is.0) }

pub made_not_wanted : (old : CoreView) (request : call.Request) (new : CoreView) → IsNotWanted old request new → IsMade old request NotWanted new
made_not_wanted old request new call =
    let is = not_wanted_outcome old request new call in
    record { answer_is = sym (ap answer_for is.0); core_is = is.1 ∙ sym (ap (core_left old) is.0) }

pub refused_answer : (result : Result Answer Stop) (old : CoreView) (request : call.Request) (fault : Fault) (new : CoreView) → IsRefused old request fault new
    → OnOk result (IsLate fault → ⊥) → IfOk result (λ answer. answer ≡ Refused fault) → IfOk result (λ answer. IsMade old request answer new)
refused_answer (Ok answer) old request fault new call judged is =
    subst (λ a. IsMade old request a new) (sym is) (made_refused old request fault new call judged)
refused_answer (Err stop) old request fault new call judged is = tt

some_more : (n : ℕ) (b : Bool) → (n == 2 ^ 64 - 1) ≡ b → 0 < cond b n (n + 1)
some_more n false e = omega arith
some_more zero true e = absurd (false≢true e)
some_more (suc n) true e = omega arith

-- a call for which the outlet had no place is counted
pub late_counts : (old : CoreView) (request : call.Request) (fault : Fault) (new : CoreView) → IsRefused old request fault new → fault ≡ Backlog → 0 < new.times_full
late_counts old request fault new call late =
    let is : new.times_full ≡ times_after Backlog old.times_full = ap (λ (core : CoreView). core.times_full) call.unchanged ∙ ap (λ f. times_after f old.times_full) late in
    subst (λ n. 0 < n) (sym is) (some_more old.times_full (old.times_full == 2 ^ 64 - 1) refl)

-- the parent that is handed on is the one that was found
pub found_parent : (world : World) (worker : ℕ) (parent : Option ℕ) (result : ParentOf) → MatchOption parent (result ≡ Root) (λ id. result ≡ Of id)
    → parent_found world worker result ≡ parent
found_parent world worker None result is = ap (parent_found world worker) is
found_parent world worker (Some id) result is = ap (parent_found world worker) is

-- the call that is made is the one that is meant
pub same_new : (world : World) (worker number : ℕ) (meta : PlainMeta) (fields : List KeyValue) (parent : Option ℕ) (result : ParentOf)
    → number ≡ worker → MatchOption parent (result ≡ Root) (λ id. result ≡ Of id)
    → call.new_span worker meta fields (parent_found world worker result) ≡ call.new_span number meta fields parent
same_new world worker number meta fields parent result same is =
    λ i. call.new_span (sym same i) meta fields (found_parent world worker parent result is i)

pub same_event : (worker number : ℕ) (meta : PlainMeta) (message : List ℕ) (fields : List KeyValue) (parent : ParentOf) → number ≡ worker
    → call.event worker meta message fields parent ≡ call.event number meta message fields parent
same_event worker number meta message fields parent same = λ i. call.event (sym same i) meta message fields parent

pub made_some : (result : Option ℕ) (id : ℕ) (old : CoreView) (request : call.Request) (new : CoreView) → result ≡ Some id
    → IfSome result (λ id. IsAccepted old request (call.made id) new) → IfSome result (λ id. TakesNextId old (call.made id))
    → IsMade old request (Made id) new
made_some None id old request new is made next = let bad : ⊥ = cc in absurd bad
made_some (Some given) id old request new is made next =
    subst (λ o. IfSome o (λ id. IsMade old request (Made id) new)) is (made_accepted old request (call.made given) new made next)

pub made_none : (result : Option ℕ) (old : CoreView) (request : call.Request) (new : CoreView) → result ≡ None → IfNone result (IsNotWanted old request new)
    → IsMade old request NotWanted new
made_none None old request new is call = made_not_wanted old request new call
made_none (Some id) old request new is call = let bad : ⊥ = cc in absurd bad
