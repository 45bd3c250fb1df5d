-- What a call does to a core, as a function: as it is judged, and its step where it is due. For each core and
-- each request there is one outcome. (That memory or the outlet may have no place is not in it.)
use Rattle.std.specs.Prelude.{◌≡◌, List, [], ◌∷◌, ◌++◌, Some, IfSome, unwrap_or}
use Rattle.span_id.specs.declared.fault.Fault.{Fault}
use Rattle.span_layers.specs.Note.{PlainNote}
use Rattle.span_core.specs.World.{World}
use Rattle.span_outlet.specs.Request.{Request, Answer, made}
use Rattle.span_core.specs.Step.{answer_to, world_after, notes_after, IsNewId}
use Rattle.span_core.specs.History.{issued}
use Rattle.span_core.specs.Core.{CoreView, id_after, Judgement, refuses, unwanted, due, judged, IsAccepted, IsRefused, IsNotWanted}

-- a refusal; no layer wants the span; or the answer, the notes, and the core after the call
pub data Outcome : Type 0 where
  refused : Fault → Outcome
  not_wanted : Outcome
  accepted : Answer → List PlainNote → CoreView → Outcome

-- ---- the step

-- the core after a call with this answer and these notes, which leaves this world: one batch more was sent
abbrev pub core_after : CoreView → Request → Answer → List PlainNote → World → CoreView
core_after core request answer notes new = record core {
  world = new;
  sent = core.sent ++ (record { request = request; answer = answer; notes = notes }) ∷ [];
}

-- what a call does against which nothing stands: one step, and a new span gets the next id
abbrev pub done : CoreView → Request → Outcome
done core request =
    let answer = answer_to core.world (unwrap_or (id_after core) 0) request in
    let new = world_after core.rules core.world request answer in
    let notes = notes_after core.rules core.world request answer new in
    accepted answer notes (core_after core request answer notes new)

-- what a call does that is judged so
abbrev pub outcome_of : CoreView → Request → Judgement → Outcome
outcome_of core request (refuses fault) = refused fault
outcome_of core request unwanted = not_wanted
outcome_of core request due = done core request

-- what a call does: it is refused for the first fault that applies, or no layer wants the span, or it is one step
abbrev pub outcome : CoreView → Request → Outcome
outcome core request = outcome_of core request (judged core request)

-- ---- what the calls' contracts say of it

-- a new span gets the next id
abbrev pub TakesNextId : CoreView → Answer → Type 0
TakesNextId core (made id) = id_after core ≡ Some id
TakesNextId core _ = Unit {0}

-- the next id, if there is one, is new
abbrev pub IsNextIdNew : CoreView → Type 0
IsNextIdNew core = IfSome (id_after core) (IsNewId (issued core.sent))

-- the contracts allow the outcome: a refusal and an answer that changes nothing leave the core as it is, and an
-- accepted call is one step, with these notes
abbrev pub IsAllowed : CoreView → Request → Outcome → Type 0
IsAllowed core request (refused fault) = IsRefused core request fault core
IsAllowed core request not_wanted = IsNotWanted core request core
IsAllowed core request (accepted answer notes new) =
    (call : IsAccepted core request answer new) × (call.notes ≡ notes) × TakesNextId core answer
