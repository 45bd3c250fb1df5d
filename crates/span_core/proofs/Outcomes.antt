-- The relations that the calls' contracts state leave no choice: what they allow is the outcome.
use Rattle.std.proofs.Common.{◌≡◌, ℕ, ◌<◌, true, List, length, Option, Some, None, refl, sym, ap, subst, ◌∙◌}
use Rattle.std.specs.Prelude.{is_some, IfSome, unwrap_or}
use Rattle.std.proofs.lemmas.Bool.{true≢false}
use Rattle.span_id.specs.declared.fault.Fault.{Fault}
use Rattle.span_id.specs.declared.fault.Fault.TheVariants.{Backlog, Memory}
use Rattle.span_layers.specs.Note.{PlainNote}
use Rattle.span_layers.specs.Filter.{Filter}
use Rattle.span_core.specs.World.{World}
use Rattle.span_outlet.specs.Request.{Request, new_span, clone_span, enter, exit, try_close, record_fields, event, Answer, made, worker_of}
use Rattle.span_core.specs.Step.{IsStep, IsNewId, IssuesNewId, answer_to, world_after, notes_after}
use Rattle.span_core.specs.History.{issued, id_issued}
use Rattle.span_core.specs.Core.{CoreView, id_after, Judgement, refuses, unwanted, due, judged, IsDue, WhyRefused, IsLate, times_after, IsRefused, IsAccepted, IsNotWanted}
use Rattle.span_core.specs.Outcome.{Outcome, refused, not_wanted, accepted, core_after, done, outcome_of, outcome, TakesNextId, IsNextIdNew, IsAllowed}
use Rattle.span_core.proofs.Judging.{PassesTests, tests_of, never_late}

-- ---- what is done

-- what is done, from the answer on, from the next world on, and from the notes on
abbrev noted : CoreView → Request → Answer → World → List PlainNote → Outcome
noted core request answer new notes = accepted answer notes (core_after core request answer notes new)

abbrev stepped : CoreView → Request → Answer → World → Outcome
stepped core request answer new = noted core request answer new (notes_after core.rules core.world request answer new)

abbrev answered : CoreView → Request → Answer → Outcome
answered core request answer = stepped core request answer (world_after core.rules core.world request answer)

-- nothing stands against the call: it is done
pub due_outcome : (core : CoreView) (request : Request) → IsDue core request → outcome core request ≡ done core request
due_outcome core request is = ap (outcome_of core request) is

-- ---- a step leaves no choice but for a new span's id

-- the id that is issued is that of the answer
same_answer : (old : World) (one other : ℕ) (request : Request) → id_issued (answer_to old one request) ≡ id_issued (answer_to old other request) → answer_to old one request ≡ answer_to old other request
same_answer old one other (new_span worker meta fields parent) same = let id : one ≡ other = cc in ap made id
same_answer old one other (clone_span worker id) same = refl
same_answer old one other (enter worker id) same = refl
same_answer old one other (exit worker id) same = refl
same_answer old one other (try_close worker id) same = refl
same_answer old one other (record_fields worker id fields) same = refl
same_answer old one other (event worker meta message fields parent) same = refl

-- two steps from one world for one request have the same answer, notes and next world, if new spans have the same id
pub one_step : (rules : List Filter) (ids : List ℕ) (old : World) (request : Request) (answer other : Answer) (notes others : List PlainNote) (new next : World)
    → IsStep rules ids old request answer notes new → IsStep rules ids old request other others next → id_issued answer ≡ id_issued other
    → (answer ≡ other) × (notes ≡ others) × (new ≡ next)
one_step rules ids old request answer other notes others new next step another same_id = (answers, told_alike, worlds)
  where
    answers : answer ≡ other
    answers =
        step.changes.answer_is
        ∙ same_answer old step.changes.id another.changes.id request (sym (ap id_issued step.changes.answer_is) ∙ same_id ∙ ap id_issued another.changes.answer_is)
        ∙ sym another.changes.answer_is

    worlds : new ≡ next
    worlds = step.changes.after ∙ ap (world_after rules old request) answers ∙ sym another.changes.after

    told_alike : notes ≡ others
    told_alike = step.notes_are ∙ (λ i. notes_after rules old request (answers i) (worlds i)) ∙ sym another.notes_are

-- ---- the calls' relations and the outcome

-- the next id is that of the answer
next_id_in : (core : CoreView) (id : ℕ) (request : Request) → TakesNextId core (answer_to core.world id request) → answer_to core.world id request ≡ answer_to core.world (unwrap_or (id_after core) 0) request
next_id_in core id (new_span worker meta fields parent) next = ap made (sym (ap (λ o. unwrap_or o 0) next))
next_id_in core id (clone_span worker held) next = refl
next_id_in core id (enter worker held) next = refl
next_id_in core id (exit worker held) next = refl
next_id_in core id (try_close worker held) next = refl
next_id_in core id (record_fields worker held fields) next = refl
next_id_in core id (event worker meta message fields parent) next = refl

-- an accepted call is the outcome: its answer, its notes and the core that it leaves
pub accepted_outcome : (old : CoreView) (request : Request) (answer : Answer) (new : CoreView) (call : IsAccepted old request answer new) → TakesNextId old answer
    → outcome old request ≡ accepted answer call.notes new
accepted_outcome old request answer new call next =
    due_outcome old request call.due ∙ ap (answered old request) (sym answer_is) ∙ ap (stepped old request answer) (sym call.step.changes.after) ∙ ap (noted old request answer new.world) (sym call.step.notes_are) ∙ ap (accepted answer call.notes) (sym core_is)
  where
    answer_is : answer ≡ answer_to old.world (unwrap_or (id_after old) 0) request
    answer_is = call.step.changes.answer_is ∙ next_id_in old call.step.changes.id request (subst (TakesNextId old) call.step.changes.answer_is next)

    core_is : new ≡ core_after old request answer call.notes new.world
    core_is = λ i. record {
      limits = call.limits i;
      rules = call.rules i;
      world = new.world;
      sent = call.sent i;
      times_full = call.times_full i;
      forms = call.forms i;
      name = call.name i;
    }

-- a refused call is the outcome, and changes nothing, unless the outlet had no place or memory was refused
pub refused_outcome : (old : CoreView) (request : Request) (fault : Fault) (new : CoreView) → IsRefused old request fault new → (IsLate fault → ⊥) → (outcome old request ≡ refused fault) × (new ≡ old)
refused_outcome old request fault new call judged = (by_fault fault call.why judged, call.unchanged ∙ quiet fault judged)
  where
    quiet : (fault : Fault) → (IsLate fault → ⊥) → record old { times_full = times_after fault old.times_full } ≡ old
    quiet Backlog judged = absurd (judged tt)
    quiet _ judged = refl

    by_fault : (fault : Fault) → WhyRefused old request fault → (IsLate fault → ⊥) → outcome old request ≡ refused fault
    by_fault Backlog why judged = absurd (judged tt)
    by_fault Memory why judged = absurd (judged tt)
    by_fault _ why judged = ap (outcome_of old request) why

-- where the outlet had no place, or memory was refused, the call would have been done
pub late_outcome : (old : CoreView) (request : Request) (fault : Fault) (new : CoreView) → IsRefused old request fault new → IsLate fault → outcome old request ≡ done old request
late_outcome old request fault new call late = by_fault fault call.why late
  where
    by_fault : (fault : Fault) → WhyRefused old request fault → IsLate fault → outcome old request ≡ done old request
    by_fault Backlog why late = due_outcome old request why
    by_fault Memory why late = due_outcome old request why
    by_fault _ why late = absurd late

-- a span that no layer wants
pub not_wanted_outcome : (old : CoreView) (request : Request) (new : CoreView) → IsNotWanted old request new → (outcome old request ≡ not_wanted) × (new ≡ old)
not_wanted_outcome old request new call = (ap (outcome_of old request) call.not_wanted, call.same)

-- ---- the relations allow the outcome

at_some : (Q : ℕ → Type 0) (o : Option ℕ) → is_some o ≡ true → IfSome o Q → Q (unwrap_or o 0)
at_some Q None some h = absurd (true≢false (sym some))
at_some Q (Some id) some h = h

is_at_some : (o : Option ℕ) → is_some o ≡ true → o ≡ Some (unwrap_or o 0)
is_at_some None some = absurd (true≢false (sym some))
is_at_some (Some id) some = refl

-- what is done is a step
done_new : (core : CoreView) (request : Request) → PassesTests core request → IsNextIdNew core → IssuesNewId (issued core.sent) (answer_to core.world (unwrap_or (id_after core) 0) request)
done_new core (new_span worker meta fields parent) tests new = at_some (IsNewId (issued core.sent)) (id_after core) tests.slot new
done_new core (clone_span worker id) tests new = tt
done_new core (enter worker id) tests new = tt
done_new core (exit worker id) tests new = tt
done_new core (try_close worker id) tests new = tt
done_new core (record_fields worker id fields) tests new = tt
done_new core (event worker meta message fields parent) tests new = tt

done_takes : (core : CoreView) (request : Request) → PassesTests core request → TakesNextId core (answer_to core.world (unwrap_or (id_after core) 0) request)
done_takes core (new_span worker meta fields parent) tests = is_at_some (id_after core) tests.slot
done_takes core (clone_span worker id) tests = tt
done_takes core (enter worker id) tests = tt
done_takes core (exit worker id) tests = tt
done_takes core (try_close worker id) tests = tt
done_takes core (record_fields worker id fields) tests = tt
done_takes core (event worker meta message fields parent) tests = tt

done_allowed : (core : CoreView) (request : Request) → worker_of request < length core.world.stacks → IsDue core request → IsNextIdNew core → IsAllowed core request (done core request)
done_allowed core request within is new = (
  record {
    due = is;
    limits = refl;
    rules = refl;
    notes = notes_after core.rules core.world request answer (world_after core.rules core.world request answer);
    step = record {
      within = within;
      changes = record {
        wanted = tests.wanted;
        known = tests.known;
        inside = tests.inside;
        id = unwrap_or (id_after core) 0;
        answer_is = refl;
        id_is_new = done_new core request tests new;
        after = refl;
      };
      notes_are = refl;
    };
    sent = refl;
    times_full = refl;
    forms = refl;
    name = refl;
  },
  refl,
  done_takes core request tests,
)
  where
    answer : Answer
    answer = answer_to core.world (unwrap_or (id_after core) 0) request

    tests : PassesTests core request
    tests = tests_of core request is

-- the relations that the contracts state allow the outcome of a call by one of the workers, where the next id is new,
-- as it is in every sound core
pub outcome_allowed : (core : CoreView) (request : Request) → worker_of request < length core.world.stacks → IsNextIdNew core → IsAllowed core request (outcome core request)
outcome_allowed core request within new = by_judgement (judged core request) refl
  where
    by_fault : (fault : Fault) → judged core request ≡ refuses fault → IsRefused core request fault core
    by_fault Backlog is = absurd ((never_late core request Backlog is).0 refl)
    by_fault Memory is = absurd ((never_late core request Memory is).1 refl)
    by_fault _ is = record { why = is; unchanged = refl }

    by_judgement : (j : Judgement) → judged core request ≡ j → IsAllowed core request (outcome_of core request j)
    by_judgement (refuses fault) is = by_fault fault is
    by_judgement unwanted is = record { not_wanted = is; same = refl }
    by_judgement due is = done_allowed core request within is new
