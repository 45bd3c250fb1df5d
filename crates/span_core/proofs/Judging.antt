-- What a call is judged by its tests, and what is known of the tests where it is judged so.
use Rattle.std.proofs.Common.{◌≡◌, ◌≢◌, ◌<◌, ◌-◌, ◌^◌, Bool, true, false, not, ◌&&◌, if◌then◌else◌, length, refl, sym, ◌∙◌, subst}
use Rattle.std.proofs.lemmas.Bool.{false≢true, ltb-true}
use Rattle.span_id.specs.declared.fault.Fault.{Fault}
use Rattle.span_id.specs.declared.fault.Fault.TheVariants.{Unknown, CountFull, Full, NotEntered, BadName, Backlog, Memory}
use Rattle.span_outlet.specs.Request.{Request}
use Rattle.span_core.specs.Step.{is_wanted_call, is_known, is_inside}
use Rattle.span_core.specs.Core.{CoreView, is_named, may_count, may_send, has_slot, Judgement, refuses, unwanted, due, judged, IsDue, WhyRefused, IsNotWanted}

-- ---- what is judged, of the results of the tests

abbrev by_tests : Bool → Bool → Bool → Bool → Bool → Bool → Judgement
by_tests named wanted known counts slot inside =
    if not named then refuses BadName else
    (if not wanted then unwanted else
    (if not known then refuses Unknown else
    (if not counts then refuses CountFull else
    (if not slot then refuses Full else
    (if not inside then refuses NotEntered else
    due)))))

all_hold : (n w k c s i : Bool) → by_tests n w k c s i ≡ due → (n ≡ true) × (w ≡ true) × (k ≡ true) × (c ≡ true) × (s ≡ true) × (i ≡ true)
all_hold false w k c s i is = cc
all_hold true false k c s i is = cc
all_hold true true false c s i is = cc
all_hold true true true false s i is = cc
all_hold true true true true false i is = cc
all_hold true true true true true false is = cc
all_hold true true true true true true is = (refl, refl, refl, refl, refl, refl)

one_fails : (n w k c s i : Bool) → by_tests n w k c s i ≡ unwanted → (n ≡ true) × (w ≡ false)
one_fails false w k c s i is = cc
one_fails true false k c s i is = (refl, refl)
one_fails true true false c s i is = cc
one_fails true true true false s i is = cc
one_fails true true true true false i is = cc
one_fails true true true true true false is = cc
one_fails true true true true true true is = cc

-- what is known of the names and of what a call names, where it is refused for this fault
abbrev pub Tells : Fault → Bool → Bool → Type 0
Tells BadName named known = named ≡ false
Tells Unknown named known = known ≡ false
Tells CountFull named known = Unit {0}
Tells Full named known = Unit {0}
Tells NotEntered named known = Unit {0}
Tells _ named known = ⊥

told_by : (n w k c s i : Bool) (fault : Fault) → by_tests n w k c s i ≡ refuses fault → Tells fault n k
told_by false w k c s i fault is = let same : BadName ≡ fault = cc in subst (λ (f : Fault). Tells f false k) same refl
told_by true false k c s i fault is = cc
told_by true true false c s i fault is = let same : Unknown ≡ fault = cc in subst (λ (f : Fault). Tells f true false) same refl
told_by true true true false s i fault is = let same : CountFull ≡ fault = cc in subst (λ (f : Fault). Tells f true true) same tt
told_by true true true true false i fault is = let same : Full ≡ fault = cc in subst (λ (f : Fault). Tells f true true) same tt
told_by true true true true true false fault is = let same : NotEntered ≡ fault = cc in subst (λ (f : Fault). Tells f true true) same tt
told_by true true true true true true fault is = cc

-- ---- a call that is due

-- all tests of a call hold
pub record PassesTests (core : CoreView) (request : Request) : Type 0 where
  pub named : is_named request ≡ true
  pub wanted : is_wanted_call core.rules request ≡ true
  pub known : is_known core.world.spans request ≡ true
  pub counts : (may_count core request && may_send core) ≡ true
  pub slot : has_slot core request ≡ true
  pub inside : is_inside core.world request ≡ true

pub due_from : (core : CoreView) (request : Request) → PassesTests core request → IsDue core request
due_from core request tests = λ j. by_tests (tests.named j) (tests.wanted j) (tests.known j) (tests.counts j) (tests.slot j) (tests.inside j)

pub tests_of : (core : CoreView) (request : Request) → IsDue core request → PassesTests core request
tests_of core request is =
    let all = all_hold (is_named request) (is_wanted_call core.rules request) (is_known core.world.spans request) (may_count core request && may_send core) (has_slot core request) (is_inside core.world request) is in
    record { named = all.0; wanted = all.1; known = all.2; counts = all.3; slot = all.4; inside = all.5 }

and_second : (p q : Bool) → (p && q) ≡ true → q ≡ true
and_second true q h = h
and_second false q h = absurd (false≢true h)

-- one more call may be accepted
pub one_more_fits : (core : CoreView) (request : Request) → IsDue core request → length core.sent < 2 ^ 64 - 1
one_more_fits core request is = ltb-true (length core.sent) (2 ^ 64 - 1) (and_second (may_count core request) (may_send core) (tests_of core request is).counts)

-- ---- a call that isn't

module _ (core : CoreView) (request : Request) where
  -- what is known of the names and of what the call names, where it is refused for this fault
  pub tells : (fault : Fault) → judged core request ≡ refuses fault → Tells fault (is_named request) (is_known core.world.spans request)
  tells fault is = told_by (is_named request) (is_wanted_call core.rules request) (is_known core.world.spans request) (may_count core request && may_send core) (has_slot core request) (is_inside core.world request) fault is

  -- a core refuses no call by itself because of the outlet or memory
  pub never_late : (fault : Fault) → judged core request ≡ refuses fault → (fault ≢ Backlog) × (fault ≢ Memory)
  never_late fault is = (λ late. tells Backlog (is ∙ (λ j. refuses (late j))), λ late. tells Memory (is ∙ (λ j. refuses (late j))))

-- two calls that name nothing that is there are judged alike, where their names and their wishes are alike
pub judged_alike : (core : CoreView) (one other : Request) → is_named one ≡ is_named other → is_wanted_call core.rules one ≡ is_wanted_call core.rules other → is_known core.world.spans one ≡ false → is_known core.world.spans other ≡ false
    → judged core one ≡ judged core other
judged_alike core one other names wishes gone gone' =
    (λ j. by_tests (names j) (wishes j) (gone j) (may_count core one && may_send core) (has_slot core one) (is_inside core.world one))
    ∙ sym (λ j. by_tests (is_named other) (is_wanted_call core.rules other) (gone' j) (may_count core other && may_send core) (has_slot core other) (is_inside core.world other))

-- so they are refused alike
pub why_alike : (core : CoreView) (one other : Request) (fault : Fault) → judged core one ≡ judged core other → WhyRefused core one fault → WhyRefused core other fault
why_alike core one other Backlog same why = sym same ∙ why
why_alike core one other Memory same why = sym same ∙ why
why_alike core one other _ same why = sym same ∙ why

-- where a span isn't wanted, its names are names, and no rule admits it
pub unwanted_named : (old : CoreView) (request : Request) (new : CoreView) → IsNotWanted old request new → (is_named request ≡ true) × (is_wanted_call old.rules request ≡ false)
unwanted_named old request new call =
    one_fails (is_named request) (is_wanted_call old.rules request) (is_known old.world.spans request) (may_count old request && may_send old) (has_slot old request) (is_inside old.world request) call.not_wanted
