-- What the parts of a step are, call by call.
use Rattle.std.proofs.Common.{◌≡◌, ℕ, Bool, true, false, not, List, refl, sym, subst}
use Rattle.span_id.specs.Ids.{has}
use Rattle.span_layers.specs.Filter.{Filter}
use Rattle.span_forest.specs.declared.span.Holder.TheVariants.{Handle}
use Rattle.span_forest.specs.Release.{closing_list}
use Rattle.span_outlet.specs.Request.{Request, new_span, clone_span, enter, exit, try_close, record_fields, event, Answer, made, cloned, entered, exited, released, recorded, told}
use Rattle.span_core.specs.World.{World, stack_of}
use Rattle.span_core.specs.Step.{Changes, answer_to, closed_by_exit}

-- an answer is one to this call
abbrev pub is_answer_to : Request → Answer → Bool
is_answer_to (new_span worker meta fields parent) (made id) = true
is_answer_to (clone_span worker id) cloned = true
is_answer_to (enter worker id) (entered first) = true
is_answer_to (exit worker id) (exited closed) = true
is_answer_to (try_close worker id) (released closed) = true
is_answer_to (record_fields worker id fields) recorded = true
is_answer_to (event worker meta message fields parent) told = true
is_answer_to _ _ = false

own_answer : (old : World) (id : ℕ) (request : Request) → is_answer_to request (answer_to old id request) ≡ true
own_answer old id (new_span worker meta fields parent) = refl
own_answer old id (clone_span worker held) = refl
own_answer old id (enter worker held) = refl
own_answer old id (exit worker left) = refl
own_answer old id (try_close worker held) = refl
own_answer old id (record_fields worker held fields) = refl
own_answer old id (event worker meta message fields parent) = refl

-- no other pairs of call and answer are given
pub answered : {rules : List Filter} {ids : List ℕ} {old : World} {request : Request} {answer : Answer} {new : World} → Changes rules ids old request answer new → is_answer_to request answer ≡ true
answered {rules} {ids} {old} {request} {answer} {new} h = subst (λ (a : Answer). is_answer_to request a ≡ true) (sym h.answer_is) (own_answer old h.id request)

-- an entry is answered by whether it is no duplicate
pub first_is : {rules : List Filter} {ids : List ℕ} {old : World} {worker id : ℕ} {first : Bool} {new : World} → Changes rules ids old (enter worker id) (entered first) new → first ≡ not (has (stack_of old worker) id)
first_is h = let same = h.answer_is in cc

-- an exit and a release are answered by the spans that close
pub exit_closes : {rules : List Filter} {ids : List ℕ} {old : World} {worker id : ℕ} {closed : List ℕ} {new : World} → Changes rules ids old (exit worker id) (exited closed) new → closed ≡ closed_by_exit old worker id
exit_closes h = let same = h.answer_is in cc

pub release_closes : {rules : List Filter} {ids : List ℕ} {old : World} {worker id : ℕ} {closed : List ℕ} {new : World} → Changes rules ids old (try_close worker id) (released closed) new → closed ≡ closing_list old.spans id Handle
release_closes h = let same = h.answer_is in cc
