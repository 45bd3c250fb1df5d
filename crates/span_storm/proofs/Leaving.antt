-- A worker that has made whole rounds is inside no span: so nothing is left where all have.
use Rattle.std.proofs.Common.{◌≡◌, ◌≢◌, ℕ, zero, suc, ◌+◌, ◌*◌, ◌%◌, ◌<◌, List, [], ◌∷◌, ◌++◌, length, get_or, refl, sym, ap, ◌∙◌, subst, inl, inr, arith, length-append}
use Rattle.std.specs.Prelude.{Option, replicate, sum_by}
use Rattle.std.proofs.lemmas.Bool.{cases_lt, false≢true}
use Rattle.std.proofs.lemmas.Bool.Decides.{eqb_tells}
use Rattle.std.proofs.lemmas.List.{get_or-set_same, get_or-set_other, get_or-replicate, nil_from_length, same_from_push}
use Rattle.std.proofs.lemmas.List.Sums.{sum_by-cons}
use Rattle.span_id.specs.Meta.{PlainMeta}
use Rattle.span_id.specs.declared.limits.Limits.{Limits}
use Rattle.span_layers.specs.Filter.{Filter}
use Rattle.span_layers.specs.declared.form.Form.{Form}
use Rattle.span_outlet.specs.Request.{Request, new_span, clone_span, enter, exit, try_close, record_fields, event, Answer, made, cloned, entered, exited, released, recorded, told, worker_of}
use Rattle.span_outlet.specs.Batch.{PlainBatch}
use Rattle.span_core.specs.World.{World, stack_of, entries_in, empty_world}
use Rattle.span_core.specs.Step.{Changes}
use Rattle.span_core.specs.History.{issued, IsLegal}
use Rattle.span_core.specs.History.IsLegal.{none as no_call, more as one_call}
use Rattle.span_core.proofs.Steps.{answered}
use Rattle.span_core.proofs.LegalWorlds.{stacks_are}
use Rattle.span_core.proofs.Weights.{length-without_last}
use Rattle.span_history.specs.Own.{own}
use Rattle.span_history.proofs.Owning.{one_call_more, one_more_own}
use Rattle.span_registry.specs.declared.report.Report.{Report}
use Rattle.span_storm.specs.Storm.{AreOfRounds, IsCallOfRound, IsSpanOfRound, IsPlaceOfClose, IsStormEnd}
use Rattle.span_storm.specs.Storm.AreOfRounds.{none, more}
use Rattle.span_storm.specs.Storm.IsSpanOfRound.{job, step}
use Rattle.span_storm.specs.Storm.IsPlaceOfClose.{of_step, of_job}

-- A worker has so many entries after so many calls of its rounds: one from the third call of a round to the sixth, which
-- the seventh takes out.
record Stands (calls entries : ℕ) : Type 0 where
  before : calls % 9 < 3 → entries ≡ 0
  inside : 2 < calls % 9 → calls % 9 < 7 → entries ≡ 1
  after : 6 < calls % 9 → entries ≡ 0

nobody : (k : ℕ) → k ≡ 0 → Stands 0 k
nobody k is = record { before = λ _. is; inside = λ low high. absurd (omega (arith, low)); after = λ _. is }

-- a call that is neither the third of a round nor the seventh leaves the entries
still : (calls k k' : ℕ) → k' ≡ k → calls % 9 ≢ 2 → calls % 9 ≢ 6 → Stands calls k → Stands (calls + 1) k'
still calls k k' same third seventh stands = record {
  before = λ low. same ∙ elim (cases_lt (calls % 9) 3) [ inl first ↦ stands.before first | inr late ↦ stands.after (omega (arith, low, late, third)) ];
  inside = λ low high. same ∙ stands.inside (omega (arith, low, third)) (omega (arith, high, seventh));
  after = λ low. same ∙ stands.after (omega (arith, low, seventh));
}

entering : (calls k k' : ℕ) → k' ≡ k + 1 → calls % 9 ≡ 2 → Stands calls k → Stands (calls + 1) k'
entering calls k k' grown third stands =
    let out = stands.before (omega (arith, third)) in record {
      before = λ low. absurd (omega (arith, low, third));
      inside = λ low high. omega (arith, grown, out);
      after = λ low. absurd (omega (arith, low, third));
    }

leaving : (calls k k' : ℕ) → k' + 1 ≡ k → calls % 9 ≡ 6 → Stands calls k → Stands (calls + 1) k'
leaving calls k k' fewer seventh stands =
    let one = stands.inside (omega (arith, seventh)) (omega (arith, seventh)) in record {
      before = λ low. absurd (omega (arith, low, seventh));
      inside = λ low high. absurd (omega (arith, high, seventh));
      after = λ low. omega (arith, fewer, one);
    }

-- a round makes its spans in other places than the third and the seventh
made_elsewhere : (place : ℕ) (meta : PlainMeta) (parent : Option ℕ) → IsSpanOfRound place meta parent → (place ≢ 2) × (place ≢ 6)
made_elsewhere place meta parent (job first _ _) = (λ e. omega (arith, e, first), λ e. omega (arith, e, first))
made_elsewhere place meta parent (step fifth _) = (λ e. omega (arith, e, fifth), λ e. omega (arith, e, fifth))

closed_elsewhere : (place : ℕ) → IsPlaceOfClose place → (place ≢ 2) × (place ≢ 6)
closed_elsewhere place (of_step sixth) = (λ e. omega (arith, e, sixth), λ e. omega (arith, e, sixth))
closed_elsewhere place (of_job late) = (λ e. omega (arith, e, late), λ e. omega (arith, e, late))

-- the next call of a worker's rounds
stands_next : (rules : List Filter) (ids : List ℕ) (old new : World) (worker calls : ℕ) (request : Request) (answer : Answer)
    → worker_of request < length old.stacks → IsCallOfRound worker (calls % 9) request → Changes rules ids old request answer new
    → Stands calls (length (stack_of old (worker_of request))) → Stands (calls + 1) (length (stack_of new (worker_of request)))
stands_next rules ids old new worker calls (new_span who meta fields parent) (made id) within call h stands =
    let place = made_elsewhere (calls % 9) meta parent call.2 in still calls _ _ (ap (λ (w : World). length (stack_of w who)) h.after) place.0 place.1 stands
stands_next rules ids old new worker calls (clone_span who id) cloned within call h stands =
    still calls _ _ (ap (λ (w : World). length (stack_of w who)) h.after) (λ e. omega (arith, e, call.1)) (λ e. omega (arith, e, call.1)) stands
stands_next rules ids old new worker calls (enter who id) (entered first) within call h stands =
    entering calls _ _ (ap (λ (w : World). length (stack_of w who)) h.after ∙ ap length (get_or-set_same old.stacks who _ [] within) ∙ length-append (stack_of old who) (id ∷ [])) call.1 stands
stands_next rules ids old new worker calls (exit who id) (exited closed) within call h stands =
    let here = ap (λ (w : World). length (stack_of w who)) h.after ∙ ap length (get_or-set_same old.stacks who _ [] within) in
    leaving calls _ _ (ap (λ n. n + 1) here ∙ length-without_last (stack_of old who) id h.inside) call.1 stands
stands_next rules ids old new worker calls (try_close who id) (released closed) within call h stands =
    let place = closed_elsewhere (calls % 9) call.1 in still calls _ _ (ap (λ (w : World). length (stack_of w who)) h.after) place.0 place.1 stands
stands_next rules ids old new worker calls (event who meta message fields parent) told within call h stands =
    still calls _ _ (ap (λ (w : World). length (stack_of w who)) h.after) (λ e. omega (arith, e, call.1)) (λ e. omega (arith, e, call.1)) stands
stands_next rules ids old new worker calls (record_fields who id fields) answer within call h stands = absurd call
stands_next rules ids old new worker calls _ _ within call h stands = absurd (false≢true (answered h))

-- another worker's call
stack_stays : (rules : List Filter) (ids : List ℕ) (old new : World) (worker : ℕ) (request : Request) (answer : Answer)
    → worker ≢ worker_of request → Changes rules ids old request answer new → stack_of new worker ≡ stack_of old worker
stack_stays rules ids old new worker (new_span who meta fields parent) (made id) other h = ap (λ (w : World). stack_of w worker) h.after
stack_stays rules ids old new worker (clone_span who id) cloned other h = ap (λ (w : World). stack_of w worker) h.after
stack_stays rules ids old new worker (enter who id) (entered first) other h = ap (λ (w : World). stack_of w worker) h.after ∙ get_or-set_other old.stacks who worker _ [] other
stack_stays rules ids old new worker (exit who id) (exited closed) other h = ap (λ (w : World). stack_of w worker) h.after ∙ get_or-set_other old.stacks who worker _ [] other
stack_stays rules ids old new worker (try_close who id) (released closed) other h = ap (λ (w : World). stack_of w worker) h.after
stack_stays rules ids old new worker (record_fields who id fields) recorded other h = ap (λ (w : World). stack_of w worker) h.after
stack_stays rules ids old new worker (event who meta message fields parent) told other h = ap (λ (w : World). stack_of w worker) h.after
stack_stays rules ids old new worker _ _ other h = absurd (false≢true (answered h))

-- where the calls of a worker are of its rounds, the last one is the next after those before it
record IsNext (worker : ℕ) (before : List PlainBatch) (batch : PlainBatch) : Type 0 where
  first : AreOfRounds worker before
  call : IsCallOfRound worker (length before % 9) batch.request

last_of_rounds : (worker : ℕ) (calls before : List PlainBatch) (batch : PlainBatch) → calls ≡ before ++ batch ∷ [] → AreOfRounds worker calls → IsNext worker before batch
last_of_rounds worker [] before batch is none = absurd (omega (arith, ap length is, length-append before (batch ∷ [])))
last_of_rounds worker calls before batch is (more {before = earlier} last rounds call same) =
    let both = same_from_push earlier before last batch (sym same ∙ is) in record {
      first = subst (AreOfRounds worker) both.0 rounds;
      call = subst (λ (b : PlainBatch). IsCallOfRound worker (length before % 9) b.request) both.1
          (subst (λ (l : List PlainBatch). IsCallOfRound worker (length l % 9) last.request) both.0 call);
    }

-- a worker stands where its calls have brought it
stands_in_history : (rules : List Filter) (workers worker : ℕ) (history : List PlainBatch) (world : World)
    → worker < workers → IsLegal rules workers history world → AreOfRounds worker (own worker history)
    → Stands (length (own worker history)) (length (stack_of world worker))
stands_in_history rules workers worker [] world low no_call rounds = nobody _ (ap length (get_or-replicate workers worker [] [] low))
stands_in_history rules workers worker history new low (one_call {before} {old} batch legal did sent) rounds =
    elim (eqb_tells (worker_of batch.request) worker) [
      | inl mine ↦
          (let own_are : own worker history ≡ own worker before ++ batch ∷ [] = ap (own worker) sent ∙ one_more_own worker before batch mine.1 in
          let next = last_of_rounds worker (own worker history) (own worker before) batch own_are rounds in
          let stood = stands_in_history rules workers worker before old low legal next.first in
          let stood_so = subst (λ n. Stands (length (own worker before)) (length (stack_of old n))) (sym mine.1) stood in
          let stands = stands_next rules (issued before) old new worker (length (own worker before)) batch.request batch.answer did.within next.call did.changes stood_so in
          subst (λ n. Stands n (length (stack_of new worker))) (sym (ap length own_are ∙ length-append (own worker before) (batch ∷ [])))
          (subst (λ n. Stands (length (own worker before) + 1) (length (stack_of new n))) mine.1 stands))
      | inr other ↦
          (let own_are : own worker history ≡ own worker before = ap (own worker) sent ∙ (one_call_more (worker_of batch.request) before batch refl).others worker (λ e. other.1 (sym e)) in
          let stood = stands_in_history rules workers worker before old low legal (subst (AreOfRounds worker) own_are rounds) in
          let same = stack_stays rules (issued before) old new worker batch.request batch.answer (λ e. other.1 (sym e)) did.changes in
          subst (λ (l : List PlainBatch). Stands (length l) (length (stack_of new worker))) (sym own_are) (subst (λ (s : List ℕ). Stands (length (own worker before)) (length s)) (sym same) stood))
    ]

-- stacks without an entry are those of the empty world
all_empty : (stacks : List (List ℕ)) → ((worker : ℕ) → worker < length stacks → get_or stacks worker [] ≡ []) → stacks ≡ replicate (length stacks) []
all_empty [] each = refl
all_empty (stack ∷ stacks) each =
    ap (λ (s : List ℕ). s ∷ stacks) (each 0 (omega arith)) ∙ ap (λ (s : List (List ℕ)). [] ∷ s) (all_empty stacks (λ worker low. each (suc worker) (omega (arith, low))))

-- where each worker has made whole rounds, none is inside a span
nobody_inside : (rules : List Filter) (workers rounds : ℕ) (history : List PlainBatch) (world : World) → IsLegal rules workers history world
    → ((worker : ℕ) → worker < workers → length (own worker history) ≡ 9 * rounds) → ((worker : ℕ) → worker < workers → AreOfRounds worker (own worker history))
    → world.stacks ≡ (empty_world workers).stacks
nobody_inside rules workers rounds history world legal each are =
    let count = stacks_are rules workers history world legal in
    let empty : (worker : ℕ) → worker < length world.stacks → get_or world.stacks worker [] ≡ [] = λ worker below.
    (let low = subst (λ n. worker < n) count below in
    nil_from_length (stack_of world worker) ((stands_in_history rules workers worker history world low legal (are worker low)).before (omega (arith, each worker low)))) in
    all_empty world.stacks empty ∙ ap (λ (n : ℕ). (empty_world n).stacks) count

sum_of_none : (f : List ℕ → ℕ) (n : ℕ) → f [] ≡ 0 → sum_by f (replicate n []) ≡ 0
sum_of_none f zero empty = refl
sum_of_none f (suc n) empty = let rest = sum_of_none f n empty in sum_by-cons f [] (replicate n []) ∙ omega (arith, empty, rest)

no_entries : (workers : ℕ) → entries_in (empty_world workers).stacks ≡ 0
no_entries workers = sum_of_none _ workers refl

same_world : (world other : World) → world.spans ≡ other.spans → world.stacks ≡ other.stacks → world ≡ other
same_world world other spans stacks = ap (λ s. record world { spans = s }) spans ∙ ap (λ s. record other { stacks = s }) stacks

-- so no span is open, where none is with no handle and no entry
pub world_is_empty : (rules : List Filter) (workers rounds : ℕ) (history : List PlainBatch) (world : World) → IsLegal rules workers history world
    → ((worker : ℕ) → worker < workers → length (own worker history) ≡ 9 * rounds) → ((worker : ℕ) → worker < workers → AreOfRounds worker (own worker history))
    → (entries_in world.stacks ≡ 0 → world.spans ≡ []) → world ≡ empty_world workers
world_is_empty rules workers rounds history world legal each are emptied =
    let stacks = nobody_inside rules workers rounds history world legal each are in
    let spans = emptied (ap entries_in stacks ∙ no_entries workers) in
    same_world world (empty_world workers) spans stacks

-- what the report counts then
pub nothing_left : (limits : Limits) (rounds : ℕ) (rules : List Filter) (forms : List Form) (report : Report) → IsStormEnd limits rounds rules forms report → (report.entries ≡ 0) × (report.left ≡ 0)
nothing_left limits rounds rules forms report end = (
  end.report_is.counts.entries ∙ ap (λ (world : World). entries_in world.stacks) end.emptied ∙ no_entries limits.workers,
  end.report_is.counts.left ∙ ap (λ (world : World). length world.spans) end.emptied,
)
