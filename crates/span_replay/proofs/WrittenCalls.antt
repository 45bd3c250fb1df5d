-- What is written for a call: the lines that the history has more of, and the answer.
use Rattle.std.proofs.Common.{◌≡◌, ℕ, ◌+◌, ◌<◌, ◌≤◌, Bool, if◌then◌else◌, List, [], ◌∷◌, ◌++◌, length, drop, get_or, flat_map, Option, Result, Ok, Err, refl, sym, ap, subst, ◌∙◌, arith, append_assoc, append-nil, length-append, ◌-◌, map}
use Rattle.std.specs.Prelude.{IfErr, OnOk, ⊤}
use Rattle.std.proofs.lemmas.List.{drop_more, drop_all}
use Rattle.std.specs.List.{enumerate_from}
use Rattle.span_id.specs.declared.limits.Limits.{Limits}
use Rattle.span_layers.specs.declared.form.Form.{Form}
use Rattle.span_outlet.specs.Batch.{PlainBatch}
use Rattle.span_core.specs.Core.{CoreView}
use Rattle.span_outlet.specs.Lines.{PlainLine, plain_line, lines_of_batch}
use Rattle.span_outlet.specs.Latest.{lines_from, last_lines}
use Rattle.span_outlet.specs.declared.line.Line.{Line}
use Rattle.span_outlet.specs.Request as call
use Rattle.span_core.specs.Outcome.{Outcome, refused, not_wanted, accepted, outcome}
use Rattle.span_replay.specs.Answer.{answer_text}
use Rattle.span_replay.specs.inside.Calls.{IsMade}
use Rattle.span_replay.specs.Faults.{parent_of_key, is_taken}
use Rattle.span_replay.specs.Meaning.{Turn, call_turn, made_turn, labels_after, new_turn, turn_of}
use Rattle.span_script.specs.Operation.{NewSpan, Operation, Parent}
use Rattle.span_script.specs.Reason.{◌>>=◌}
use Rattle.span_replay.specs.Requests.{request_of_new}
use Rattle.span_stack.specs.Stack.{current}
use Rattle.span_core.specs.World.{stack_of}
use Rattle.span_core.proofs.OutcomeCases.{by_outcome}
use Rattle.span_script.specs.declared.reason.Reason.TheVariants.{LabelTaken}
use Rattle.span_replay.specs.inside.Running.{StopsAs, RunsAs, IsWrittenCall, IsWritten, core_in}
use Rattle.span_replay.specs.inside.Sending.{IsAtMostOneMore}
use Rattle.span_replay.specs.State.{State}
use Rattle.span_replay.specs.Written.{answer_for, note_line, outcome_text, core_left, call_written}
use Rattle.span_replay.specs.declared.run.answer.Answer.{Answer}
use Rattle.span_script.specs.declared.reason.Reason.{Reason}
use Rattle.span_replay.specs.declared.run.script.Script.{Script}
use Rattle.span_script.specs.declared.stop.Stop.{Stop}
use Rattle.span_script.specs.declared.stop.Stop.TheVariants.{Memory}

-- ---- the lines of one batch more

dropped : {A : Type 0} (xs ys : List A) → drop (length xs) (xs ++ ys) ≡ ys
dropped [] ys = refl
dropped (x ∷ xs) ys = dropped xs ys

all_dropped : {A : Type 0} (xs : List A) → drop (length xs) xs ≡ []
all_dropped [] = refl
all_dropped (x ∷ xs) = all_dropped xs

no_lines : (forms : List Form) (sent : List PlainBatch) → lines_from forms (length sent) sent ≡ []
no_lines forms sent = ap (λ batches. flat_map (lines_of_batch forms) (enumerate_from (length sent) batches)) (all_dropped sent)

pub lines_more : (forms : List Form) (sent : List PlainBatch) (batch : PlainBatch) → lines_from forms (length sent) (sent ++ batch ∷ []) ≡ lines_of_batch forms (length sent, batch)
lines_more forms sent batch =
    ap (λ batches. flat_map (lines_of_batch forms) (enumerate_from (length sent) batches)) (dropped sent (batch ∷ [])) ∙ append-nil (lines_of_batch forms (length sent, batch))

one_enough : (sent : List PlainBatch) (batch : PlainBatch) → length sent ≤ length (sent ++ batch ∷ [])
one_enough sent batch = let longer = length-append sent (batch ∷ []) in omega (arith, longer)

one_most : (sent : List PlainBatch) (batch : PlainBatch) → length (sent ++ batch ∷ []) ≤ length sent + 1
one_most sent batch = let longer = length-append sent (batch ∷ []) in omega (arith, longer)

-- ---- the lines after a call

-- the lines that a core has more than another, to which so many batches were sent
abbrev lines_after : ℕ → CoreView → List PlainLine
lines_after written core = lines_from core.forms written core.sent

-- the lines that the outcome of a call adds
abbrev added_lines : CoreView → call.Request → Outcome → List PlainLine
added_lines core request (refused fault) = []
added_lines core request not_wanted = []
added_lines core request (accepted answer notes new) = lines_of_batch core.forms (length core.sent, record { request = request; answer = answer; notes = notes })

-- the core that is left has those lines more, of one batch at the most
pub record Adds (core : CoreView) (request : call.Request) (o : Outcome) : Type 0 where
  pub lines : lines_after (length core.sent) (core_left core o) ≡ added_lines core request o
  pub enough : length core.sent ≤ length (core_left core o).sent
  pub most : length (core_left core o).sent ≤ length core.sent + 1

outcome_adds : (core : CoreView) (request : call.Request) → Adds core request (outcome core request)
outcome_adds core request =
    by_outcome (λ o. Adds core request o) core request
    (λ fault. record { lines = no_lines core.forms core.sent; enough = omega arith; most = omega arith })
    (record { lines = no_lines core.forms core.sent; enough = omega arith; most = omega arith })
    (λ due. record { lines = lines_more core.forms core.sent _; enough = one_enough core.sent _; most = one_most core.sent _ })

-- the text of a call is that of the lines that it adds, and then its answer
call_text : (core : CoreView) (request : call.Request) (o : Outcome) → outcome_text core request o ≡ flat_map note_line (added_lines core request o) ++ answer_text (answer_for o)
call_text core request (refused fault) = refl
call_text core request not_wanted = refl
call_text core request (accepted answer notes new) = refl

-- what is written for a call that was made, where the lines of all batches before it were written
pub made_text : (old : CoreView) (request : call.Request) (answer : Answer) (new : CoreView) (written : ℕ) → IsMade old request answer new → written ≡ length old.sent
    → flat_map note_line (lines_after written new) ++ answer_text answer ≡ (call_written old request).text
made_text old request answer new written made all =
    (λ i. flat_map note_line (new_lines i) ++ answer_text (made.answer_is i)) ∙ sym (call_text old request (outcome old request))
  where
    new_lines : lines_after written new ≡ added_lines old request (outcome old request)
    new_lines = let adds = outcome_adds old request in (λ i. lines_after (all i) (made.core_is i)) ∙ adds.lines

pub made_enough : (old : CoreView) (request : call.Request) (answer : Answer) (new : CoreView) (written : ℕ) → IsMade old request answer new → written ≡ length old.sent
    → IsAtMostOneMore written new.sent
made_enough old request answer new written made all =
    let adds = outcome_adds old request in let enough = adds.enough in let most = adds.most in
    let are : length new.sent ≡ length (core_left old (outcome old request)).sent = ap (λ (core : CoreView). length core.sent) made.core_is in
    record { enough = omega (arith, all, enough, are); most = omega (arith, all, most, are) }

-- ---- what is ensured of a call

pub written_call : (result : Result ⊤ Stop) (old : CoreView) (request : call.Request) (answer : Answer) (mid new : CoreView) (written : ℕ) (text text' : List ℕ)
    → IsMade old request answer mid → written ≡ length old.sent → new ≡ mid
    → OnOk result (text' ≡ text ++ (flat_map note_line (lines_after written mid) ++ answer_text answer))
    → OnOk result (IsWrittenCall old text request new text')
written_call (Ok _) old request answer mid new written text text' made all same is =
    record { core = same ∙ made.core_is; text_is = is ∙ ap (λ added. text ++ added) (made_text old request answer mid written made all) }
written_call (Err stop) old request answer mid new written text text' made all same is = tt

-- where memory is wanted, it is that that stops the run
pub stops : (meant : Result Turn Reason) (old new : State) (text text' : List ℕ) (stop : Stop) → stop ≡ Memory → StopsAs meant old text new text' stop
stops meant old new text text' stop is = subst (StopsAs meant old text new text') (sym is) tt

pub turn_made : (result : Result ⊤ Stop) (meant : Result Turn Reason) (state new : State) (request : call.Request) (answer : Answer) (mid : CoreView) (written : ℕ) (text text' : List ℕ)
    → meant ≡ Ok (call_turn state request)
    → IsMade state.core request answer mid → written ≡ length state.core.sent
    → new ≡ record state { core = mid }
    → OnOk result (text' ≡ text ++ (flat_map note_line (lines_after written mid) ++ answer_text answer))
    → IfErr result (λ stop. stop ≡ Memory)
    → RunsAs meant state text new text' result
turn_made (Ok _) meant state new request answer mid written text text' is made all same text_is memory = record {
  added = (call_written state.core request).text;
  text = text_is ∙ ap (λ added. text ++ added) (made_text state.core request answer mid written made all);
  turn = is ∙ ap (λ (after : State). Ok (record { text = (call_written state.core request).text; state = after })) (sym (same ∙ ap (λ core. record state { core = core }) made.core_is));
}
turn_made (Err stop) meant state new request answer mid written text text' is made all same text_is memory = stops meant state new text text' stop memory

-- ---- a new span

pub turn_new : (result : Result ⊤ Stop) (meant : Result Turn Reason) (state new : State) (label : List ℕ) (request : call.Request) (answer : Answer) (mid : CoreView) (written : ℕ) (text text' : List ℕ)
    → meant ≡ Ok (made_turn state label request)
    → IsMade state.core request answer mid → written ≡ length state.core.sent
    → new ≡ record state { core = mid; labels = labels_after state.labels label answer }
    → OnOk result (text' ≡ text ++ (flat_map note_line (lines_after written mid) ++ answer_text answer))
    → IfErr result (λ stop. stop ≡ Memory)
    → RunsAs meant state text new text' result
turn_new (Ok _) meant state new label request answer mid written text text' is made all same text_is memory = record {
  added = (call_written state.core request).text;
  text = text_is ∙ ap (λ added. text ++ added) (made_text state.core request answer mid written made all);
  turn = is ∙ ap (λ (after : State). Ok (record { text = (call_written state.core request).text; state = after }))
      (sym (same ∙ (λ i. record state { core = made.core_is i; labels = labels i })));
}
  where
    labels : labels_after state.labels label answer ≡ labels_after state.labels label (answer_for (outcome state.core request))
    labels = ap (labels_after state.labels label) made.answer_is
turn_new (Err stop) meant state new label request answer mid written text text' is made all same text_is memory = stops meant state new text text' stop memory

-- ---- the outlet's lines

-- one line more is written, of those that are left
pub note_more : (lines : List Line) (at : ℕ) (line : Line) (text text' whole : List ℕ) → at < length lines → line ≡ get_or lines at line → text' ≡ text ++ note_line (plain_line line)
    → text ++ flat_map note_line (map plain_line (drop at lines)) ≡ whole → text' ++ flat_map note_line (map plain_line (drop (at + 1) lines)) ≡ whole
note_more lines at line text text' whole low is wrote so_far =
    let left : drop at lines ≡ line ∷ drop (at + 1) lines = drop_more lines at line low ∙ ap (λ x. x ∷ drop (at + 1) lines) (sym is) in
    ap (λ x. x ++ flat_map note_line (map plain_line (drop (at + 1) lines))) wrote
    ∙ append_assoc text (note_line (plain_line line)) (flat_map note_line (map plain_line (drop (at + 1) lines)))
    ∙ ap (λ rest. text ++ flat_map note_line (map plain_line rest)) (sym left)
    ∙ so_far

-- all lines are written
pub all_written : (lines : List Line) (sent : List PlainBatch) (forms : List Form) (refusals number written at : ℕ) (text text' : List ℕ)
    → refusals ≡ 0 → (refusals ≡ 0 → map plain_line lines ≡ last_lines forms sent)
    → number ≡ length sent → IsAtMostOneMore written sent → (number ≡ written → ⊥)
    → length lines ≤ at
    → text' ++ flat_map note_line (map plain_line (drop at lines)) ≡ text ++ flat_map note_line (map plain_line lines)
    → text' ≡ text ++ flat_map note_line (lines_from forms written sent)
all_written lines sent forms refusals number written at text text' none whole number_is more other ended wrote =
    let enough = more.enough in let most = more.most in
    let last : length sent - 1 ≡ written = last_is (length sent) written enough most (λ same. other (number_is ∙ same)) in
    sym (append-nil text')
    ∙ ap (λ rest. text' ++ flat_map note_line (map plain_line rest)) (sym (drop_all at lines ended))
    ∙ wrote
    ∙ ap (λ rest. text ++ flat_map note_line rest) (whole none ∙ ap (λ n. lines_from forms n sent) last)
  where
    last_is : (n written : ℕ) → written ≤ n → n ≤ written + 1 → (n ≡ written → ⊥) → n - 1 ≡ written
    last_is n written enough most other = omega (arith, enough, most, other)

-- there is no batch more
pub none_written : (sent : List PlainBatch) (forms : List Form) (number written : ℕ) (text text' : List ℕ) → number ≡ length sent → number ≡ written → text' ≡ text
    → text' ≡ text ++ flat_map note_line (lines_from forms written sent)
none_written sent forms number written text text' number_is same kept =
    kept ∙ sym (append-nil text) ∙ ap (λ rest. text ++ flat_map note_line rest) (sym (no_lines forms sent)) ∙ ap (λ n. text ++ flat_map note_line (lines_from forms n sent)) (sym number_is ∙ same)

-- ---- between two calls

kept_limits : (core : CoreView) (request : call.Request) → (core_left core (outcome core request)).limits ≡ core.limits
kept_limits core request =
    by_outcome (λ o. (core_left core o).limits ≡ core.limits) core request (λ fault. refl) refl (λ due. refl)

-- the number of the workers is still that of the limits
pub same_workers : (old : CoreView) (request : call.Request) (answer : Answer) (mid new : CoreView) (workers workers' : ℕ)
    → IsMade old request answer mid → new ≡ mid → workers ≡ old.limits.workers → workers' ≡ workers → workers' ≡ new.limits.workers
same_workers old request answer mid new workers workers' made same are more =
    more ∙ are ∙ sym (ap (λ (core : CoreView). core.limits.workers) (same ∙ made.core_is) ∙ ap (λ (limits : Limits). limits.workers) (kept_limits old request))

-- the call is made by the worker that is meant
pub made_by : (calls : ℕ → call.Request) (worker meant : ℕ) (old : CoreView) (answer : Answer) (new : CoreView) → worker ≡ meant → IsMade old (calls worker) answer new → IsMade old (calls meant) answer new
made_by calls worker meant old answer new same made = subst (λ w. IsMade old (calls w) answer new) same made

-- all lines are written after a call's answer
pub still_written : {V A : _} (result : Result ⊤ Stop) (script : Script V A) (old : CoreView) (request : call.Request) (answer : Answer) (mid : CoreView) (workers : ℕ)
    → IsMade old request answer mid → core_in script ≡ mid → workers ≡ old.limits.workers → 1 ≤ workers → OnOk result (script.written ≡ length mid.sent) → script.workers ≡ workers
    → OnOk result (IsWritten script)
still_written (Ok _) script old request answer mid workers made same are some lines more = record {
  lines = lines ∙ sym (ap (λ (core : CoreView). length core.sent) same);
  workers = same_workers old request answer mid (core_in script) workers script.workers made same are more;
  some = omega (arith, some, more);
}
still_written (Err stop) script old request answer mid workers made same are some lines more = tt

-- ---- a new span's line

abbrev parent_meant : State → ℕ → Parent → Result (Option ℕ) Reason
parent_meant state worker parent = parent_of_key state.labels (current (stack_of state.core.world worker)) parent

abbrev free : Bool → Result ⊤ Reason
free taken = if taken then Err LabelTaken else Ok tt

abbrev when_free : State → NewSpan → Option ℕ → Bool → Result Turn Reason
when_free state new parent taken = free taken >>= λ _. Ok (made_turn state new.label (request_of_new new parent))

abbrev when_found : State → NewSpan → Result (Option ℕ) Reason → Result Turn Reason
when_found state new found = found >>= λ parent. when_free state new parent (is_taken state.core.world.spans state.labels new.label)

new_turn_is : (state : State) (new : NewSpan) (worker : ℕ) → worker ≡ new.worker → new_turn state new ≡ when_found state new (parent_meant state worker new.parent)
unfolding new_turn
new_turn_is state new worker same = ap (λ w. when_found state new (parent_meant state w new.parent)) (sym same)

pub no_parent : (state : State) (new : NewSpan) (worker : ℕ) (reason : Reason) → worker ≡ new.worker → parent_meant state worker new.parent ≡ Err reason
    → new_turn state new ≡ Err reason
no_parent state new worker reason same found = new_turn_is state new worker same ∙ ap (when_found state new) found

pub new_is : (state : State) (new : NewSpan) (worker : ℕ) (parent : Option ℕ) (taken tested : Bool) → worker ≡ new.worker → parent_meant state worker new.parent ≡ Ok parent
    → taken ≡ is_taken state.core.world.spans state.labels new.label → taken ≡ tested
    → new_turn state new ≡ when_free state new parent tested
new_is state new worker parent taken tested same found is test =
    new_turn_is state new worker same ∙ ap (when_found state new) found ∙ ap (when_free state new parent) (sym is ∙ test)

-- the core that is left may be named otherwise
pub made_core : (old : CoreView) (request : call.Request) (answer : Answer) (mid new : CoreView) → new ≡ mid → IsMade old request answer mid → IsMade old request answer new
made_core old request answer mid new same made = subst (λ core. IsMade old request answer core) (sym same) made

-- what is meant is the same
pub turn_as : (meant same : Result Turn Reason) (state new : State) (text text' : List ℕ) (result : Result ⊤ Stop) → meant ≡ same → RunsAs same state text new text' result → RunsAs meant state text new text' result
turn_as meant same state new text text' result is runs = subst (λ m. RunsAs m state text new text' result) (sym is) runs

-- what is meant is what the operation asks for
pub runs_by : (asked operation : Operation) (hooks : ℕ) (state new : State) (text text' : List ℕ) (result : Result ⊤ Stop) → operation ≡ asked
    → RunsAs (turn_of hooks state asked) state text new text' result → RunsAs (turn_of hooks state operation) state text new text' result
runs_by asked operation hooks state new text text' result is runs = subst (λ op. RunsAs (turn_of hooks state op) state text new text' result) (sym is) runs
