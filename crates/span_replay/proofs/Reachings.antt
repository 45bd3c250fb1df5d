-- The lines of a script that run with nothing written.
use Rattle.std.proofs.Common.{◌≡◌, ℕ, ◌+◌, true, false, List, [], ◌∷◌, refl, sym, ap, ◌∙◌, subst, Option, Some, None, Result, Ok, Err, IfErr, OnOk, arith}
use Rattle.std.specs.Prelude.{⊤, ◌==◌, option_and_then}
use Rattle.std.specs.Result.{result_ok}
use Rattle.serde_json.specs.Data.{Data}
use Rattle.span_replay.specs.Explained.{Reached, label_of, label_by, label_in, named_by, other_id, made_id, lines_after, reached_after, explained, turn_reached, why_run}
use Rattle.span_replay.specs.Meaning.{Turn, Transcript, faulty, at_stage, stage_after, turn_of, value_turn, line_turn}
use Rattle.span_replay.specs.State.{State}
use Rattle.span_replay.specs.inside.Ended.{fault_at}
use Rattle.span_replay.specs.inside.Reaching.{HasReached, Halts, EndsAt, HasEnded, KnowsWorkers, resumed_why}
use Rattle.span_replay.specs.inside.Running.{IsTurn, StopsAs}
use Rattle.span_replay.proofs.Callings.{line_calls, calls_run}
use Rattle.span_replay.proofs.LineTurns.{read_line}
use Rattle.span_replay.proofs.Setups.{value_does}
use Rattle.span_replay.specs.declared.run.fault.ReplayFault.{ReplayFault}
use Rattle.span_script.specs.Operation.{Operation, running, json_of, operation_of}
use Rattle.span_script.specs.Reason.{StopsFor}
use Rattle.span_script.specs.Script.{is_skipped, script_lines}
use Rattle.span_script.specs.declared.reason.Reason.{Reason}
use Rattle.span_script.specs.declared.stop.Stop.{Stop}
use Rattle.span_script.specs.declared.stop.Stop.TheVariants.{Memory, Refused}

-- ---- an operation

abbrev pub at_lines : State → List ℕ → Reached
at_lines state lines = record { state = state; lines = lines }

-- it ran, and the line that made a span was noted
pub operation_reached : (number : ℕ) (label : Option (List ℕ)) (meant : ℕ → Result Turn Reason) (old new : State) (lines lines' text text' : List ℕ) (before after made : Option ℕ)
    → ((hooks : ℕ) → IsTurn (meant hooks) text text' new)
    → before ≡ named_by old.labels label → after ≡ named_by new.labels label → made ≡ other_id before after → lines' ≡ lines_after number lines made
    → (hooks : ℕ) → HasReached number label (meant hooks) (at_lines old lines) (at_lines new lines')
operation_reached number label meant old new lines lines' text text' before after made ran b a m noted hooks =
    let turn = ran hooks in
    let same : made ≡ made_id old.labels new.labels label = m ∙ ap (λ x. other_id x after) b ∙ ap (other_id (named_by old.labels label)) a in
    record {
      turn = record { text = turn.added; state = new };
      is = turn.turn;
      left = ap (at_lines new) (noted ∙ ap (lines_after number lines) same);
    }

-- it didn't run
pub operation_stops : (meant : Result Turn Reason) (old new : State) (lines text text' : List ℕ) (stop : Stop) → StopsAs meant old text new text' stop → Halts meant (at_lines old lines) (at_lines new lines) stop
operation_stops meant old new lines text text' Memory p = tt
operation_stops meant old new lines text text' (Refused reason) p = (p.0, ap (λ s. at_lines s lines) p.1)

-- ---- the JSON value of a line

read_at : (workers : ℕ) (state : State) (line : Data) (op : Operation) → state.stage ≡ running → workers ≡ state.core.limits.workers → operation_of workers running line ≡ Ok op
    → operation_of state.core.limits.workers state.stage line ≡ Ok op
read_at workers state line op at same e =
    subst (λ stage. operation_of state.core.limits.workers stage line ≡ Ok op) (sym at) (subst (λ n. operation_of n running line ≡ Ok op) same e)

value_reaches : (hooks workers number : ℕ) (old new : Reached) (line : Data) (op : Operation) → old.state.stage ≡ running → new.state.stage ≡ running → workers ≡ old.state.core.limits.workers → operation_of workers running line ≡ Ok op
    → HasReached number (label_of op) (turn_of hooks old.state op) old new → HasReached number (label_by old.state line) (value_turn hooks old.state line) old new
value_reaches hooks workers number old new line op at at' same e p =
    let read = read_at workers old.state line op at same e in
    let stage : running ≡ p.turn.state.stage = sym at' ∙ ap (λ (r : Reached). r.state.stage) p.left in
    record {
      turn = p.turn;
      is = value_does hooks old.state line op read ∙ ap (at_stage (stage_after op)) p.is
          ∙ ap (λ s. Ok (record { text = p.turn.text; state = record p.turn.state { stage = s } })) (calls_run op (line_calls workers line op e) ∙ stage);
      left = p.left ∙ ap (λ l. reached_after number old l p.turn.state) (sym (ap (λ m. option_and_then label_of (result_ok m)) read));
    }

value_stops : (hooks workers : ℕ) (old new : Reached) (line : Data) (op : Operation) (stop : Stop) → old.state.stage ≡ running → workers ≡ old.state.core.limits.workers → operation_of workers running line ≡ Ok op
    → Halts (turn_of hooks old.state op) old new stop → Halts (value_turn hooks old.state line) old new stop
value_stops hooks workers old new line op Memory at same e p = tt
value_stops hooks workers old new line op (Refused reason) at same e p =
    (value_does hooks old.state line op (read_at workers old.state line op at same e) ∙ ap (at_stage (stage_after op)) p.0, p.1)

pub value_reached : (workers number : ℕ) (old new : Reached) (line : Data) (op : Operation) (r : Result ⊤ Stop) → old.state.stage ≡ running → new.state.stage ≡ running → workers ≡ old.state.core.limits.workers → operation_of workers running line ≡ Ok op
    → OnOk r ((hooks : ℕ) → HasReached number (label_of op) (turn_of hooks old.state op) old new) → OnOk r ((hooks : ℕ) → HasReached number (label_by old.state line) (value_turn hooks old.state line) old new)
value_reached workers number old new line op (Ok _) at at' same e p = λ hooks. value_reaches hooks workers number old new line op at at' same e (p hooks)
value_reached workers number old new line op (Err stop) at at' same e p = tt

pub value_halts : (workers : ℕ) (old new : Reached) (line : Data) (op : Operation) (r : Result ⊤ Stop) → old.state.stage ≡ running → workers ≡ old.state.core.limits.workers → operation_of workers running line ≡ Ok op
    → IfErr r (λ stop. (hooks : ℕ) → Halts (turn_of hooks old.state op) old new stop) → IfErr r (λ stop. (hooks : ℕ) → Halts (value_turn hooks old.state line) old new stop)
value_halts workers old new line op (Ok _) at same e p = tt
value_halts workers old new line op (Err stop) at same e p = λ hooks. value_stops hooks workers old new line op stop at same e (p hooks)

-- nothing has changed
pub halts_here : (meant : Result Turn Reason) (here : Reached) (stop : Stop) → StopsFor meant stop → Halts meant here here stop
halts_here meant here Memory p = tt
halts_here meant here (Refused reason) p = (p, refl)

-- ---- one line

pub line_reached : (number : ℕ) (state : State) (old new : Reached) (line : List ℕ) (value : Data) (r : Result ⊤ Stop) → is_skipped line ≡ false → json_of line ≡ Ok value
    → OnOk r ((hooks : ℕ) → HasReached number (label_by state value) (value_turn hooks state value) old new) → OnOk r ((hooks : ℕ) → HasReached number (label_in state line) (line_turn hooks state line) old new)
line_reached number state old new line value (Ok _) read e p = λ hooks.
    subst (λ meant. HasReached number (label_in state line) meant old new) (sym (read_line hooks state line value read e))
    (subst (λ label. HasReached number label (value_turn hooks state value) old new) (sym (ap (λ m. option_and_then (label_by state) (result_ok m)) e)) (p hooks))
line_reached number state old new line value (Err stop) read e p = tt

pub line_halts : (state : State) (old new : Reached) (line : List ℕ) (value : Data) (r : Result ⊤ Stop) → is_skipped line ≡ false → json_of line ≡ Ok value
    → IfErr r (λ stop. (hooks : ℕ) → Halts (value_turn hooks state value) old new stop) → IfErr r (λ stop. (hooks : ℕ) → Halts (line_turn hooks state line) old new stop)
line_halts state old new line value (Ok _) read e p = tt
line_halts state old new line value (Err stop) read e p = λ hooks. subst (λ meant. Halts meant old new stop) (sym (read_line hooks state line value read e)) (p hooks)

-- ---- lines one after another

pub why_more : (hooks number : ℕ) (about : Option (List ℕ)) (whole : Transcript) (old new : Reached) (rest line tail : List ℕ) → whole ≡ why_run hooks about number old (script_lines rest) → script_lines rest ≡ line ∷ script_lines tail
    → HasReached number (label_in old.state line) (line_turn hooks old.state line) old new → whole ≡ why_run hooks about (number + 1) new (script_lines tail)
unfolding why_run
why_more hooks number about whole old new rest line tail is cut p =
    is
    ∙ ap (why_run hooks about number old) cut
    ∙ ap (λ meant. turn_reached about number old (label_in old.state line) meant (λ after. why_run hooks about (number + 1) after (script_lines tail))) p.is
    ∙ ap (λ after. why_run hooks about (number + 1) after (script_lines tail)) (sym p.left)

pub same_id : (o : Option ℕ) → other_id o o ≡ None
same_id None = refl
same_id (Some id) = let e : (id == id) ≡ true = grind arith in rw e refl

-- a line that is skipped
pub skipped_reached : (hooks number : ℕ) (here : Reached) (line : List ℕ) → is_skipped line ≡ true → HasReached number (label_in here.state line) (line_turn hooks here.state line) here here
skipped_reached hooks number here line k = record {
  turn = record { text = []; state = here.state };
  is = rw k refl;
  left = ap (at_lines here.state) (ap (lines_after number here.lines) (sym (same_id (named_by here.state.labels (label_in here.state line)))));
}

pub why_ends : (hooks number : ℕ) (about : Option (List ℕ)) (whole : Transcript) (here : Reached) (rest : List ℕ) → whole ≡ why_run hooks about number here (script_lines rest) → rest ≡ [] → HasEnded whole about here
unfolding why_run script_lines
why_ends hooks number about whole here rest is none = is ∙ ap (λ r. why_run hooks about number here (script_lines r)) none

ends_at : (about : Option (List ℕ)) (number : ℕ) (whole : Transcript) (label : Option (List ℕ)) (meant : Result Turn Reason) (old new : Reached) (more : Reached → Transcript) (stop : Stop) → whole ≡ turn_reached about number old label meant more
    → Halts meant old new stop → EndsAt whole about new (fault_at number stop)
ends_at about number whole label meant old new more Memory is p = tt
ends_at about number whole label meant old new more (Refused reason) is p =
    is ∙ ap (λ m. turn_reached about number old label m more) p.0 ∙ ap (λ here. explained about here (faulty number reason)) (sym p.1)

pub value_fails : (about : Option (List ℕ)) (number : ℕ) (whole : Transcript) (label : Option (List ℕ)) (meant : Result Turn Reason) (old new : Reached) (more : Reached → Transcript) (stop : Stop) (fault : ReplayFault) → whole ≡ turn_reached about number old label meant more
    → Halts meant old new stop → fault ≡ fault_at number stop → EndsAt whole about new fault
value_fails about number whole label meant old new more stop fault is p e = subst (EndsAt whole about new) (sym e) (ends_at about number whole label meant old new more stop is p)

pub why_fails : (hooks number : ℕ) (about : Option (List ℕ)) (whole : Transcript) (old new : Reached) (rest line tail : List ℕ) (stop : Stop) (fault : ReplayFault) → whole ≡ why_run hooks about number old (script_lines rest) → script_lines rest ≡ line ∷ script_lines tail
    → Halts (line_turn hooks old.state line) old new stop → fault ≡ fault_at number stop → EndsAt whole about new fault
unfolding why_run
why_fails hooks number about whole old new rest line tail stop fault is cut p e =
    value_fails about number whole (label_in old.state line) (line_turn hooks old.state line) old new (λ after. why_run hooks about (number + 1) after (script_lines tail)) stop fault (is ∙ ap (why_run hooks about number old) cut) p e

-- ---- the first line, whose value was read already, and then the others

resumed_on : (hooks number : ℕ) (about : Option (List ℕ)) (old new : Reached) (value : Data) (lines : List ℕ) → HasReached number (label_by old.state value) (value_turn hooks old.state value) old new
    → resumed_why hooks about number old value lines ≡ why_run hooks about (number + 1) new (script_lines lines)
resumed_on hooks number about old new value lines p =
    ap (λ meant. turn_reached about number old (label_by old.state value) meant (λ after. why_run hooks about (number + 1) after (script_lines lines))) p.is
    ∙ ap (λ after. why_run hooks about (number + 1) after (script_lines lines)) (sym p.left)

pub rest_ended : (number : ℕ) (old new last : Reached) (value : Data) (lines : List ℕ) (r : Result ⊤ ReplayFault) → ((hooks : ℕ) → HasReached number (label_by old.state value) (value_turn hooks old.state value) old new)
    → OnOk r ((hooks : ℕ) (about : Option (List ℕ)) → HasEnded (why_run hooks about (number + 1) new (script_lines lines)) about last)
    → OnOk r ((hooks : ℕ) (about : Option (List ℕ)) → HasEnded (resumed_why hooks about number old value lines) about last)
rest_ended number old new last value lines (Ok _) p q = λ hooks about. resumed_on hooks number about old new value lines (p hooks) ∙ q hooks about
rest_ended number old new last value lines (Err fault) p q = tt

pub rest_ends : (number : ℕ) (old new last : Reached) (value : Data) (lines : List ℕ) (r : Result ⊤ ReplayFault) → ((hooks : ℕ) → HasReached number (label_by old.state value) (value_turn hooks old.state value) old new)
    → IfErr r (λ fault. (hooks : ℕ) (about : Option (List ℕ)) → EndsAt (why_run hooks about (number + 1) new (script_lines lines)) about last fault)
    → IfErr r (λ fault. (hooks : ℕ) (about : Option (List ℕ)) → EndsAt (resumed_why hooks about number old value lines) about last fault)
rest_ends number old new last value lines (Ok _) p q = tt
rest_ends number old new last value lines (Err fault) p q = λ hooks about. subst (λ whole. EndsAt whole about last fault) (sym (resumed_on hooks number about old new value lines (p hooks))) (q hooks about)

-- ---- the workers

knows_at : (meant : Result Turn Reason) (number : ℕ) (old new : Reached) (stop : Stop) (workers workers' : ℕ) → Halts meant old new stop → workers' ≡ workers → workers ≡ old.state.core.limits.workers → KnowsWorkers (fault_at number stop) workers' new
knows_at meant number old new Memory workers workers' p same known = tt
knows_at meant number old new (Refused reason) workers workers' p same known = same ∙ known ∙ ap (λ (r : Reached). r.state.core.limits.workers) (sym p.1)

pub knows : (meant : Result Turn Reason) (number : ℕ) (old new : Reached) (stop : Stop) (fault : ReplayFault) (workers workers' : ℕ) → Halts meant old new stop → fault ≡ fault_at number stop → workers' ≡ workers → workers ≡ old.state.core.limits.workers
    → KnowsWorkers fault workers' new
knows meant number old new stop fault workers workers' p e same known = subst (λ f. KnowsWorkers f workers' new) (sym e) (knows_at meant number old new stop workers workers' p same known)
