-- What is told of the spans that are open where a script's lines end.
use Rattle.std.proofs.Common.{◌≡◌, ℕ, ◌+◌, List, [], ◌∷◌, refl, sym, ap, ◌∙◌, subst, Option, Some, None, Result, Ok, Err, length, false, true, map, ◌++◌, ◌<◌, append_assoc, append-nil}
use Rattle.std.specs.Prelude.{option_and_then, IfOk}
use Rattle.std.specs.Result.{result_ok}
use Rattle.serde_json.specs.Data.{Data}
use Rattle.span_core.specs.Core.{CoreView}
use Rattle.span_replay.specs.Explained.{Reached, label_of, label_by, label_in, named_by, made_id, lines_after, open_spans_in, text_about, explained, turn_reached, why_run}
use Rattle.span_replay.specs.Labels.{Bound}
use Rattle.span_replay.specs.Meaning.{Turn, Transcript, finished, faulty, value_turn, line_turn}
use Rattle.span_replay.specs.State.{State}
use Rattle.span_replay.specs.declared.run.explained.Explained.{Explained}
use Rattle.span_replay.specs.inside.Reaching.{EndsAt, EndsAs, HasEnded, IsExplained, KnowsWorkers, SetsTo, text_of, resumed_why, begun_at}
use Rattle.span_replay.proofs.Reachings.{at_lines, why_more}
use Rattle.span_replay.proofs.Resumed.{staged, value_same}
use Rattle.span_replay.proofs.Stages.{same_at_each_stage}
use Rattle.span_replay.specs.declared.run.fault.ReplayFault.{ReplayFault}
use Rattle.span_replay.specs.declared.run.fault.ReplayFault.TheVariants.{Script}
use Rattle.span_replay.proofs.LineTurns.{read_line}
use Rattle.span_script.specs.Operation.{Stage, running, is_setup, json_of}
use Rattle.span_script.specs.Reason.{StopsFor}
use Rattle.span_script.specs.Script.{is_skipped, script_lines}
use Rattle.span_script.specs.declared.reason.Reason.{Reason}
use Rattle.span_script.specs.declared.stop.Stop.{Stop}
use Rattle.span_script.specs.declared.stop.Stop.TheVariants.{Refused}
use Rattle.span_why.specs.Why.{PlainOpenSpan, plain_open_span}
use Rattle.span_why.specs.declared.open_span.OpenSpan.{OpenSpan}
use Rattle.span_core.specs.Details.{PlainDetails, plain_details}
use Rattle.span_core.specs.declared.details.SpanDetails.{SpanDetails}
use Rattle.std.proofs.lemmas.List.{map-append}
use Rattle.std.proofs.lemmas.Option.{get_or_from_slice_get, slice_get-get_or}
use Rattle.std.specs.List.{slice_get}
use Rattle.std.specs.Prelude.{slice_index_or}

-- ---- the text

-- that of what is told, by the id that the label names
pub text_is : (reached : Reached) (about : Option (List ℕ)) (spans : List PlainOpenSpan) (id : Option ℕ) (text : List ℕ) → spans ≡ open_spans_in reached → id ≡ named_by reached.state.labels about → text ≡ text_of spans about id → text ≡ text_about reached about
text_is reached None spans id text told named is = is ∙ ap (λ s. text_of s None id) told
text_is reached (Some label) spans id text told named is = is ∙ ap (λ s. text_of s (Some label) id) told ∙ ap (text_of (open_spans_in reached) (Some label)) named

-- where no span is open and no label bound
pub nothing_text : (core : CoreView) (stage : Stage) (lines : List ℕ) (about : Option (List ℕ)) → core.world.spans ≡ [] → text_of [] about None ≡ text_about (at_lines (record { core = core; labels = []; stage = stage }) lines) about
nothing_text core stage lines None none = rw none refl
nothing_text core stage lines (Some label) none = rw none refl

-- ---- the end

-- all lines have run
pub explained_all : (meant : Transcript) (about : Option (List ℕ)) (reached : Reached) (e : Explained) (n : ℕ) → HasEnded meant about reached → n ≡ length reached.state.core.world.spans → e.text.items ≡ text_about reached about → e.ended ≡ Ok n → IsExplained meant e
explained_all meant about reached e n is many text ended = record {
  text_is = text ∙ sym (ap (λ (t : Transcript). t.text) is);
  ending_is = subst (EndsAs meant.ending) (sym ended) (ap (λ (t : Transcript). t.ending) is ∙ ap finished (sym many));
}

-- the script is at fault
pub explained_fault : (meant : Transcript) (about : Option (List ℕ)) (reached : Reached) (e : Explained) (number : ℕ) (reason : Reason) → meant ≡ explained about reached (faulty number reason) → e.text.items ≡ text_about reached about → e.ended ≡ Err (Script number reason)
    → IsExplained meant e
explained_fault meant about reached e number reason is text ended = record {
  text_is = text ∙ sym (ap (λ (t : Transcript). t.text) is);
  ending_is = subst (EndsAs meant.ending) (sym ended) (ap (λ (t : Transcript). t.ending) is);
}

-- ---- from the set-up on

-- the fault that ended the lines
pub fault_is : (meant : Transcript) (about : Option (List ℕ)) (reached : Reached) (fault : ReplayFault) (number : ℕ) (reason : Reason) → fault ≡ Script number reason → EndsAt meant about reached fault → meant ≡ explained about reached (faulty number reason)
fault_is meant about reached fault number reason e p = subst (EndsAt meant about reached) e p

same_label : (a b : Stage) (state : State) (value : Data) → is_setup value ≡ false → label_by (staged state a) value ≡ label_by (staged state b) value
same_label a b state value call = ap (λ m. option_and_then label_of (result_ok m)) (same_at_each_stage state.core.limits.workers a b value call)

same_told : (about : Option (List ℕ)) (number : ℕ) (a b : Stage) (state : State) (lines : List ℕ) (label : Option (List ℕ)) (meant : Result Turn Reason) (more : Reached → Transcript)
    → turn_reached about number (at_lines (staged state a) lines) label meant more ≡ turn_reached about number (at_lines (staged state b) lines) label meant more
same_told about number a b state lines label (Ok turn) more = refl
same_told None number a b state lines label (Err reason) more = refl
same_told (Some name) number a b state lines label (Err reason) more = refl

-- the first call does the same at each stage
pub resumed_same : (hooks number : ℕ) (about : Option (List ℕ)) (a b : Stage) (state : State) (lines : List ℕ) (value : Data) (rest : List ℕ) → is_setup value ≡ false
    → resumed_why hooks about number (at_lines (staged state a) lines) value rest ≡ resumed_why hooks about number (at_lines (staged state b) lines) value rest
resumed_same hooks number about a b state lines value rest call =
    let more : Reached → Transcript = λ new. why_run hooks about (number + 1) new (script_lines rest) in
    same_told about number a b state lines (label_by (staged state a) value) (value_turn hooks (staged state a) value) more
    ∙ ap (λ label. turn_reached about number (at_lines (staged state b) lines) label (value_turn hooks (staged state a) value) more) (same_label a b state value call)
    ∙ ap (λ meant. turn_reached about number (at_lines (staged state b) lines) (label_by (staged state b) value) meant more) (value_same hooks state a b value call)

-- ---- the answers of what runs the lines

pub all_explained : (r : Result Explained ReplayFault) (meant : ℕ → Transcript) (about : Option (List ℕ)) (state : Stage → Reached) (n : ℕ) → ((hooks : ℕ) → HasEnded (meant hooks) about (state running)) → n ≡ length (state running).state.core.world.spans
    → IfOk r (λ e. (stage : Stage) → e.text.items ≡ text_about (state stage) about) → IfOk r (λ e. e.ended ≡ Ok n) → IfOk r (λ e. (hooks : ℕ) → IsExplained (meant hooks) e)
all_explained (Ok e) meant about state n is many text ended = λ hooks. explained_all (meant hooks) about (state running) e n (is hooks) many (text running) ended
all_explained (Err fault) meant about state n is many text ended = tt

pub fault_explained : {told : ReplayFault} (r : Result Explained ReplayFault) (meant : ℕ → Transcript) (about : Option (List ℕ)) (state : Stage → Reached) (fault : ReplayFault) (number : ℕ) (reason : Reason) → fault ≡ Script number reason → ((hooks : ℕ) → EndsAt (meant hooks) about (state running) fault)
    → told ≡ Script number reason → IfOk r (λ e. (stage : Stage) → e.text.items ≡ text_about (state stage) about) → IfOk r (λ e. e.ended ≡ Err told) → IfOk r (λ e. (hooks : ℕ) → IsExplained (meant hooks) e)
fault_explained (Ok e) meant about state fault number reason is ends same text ended = λ hooks. explained_fault (meant hooks) about (state running) e number reason (fault_is (meant hooks) about (state running) fault number reason is (ends hooks)) (text running) (ended ∙ ap (λ f. Err f) same)
fault_explained (Err other) meant about state fault number reason is ends same text ended = tt

-- on a script of which no call has run
pub begun_explained : (r : Result Explained ReplayFault) (about : Option (List ℕ)) (number : ℕ) (core core' : CoreView) (labels : Bound) (lines : List ℕ) (value : Data) (rest : List ℕ) → is_setup value ≡ false → core' ≡ core → labels ≡ [] → lines ≡ []
    → IfOk r (λ e. (hooks : ℕ) → IsExplained (resumed_why hooks about number (at_lines (record { core = core'; labels = labels; stage = running }) lines) value rest) e)
    → IfOk r (λ e. (hooks : ℕ) (stage : Stage) → IsExplained (resumed_why hooks about number (begun_at core stage) value rest) e)
begun_explained (Ok e) about number core core' labels lines value rest call same none empty p = λ hooks stage.
    subst (λ meant. IsExplained meant e)
    (resumed_same hooks number about running stage (record { core = core'; labels = labels; stage = running }) lines value rest call
    ∙ (λ i. resumed_why hooks about number (at_lines (record { core = same i; labels = none i; stage = stage }) (empty i)) value rest))
    (p hooks)
begun_explained (Err fault) about number core core' labels lines value rest call same none empty p = tt

-- the stage is the one to which the first lines came
pub at_its_stage : (r : Result Explained ReplayFault) (about : Option (List ℕ)) (number : ℕ) (state : State) (value : Data) (rest : List ℕ)
    → IfOk r (λ e. (hooks : ℕ) (stage : Stage) → IsExplained (resumed_why hooks about number (begun_at state.core stage) value rest) e)
    → IfOk r (λ e. (hooks : ℕ) → IsExplained (resumed_why hooks about number (begun_at state.core state.stage) value rest) e)
at_its_stage (Ok e) about number state value rest p = λ hooks. p hooks state.stage
at_its_stage (Err fault) about number state value rest p = tt

-- ---- the lines before the first call

no_made : (label : Option (List ℕ)) → made_id [] [] label ≡ None
no_made None = refl
no_made (Some label) = refl

-- a line before the first call makes no span
pub set_up_more : (hooks hooks' number : ℕ) (about : Option (List ℕ)) (whole : Transcript) (old new : State) (rest line tail : List ℕ) → old.labels ≡ [] → new.labels ≡ [] → hooks' ≡ hooks → whole ≡ why_run hooks about number (at_lines old []) (script_lines rest)
    → script_lines rest ≡ line ∷ script_lines tail → SetsTo (line_turn hooks' old line) new → whole ≡ why_run hooks about (number + 1) (at_lines new []) (script_lines tail)
set_up_more hooks hooks' number about whole old new rest line tail o n same is cut p =
    why_more hooks number about whole (at_lines old []) (at_lines new []) rest line tail is cut (record {
      turn = record { text = p.text; state = new };
      is = ap (λ h. line_turn h old line) (sym same) ∙ p.is;
      left = ap (at_lines new) (sym (ap (λ b. lines_after number [] (made_id b new.labels (label_in old line))) o ∙ ap (λ a. lines_after number [] (made_id [] a (label_in old line))) n ∙ ap (lines_after number []) (no_made (label_in old line))));
    })

-- the first call's line was read, and it is still to be run
pub set_up_called : (r : Result Explained ReplayFault) (hooks hooks' number : ℕ) (about : Option (List ℕ)) (whole : Transcript) (old new : State) (rest line tail : List ℕ) (value : Data) → hooks' ≡ hooks → new ≡ old → whole ≡ why_run hooks about number (at_lines old []) (script_lines rest)
    → script_lines rest ≡ line ∷ script_lines tail → line_turn hooks' old line ≡ value_turn hooks' old value → label_in old line ≡ label_by old value
    → IfOk r (λ e. (h : ℕ) → IsExplained (resumed_why h about number (at_lines new []) value tail) e) → IfOk r (IsExplained whole)
unfolding why_run
set_up_called (Ok e) hooks hooks' number about whole old new rest line tail value same stays is cut turn label p =
    subst (λ meant. IsExplained meant e)
    (ap (λ s. resumed_why hooks about number (at_lines s []) value tail) stays
    ∙ sym (is ∙ ap (why_run hooks about number (at_lines old [])) cut
    ∙ ap (λ l. turn_reached about number (at_lines old []) l (line_turn hooks old line) (λ after. why_run hooks about (number + 1) after (script_lines tail))) label
    ∙ ap (λ meant. turn_reached about number (at_lines old []) (label_by old value) meant (λ after. why_run hooks about (number + 1) after (script_lines tail))) (ap (λ h. line_turn h old line) (sym same) ∙ turn ∙ ap (λ h. value_turn h old value) same)))
    (p hooks)
set_up_called (Err fault) hooks hooks' number about whole old new rest line tail value same stays is cut turn label p = tt

-- a line is at fault, before the first call
pub set_up_fault : {told : ReplayFault} (r : Result Explained ReplayFault) (hooks hooks' number : ℕ) (about : Option (List ℕ)) (whole : Transcript) (core : CoreView) (stage : Stage) (rest line tail : List ℕ) (reason : Reason) → core.world.spans ≡ [] → hooks' ≡ hooks
    → whole ≡ why_run hooks about number (at_lines (record { core = core; labels = []; stage = stage }) []) (script_lines rest) → script_lines rest ≡ line ∷ script_lines tail → line_turn hooks' (record { core = core; labels = []; stage = stage }) line ≡ Err reason
    → told ≡ Script number reason → IfOk r (λ e. e.text.items ≡ text_of [] about None) → IfOk r (λ e. e.ended ≡ Err told) → IfOk r (IsExplained whole)
unfolding why_run
set_up_fault (Ok e) hooks hooks' number about whole core stage rest line tail reason none same is cut fault told_as text ended =
    let here : Reached = at_lines (record { core = core; labels = []; stage = stage }) [] in
    explained_fault whole about here e number reason
    (is ∙ ap (why_run hooks about number here) cut
    ∙ ap (λ meant. turn_reached about number here (label_in here.state line) meant (λ after. why_run hooks about (number + 1) after (script_lines tail))) (ap (λ h. line_turn h here.state line) (sym same) ∙ fault))
    (text ∙ nothing_text core stage [] about none) (ended ∙ ap (λ f. Err f) told_as)
set_up_fault (Err other) hooks hooks' number about whole core stage rest line tail reason none same is cut fault told_as text ended = tt

-- no call came
pub set_up_ends : (r : Result Explained ReplayFault) (hooks number : ℕ) (about : Option (List ℕ)) (whole : Transcript) (core : CoreView) (stage : Stage) (rest : List ℕ) → core.world.spans ≡ [] → whole ≡ why_run hooks about number (at_lines (record { core = core; labels = []; stage = stage }) []) (script_lines rest) → rest ≡ []
    → IfOk r (λ e. e.text.items ≡ text_of [] about None) → IfOk r (λ e. e.ended ≡ Ok 0) → IfOk r (IsExplained whole)
unfolding why_run script_lines
set_up_ends (Ok e) hooks number about whole core stage rest none is empty text ended =
    let here : Reached = at_lines (record { core = core; labels = []; stage = stage }) [] in
    explained_all whole about here e 0 (is ∙ ap (λ r. why_run hooks about number here (script_lines r)) empty) (sym (ap length none)) (text ∙ nothing_text core stage [] about none) ended
set_up_ends (Err other) hooks number about whole core stage rest none is empty text ended = tt

pub skipped_set_up : (hooks : ℕ) (state : State) (line : List ℕ) → is_skipped line ≡ true → SetsTo (line_turn hooks state line) state
skipped_set_up hooks state line k = record { text = []; is = rw k refl }

pub refused_at : (meant : Result Turn Reason) (stop : Stop) (reason : Reason) → stop ≡ Refused reason → StopsFor meant stop → meant ≡ Err reason
refused_at meant stop reason e p = subst (StopsFor meant) e p

-- ---- a line before the first call

pub value_is_left : (hooks : ℕ) (state : State) (line : List ℕ) (value : Data) → json_of line ≡ Ok value → label_in state line ≡ label_by state value
value_is_left hooks state line value e = ap (λ m. option_and_then (label_by state) (result_ok m)) e

pub value_sets : (hooks : ℕ) (old new : State) (line text : List ℕ) (value : Data) → is_skipped line ≡ false → json_of line ≡ Ok value → value_turn hooks old value ≡ Ok (record { text = text; state = new }) → SetsTo (line_turn hooks old line) new
value_sets hooks old new line text value read e is = record { text = text; is = read_line hooks old line value read e ∙ is }

-- the same, for why the line was not run
pub stops_as : (meant meant' : Result Turn Reason) (stop : Stop) → meant ≡ meant' → StopsFor meant' stop → StopsFor meant stop
stops_as meant meant' stop same p = subst (λ m. StopsFor m stop) (sym same) p

-- ---- a place of a stack

pub entry_at : (stack : List ℕ) (place entry : ℕ) → slice_get stack place ≡ Some entry → slice_index_or stack place 0 ≡ entry
entry_at stack place entry e = get_or_from_slice_get stack place entry 0 e

pub some_entry : (stack : List ℕ) (place : ℕ) → place < length stack → slice_get stack place ≡ None → ⊥
some_entry stack place h e = let found = slice_get-get_or stack place 0 h in cc

-- ---- what is told, span by span

pub spans_begin : (F : PlainDetails → PlainOpenSpan) (details rest : List SpanDetails) (spans : List OpenSpan) (all : List PlainDetails) → spans ≡ [] → rest ≡ details → map plain_details details ≡ all → map plain_open_span spans ++ map F (map plain_details rest) ≡ map F all
spans_begin F details rest spans all none same is = (λ i. map plain_open_span (none i) ++ map F (map plain_details (same i))) ∙ ap (map F) is

pub spans_more : (F : PlainDetails → PlainOpenSpan) (one : SpanDetails) (rest rest' : List SpanDetails) (spans spans' : List OpenSpan) (span : OpenSpan) (all : List PlainOpenSpan) → rest ≡ one ∷ rest' → spans' ≡ spans ++ span ∷ [] → plain_open_span span ≡ F (plain_details one)
    → map plain_open_span spans ++ map F (map plain_details rest) ≡ all → map plain_open_span spans' ++ map F (map plain_details rest') ≡ all
spans_more F one rest rest' spans spans' span all cut pushed is so_far =
    ap (λ s. map plain_open_span s ++ map F (map plain_details rest')) pushed
    ∙ ap (λ s. s ++ map F (map plain_details rest')) (map-append plain_open_span spans (span ∷ []))
    ∙ append_assoc (map plain_open_span spans) (plain_open_span span ∷ []) (map F (map plain_details rest'))
    ∙ ap (λ t. map plain_open_span spans ++ t ∷ map F (map plain_details rest')) is
    ∙ ap (λ r. map plain_open_span spans ++ map F (map plain_details r)) (sym cut)
    ∙ so_far

pub spans_end : (F : PlainDetails → PlainOpenSpan) (rest : List SpanDetails) (spans : List OpenSpan) (all : List PlainOpenSpan) → rest ≡ [] → map plain_open_span spans ++ map F (map plain_details rest) ≡ all → map plain_open_span spans ≡ all
spans_end F rest spans all none so_far = sym (append-nil (map plain_open_span spans)) ∙ ap (λ r. map plain_open_span spans ++ map F (map plain_details r)) (sym none) ∙ so_far

-- the text about all that is told
pub explained_text : (r : Result Explained ReplayFault) (about : Option (List ℕ)) (reached : Stage → Reached) (spans shown : List OpenSpan) (id : Option ℕ) → shown ≡ spans → ((stage : Stage) → map plain_open_span spans ≡ open_spans_in (reached stage)) → ((stage : Stage) → id ≡ named_by (reached stage).state.labels about)
    → IfOk r (λ e. e.text.items ≡ text_of (map plain_open_span shown) about id) → IfOk r (λ e. (stage : Stage) → e.text.items ≡ text_about (reached stage) about)
explained_text (Ok e) about reached spans shown id same told named text = λ stage. text_is (reached stage) about (map plain_open_span shown) id e.text.items (ap (map plain_open_span) same ∙ told stage) (named stage) text
explained_text (Err fault) about reached spans shown id same told named text = tt

-- how many workers there are, after a fault of the script
pub script_knows : (fault : ReplayFault) (number : ℕ) (reason : Reason) (workers : ℕ) (reached : Reached) → fault ≡ Script number reason → KnowsWorkers fault workers reached → workers ≡ reached.state.core.limits.workers
script_knows fault number reason workers reached e p = subst (λ f. KnowsWorkers f workers reached) e p
