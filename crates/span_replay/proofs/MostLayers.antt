-- A script means the same, however many layers more than 64 there may be.
use Rattle.std.proofs.Common.{◌≡◌, ℕ, ◌+◌, ◌≤◌, ◌&&◌, Bool, true, false, List, Option, [], ◌∷◌, length, refl, ap, ◌∙◌, subst, arith, cond, min, Some, None, IfOk, IfSome, Result, Ok, Err}
use Rattle.std.proofs.lemmas.Bool.{ltb-true, ltb-false}
use Rattle.std.specs.Prelude.{nat_lt, nat_le}
use Rattle.std.specs.Io.KnownBytes.{Appends}
use Rattle.serde_json.specs.Data.{Data}
use Rattle.span_replay.specs.Meaning.{Turn, Transcript, transcript_after, at_stage, stage_after, layer_turn, turn_of, value_turn, read_turn, line_turn, turn_then, faulty, run, meaning}
use Rattle.span_replay.specs.Explained.{Reached, first_reached, label_in, reached_after, turn_reached, why_run}
use Rattle.span_replay.specs.inside.Reaching.{IsExplained}
use Rattle.span_replay.specs.declared.run.explained.Explained.{Explained}
use Rattle.span_replay.specs.Replayed.{FlushesOnce, IsReplayed, IsWrittenWhole, Runs}
use Rattle.span_replay.specs.State.{State, first_state}
use Rattle.span_replay.proofs.Flushes.{once_for}
use Rattle.span_replay.specs.declared.run.fault.ReplayFault.{ReplayFault}
use Rattle.span_run.proofs.Fronts.{Known}
use Rattle.span_run.specs.declared.counted.Counted.{Counted}
use Rattle.span_script.specs.Operation.{NewLayer, Operation, set_limits, add_layer, make, on_span, record_fields, tell, find, json_of, operation_of}
use Rattle.span_script.specs.Reason.{◌>>=◌}
use Rattle.span_script.specs.Script.{script_lines, most_bytes, is_skipped}
use Rattle.span_script.specs.declared.reason.Reason.{Reason}
use Rattle.span_script.specs.declared.reason.Reason.TheVariants.{TooLong}

both_hold : (n h k : ℕ) (a b c : Bool) → nat_lt n 64 ≡ a → nat_lt n h ≡ b → nat_lt n k ≡ c → 64 ≤ h → 64 ≤ k → (a && b) ≡ (a && c)
both_hold n h k false b c is low low' many many' = refl
both_hold n h k true true true is low low' many many' = refl
both_hold n h k true false false is low low' many many' = refl
both_hold n h k true true false is low low' many many' =
    let few = ltb-true n 64 is in
    let no = ltb-false n k low' in
    absurd (omega arith)
both_hold n h k true false true is low low' many many' =
    let few = ltb-true n 64 is in
    let no = ltb-false n h low in
    absurd (omega arith)

layer_same : (h k : ℕ) → 64 ≤ h → 64 ≤ k → (state : State) (layer : NewLayer) → layer_turn h state layer ≡ layer_turn k state layer
layer_same h k many many' state layer =
    let n = length state.core.rules in
    rw (both_hold n h k (nat_lt n 64) (nat_lt n h) (nat_lt n k) refl refl refl many many') refl

turn_same : (h k : ℕ) → 64 ≤ h → 64 ≤ k → (state : State) (op : Operation) → turn_of h state op ≡ turn_of k state op
turn_same h k many many' state (set_limits limits) = refl
turn_same h k many many' state (add_layer layer) = ap (λ turn. Ok turn) (layer_same h k many many' state layer)
turn_same h k many many' state (make new) = refl
turn_same h k many many' state (on_span call key worker) = refl
turn_same h k many many' state (record_fields key fields worker) = refl
turn_same h k many many' state (tell event) = refl
turn_same h k many many' state (find key) = refl

bind_same : {A : Type 0} → (r : Result A Reason) (f g : A → Result Turn Reason) → ((a : A) → f a ≡ g a) → (r >>= f) ≡ (r >>= g)
bind_same (Ok a) f g same = same a
bind_same (Err reason) f g same = refl

value_same : (h k : ℕ) → 64 ≤ h → 64 ≤ k → (state : State) (value : Data) → value_turn h state value ≡ value_turn k state value
unfolding value_turn
value_same h k many many' state value =
    bind_same (operation_of state.core.limits.workers state.stage value) _ _ (λ op. ap (at_stage (stage_after op)) (turn_same h k many many' state op))

read_same : (h k : ℕ) → 64 ≤ h → 64 ≤ k → (state : State) (line : List ℕ) → read_turn h state line ≡ read_turn k state line
unfolding read_turn
read_same h k many many' state line = bind_same (json_of line) _ _ (λ value. value_same h k many many' state value)

line_same : (h k : ℕ) → 64 ≤ h → 64 ≤ k → (state : State) (line : List ℕ) → line_turn h state line ≡ line_turn k state line
line_same h k many many' state line =
    ap (λ turn. cond (is_skipped line) (Ok (record { text = []; state = state })) turn) (read_same h k many many' state line)

then_same : (number : ℕ) (turn : Result Turn Reason) (f g : State → Transcript) → ((state : State) → f state ≡ g state) → turn_then number turn f ≡ turn_then number turn g
then_same number (Ok turn) f g same = ap (transcript_after turn.text) (same turn.state)
then_same number (Err reason) f g same = refl

run_same : (h k : ℕ) → 64 ≤ h → 64 ≤ k → (lines : List (List ℕ)) (number : ℕ) (state : State) → run h number state lines ≡ run k number state lines
unfolding run
run_same h k many many' [] number state = refl
run_same h k many many' (line ∷ lines) number state =
    ap (λ turn. turn_then number turn (λ new. run h (number + 1) new lines)) (line_same h k many many' state line)
    ∙ then_same number (line_turn k state line) _ _ (λ new. run_same h k many many' lines (number + 1) new)

pub meaning_same : (h k : ℕ) → 64 ≤ h → 64 ≤ k → (bytes : List ℕ) → meaning h bytes ≡ meaning k bytes
meaning_same h k many many' bytes =
    ap (λ transcript. cond (nat_le (length bytes) most_bytes) transcript (record { text = []; ending = faulty 0 TooLong })) (run_same h k many many' (script_lines bytes) 1 first_state)

-- no script has more layers than 64
most_by : (layers n : ℕ) (b : Bool) → nat_lt layers 64 ≡ b → n ≡ min layers 64 → (bytes : List ℕ) → meaning n bytes ≡ meaning layers bytes
most_by layers n true few is bytes = let low = ltb-true layers 64 few in ap (λ h. meaning h bytes) (omega (arith, is))
most_by layers n false many is bytes =
    let high = ltb-false layers 64 many in
    meaning_same n layers (omega (arith, is)) high bytes

pub most_same : (layers n : ℕ) → n ≡ min layers 64 → (bytes : List ℕ) → meaning n bytes ≡ meaning layers bytes
most_same layers n is bytes = most_by layers n (nat_lt layers 64) refl is bytes

pub replayed_same : (layers n : ℕ) (i a b : Known) (r : Result ℕ ReplayFault) → n ≡ min layers 64 → IfSome i (λ bytes. IsReplayed n bytes a b r) → IfSome i (λ bytes. IsReplayed layers bytes a b r)
replayed_same layers n None a b r is p = tt
replayed_same layers n (Some bytes) a b r is p = subst (λ meant. Runs meant a b r) (most_same layers n is bytes) p

whole_same : (layers n : ℕ) (i a b : Known) → n ≡ min layers 64 → IsWrittenWhole n i a b → IsWrittenWhole layers i a b
whole_same layers n None a b is p = tt
whole_same layers n (Some bytes) a b is p = subst (λ meant. Appends a b meant.text) (most_same layers n is bytes) p

pub flushed_same : {W : Type 0} (layers n : ℕ) (i a b : Known) (old new : Counted W) (r : Result ℕ ReplayFault) → n ≡ min layers 64
    → FlushesOnce (IsWrittenWhole n i a b) old new r → FlushesOnce (IsWrittenWhole layers i a b) old new r
flushed_same layers n i a b old new r is p = once_for (whole_same layers n i a b is) old new r p

-- ---- the same of what `why` tells

reached_same : (about : Option (List ℕ)) (number : ℕ) (reached : Reached) (label : Option (List ℕ)) (turn : Result Turn Reason) (f g : Reached → Transcript)
    → ((reached : Reached) → f reached ≡ g reached) → turn_reached about number reached label turn f ≡ turn_reached about number reached label turn g
reached_same about number reached label (Ok turn) f g same = same (reached_after number reached label turn.state)
reached_same about number reached label (Err reason) f g same = refl

why_run_same : (h k : ℕ) → 64 ≤ h → 64 ≤ k → (about : Option (List ℕ)) (lines : List (List ℕ)) (number : ℕ) (reached : Reached)
    → why_run h about number reached lines ≡ why_run k about number reached lines
unfolding why_run
why_run_same h k many many' about [] number reached = refl
why_run_same h k many many' about (line ∷ lines) number reached =
    ap (λ turn. turn_reached about number reached (label_in reached.state line) turn (λ new. why_run h about (number + 1) new lines)) (line_same h k many many' reached.state line)
    ∙ reached_same about number reached (label_in reached.state line) (line_turn k reached.state line) _ _ (λ new. why_run_same h k many many' about lines (number + 1) new)

why_by : (layers n : ℕ) (b : Bool) → nat_lt layers 64 ≡ b → n ≡ min layers 64 → (about : Option (List ℕ)) (number : ℕ) (reached : Reached) (lines : List (List ℕ))
    → why_run n about number reached lines ≡ why_run layers about number reached lines
why_by layers n true few is about number reached lines =
    let low = ltb-true layers 64 few in ap (λ h. why_run h about number reached lines) (omega (arith, is))
why_by layers n false many is about number reached lines =
    let high = ltb-false layers 64 many in
    why_run_same n layers (omega (arith, is)) high about lines number reached

pub explained_same : (layers n : ℕ) (about : Option (List ℕ)) (number : ℕ) (reached : Reached) (lines : List (List ℕ)) (explained : Explained) → n ≡ min layers 64
    → IsExplained (why_run n about number reached lines) explained → IsExplained (why_run layers about number reached lines) explained
explained_same layers n about number reached lines explained is p =
    subst (λ meant. IsExplained meant explained) (why_by layers n (nat_lt layers 64) refl is about number reached lines) p

pub all_explained_same : (layers n : ℕ) (about : Option (List ℕ)) (reached : Reached) (lines : List (List ℕ)) (result : Result Explained ReplayFault) → n ≡ min layers 64 → reached ≡ first_reached
    → IfOk result (IsExplained (why_run n about 1 reached lines)) → IfOk result (IsExplained (why_run layers about 1 first_reached lines))
all_explained_same layers n about reached lines (Ok explained) is first p =
    explained_same layers n about 1 first_reached lines explained is (subst (λ at. IsExplained (why_run n about 1 at lines) explained) first p)
all_explained_same layers n about reached lines (Err fault) is first p = tt
