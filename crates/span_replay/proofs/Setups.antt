-- Which operations a line can ask for, before the calls and after.
use Rattle.std.proofs.Common.{◌≡◌, ℕ, List, [], ◌++◌, true, refl, ap, sym, ◌∙◌, subst, Option, Some, None, Result, Ok, Err}
use Rattle.std.proofs.lemmas.Bool.{false≢true}
use Rattle.std.specs.Prelude.{IfErr, OnOk, ⊤}
use Rattle.serde_json.specs.Data.{Data}
use Rattle.serde_json.specs.Find.{as_object}
use Rattle.span_layers.specs.Rule.{Pair}
use Rattle.span_layers.specs.declared.form.Form.{Form}
use Rattle.span_layers.specs.declared.form.Form.TheVariants.{Compact}
use Rattle.span_layers.specs.declared.style.TheConstants.FmtSpan.{FULL}
use Rattle.span_layers.specs.FmtSpan.{bits_of}
use Rattle.span_replay.specs.Meaning.{at_stage, stage_after, turn_of, value_turn}
use Rattle.span_script.specs.Operation.{Operation, set_limits, add_layer, make, on_span, record_fields, tell, find, Op, Stage, at_start, in_setup, running, limits_op, layer_op, new_op, span_op, record_op, event_op, find_op, op_at, op_of, sets_up, is_setup, operation_of, keys_of, limits_of, layer_of, optional, limit_in, form_in, kinds_in, rule_in, all_targets}
use Rattle.span_script.specs.Reason.{◌>>=◌, StopsFor, or_fault}
use Rattle.span_replay.specs.State.{State}
use Rattle.span_replay.specs.inside.Turns.{SetsUp}
use Rattle.span_script.specs.declared.reason.Reason.{Reason}
use Rattle.span_script.specs.declared.reason.Reason.TheVariants.{NotObject, NoSuchOp}
use Rattle.span_script.specs.declared.key.Key.TheVariants as key
use Rattle.span_script.specs.declared.stop.Stop.{Stop}
use Rattle.span_script.specs.declared.stop.Stop.TheVariants.{Memory, Refused}

abbrev Same : {B : Type 0} → Result B Reason → Result B Reason → Type 0
Same r s = r ≡ s

pub ok_is : {B : Type 0} → (P : B → Type 0) (a b : B) → Same (Ok a) (Ok b) → P a → P b
ok_is P a b e h = let is : a ≡ b = cc in subst P is h

limits_by : (a b c d : Result ℕ Reason) (op : Operation)
    → (a >>= λ slots. b >>= λ last. c >>= λ most. d >>= λ workers. Ok (set_limits (record { slots = slots; last_generation = last; max_count = most; workers = workers; ring = 1024 }))) ≡ Ok op → SetsUp op
limits_by (Ok a) (Ok b) (Ok c) (Ok d) op e = ok_is SetsUp (set_limits (record { slots = a; last_generation = b; max_count = c; workers = d; ring = 1024 })) op e tt
limits_by (Ok a) (Ok b) (Ok c) (Err r) op e = let bad : ⊥ = cc in absurd bad
limits_by (Ok a) (Ok b) (Err r) d op e = let bad : ⊥ = cc in absurd bad
limits_by (Ok a) (Err r) c d op e = let bad : ⊥ = cc in absurd bad
limits_by (Err r) b c d op e = let bad : ⊥ = cc in absurd bad

limits_set_up : (line : Data) (op : Operation) → limits_of line ≡ Ok op → SetsUp op
unfolding limits_of
limits_set_up line op e =
    limits_by (optional key.Slots limit_in 1024 line) (optional key.LastGeneration limit_in 4294967295 line) (optional key.MaxCount limit_in 4294967295 line) (optional key.Workers limit_in 4 line) op e

layer_by : (a : Result Form Reason) (b : Result ℕ Reason) (c : Result (List Pair) Reason) (op : Operation)
    → (a >>= λ form. b >>= λ spans. c >>= λ rule. Ok (add_layer (record { form = form; spans = spans; rule = rule }))) ≡ Ok op → SetsUp op
layer_by (Ok a) (Ok b) (Ok c) op e = ok_is SetsUp (add_layer (record { form = a; spans = b; rule = c })) op e tt
layer_by (Ok a) (Ok b) (Err r) op e = let bad : ⊥ = cc in absurd bad
layer_by (Ok a) (Err r) c op e = let bad : ⊥ = cc in absurd bad
layer_by (Err r) b c op e = let bad : ⊥ = cc in absurd bad

layer_sets_up : (line : Data) (op : Operation) → layer_of line ≡ Ok op → SetsUp op
unfolding layer_of
layer_sets_up line op e = layer_by (optional key.Form form_in Compact line) (optional key.Spans kinds_in (bits_of FULL) line) (optional key.Rule rule_in all_targets line) op e

keys_set_up : (workers : ℕ) (stage : Stage) (line : Data) (op : Operation) (at : Op) → sets_up at ≡ true → keys_of workers stage line at ≡ Ok op → SetsUp op
keys_set_up workers at_start line op limits_op h k = limits_set_up line op k
keys_set_up workers in_setup line op limits_op h k = let bad : ⊥ = cc in absurd bad
keys_set_up workers running line op limits_op h k = let bad : ⊥ = cc in absurd bad
keys_set_up workers at_start line op layer_op h k = layer_sets_up line op k
keys_set_up workers in_setup line op layer_op h k = layer_sets_up line op k
keys_set_up workers running line op layer_op h k = let bad : ⊥ = cc in absurd bad
keys_set_up workers stage line op new_op h k = absurd (false≢true h)
keys_set_up workers stage line op (span_op call) h k = absurd (false≢true h)
keys_set_up workers stage line op record_op h k = absurd (false≢true h)
keys_set_up workers stage line op event_op h k = absurd (false≢true h)
keys_set_up workers stage line op find_op h k = absurd (false≢true h)

some_op : (o : Option Op) (at : Op) → or_fault o NoSuchOp ≡ Ok at → o ≡ Some at
some_op (Some op) at e = let is : op ≡ at = cc in ap (λ x. Some x) is
some_op None at e = let bad : ⊥ = cc in absurd bad

op_found : (line : Data) (at : Op) → op_of line ≡ Ok at → op_at line ≡ Some at
unfolding op_of
op_found line at e = some_op (op_at line) at e

setup_found : (line : Data) (at : Op) → op_at line ≡ Some at → is_setup line ≡ sets_up at
unfolding is_setup
setup_found line at e = rw e refl

-- a line whose op is `limits` or `layer` asks for no other operation
in_object : {A : Type 0} → (workers : ℕ) (stage : Stage) (line : Data) (op : Operation) (a : Result A Reason) (b : Result Op Reason) → is_setup line ≡ true → op_of line ≡ b → (a >>= λ _. b >>= keys_of workers stage line) ≡ Ok op → SetsUp op
in_object workers stage line op (Ok a) (Ok at) h is e = keys_set_up workers stage line op at (sym (setup_found line at (op_found line at is)) ∙ h) e
in_object workers stage line op (Ok a) (Err r) h is e = let bad : ⊥ = cc in absurd bad
in_object workers stage line op (Err r) b h is e = let bad : ⊥ = cc in absurd bad

pub line_sets_up : (workers : ℕ) (stage : Stage) (line : Data) (op : Operation) → is_setup line ≡ true → operation_of workers stage line ≡ Ok op → SetsUp op
unfolding operation_of
line_sets_up workers stage line op h e = in_object workers stage line op (or_fault (as_object line) NotObject) (op_of line) h refl e

-- ---- the turn of a line whose operation was read

pub value_does : (hooks : ℕ) (state : State) (line : Data) (op : Operation) → operation_of state.core.limits.workers state.stage line ≡ Ok op → value_turn hooks state line ≡ at_stage (stage_after op) (turn_of hooks state op)
unfolding value_turn
value_does hooks state line op e = rw e refl

pub value_faults : (hooks : ℕ) (state : State) (line : Data) (reason : Reason) → operation_of state.core.limits.workers state.stage line ≡ Err reason → value_turn hooks state line ≡ Err reason
unfolding value_turn
value_faults hooks state line reason e = rw e refl

-- ---- a line of `limits` or `layer`

setup_stage : (op : Operation) → SetsUp op → stage_after op ≡ in_setup
setup_stage (set_limits limits) h = refl
setup_stage (add_layer layer) h = refl
setup_stage (make new) h = absurd h
setup_stage (on_span call key worker) h = absurd h
setup_stage (record_fields key fields worker) h = absurd h
setup_stage (tell event) h = absurd h
setup_stage (find key) h = absurd h

setup_turned : (hooks : ℕ) (state new : State) (line : Data) (op : Operation) (text added : List ℕ) → is_setup line ≡ true → operation_of state.core.limits.workers state.stage line ≡ Ok op
    → turn_of hooks state op ≡ Ok (record { text = added; state = new }) → text ≡ added → value_turn hooks state line ≡ Ok (record { text = text; state = record new { stage = in_setup } })
setup_turned hooks state new line op text added h e t same =
    value_does hooks state line op e
    ∙ ap (at_stage (stage_after op)) t
    ∙ ap (λ stage. Ok (record { text = added; state = record new { stage = stage } })) (setup_stage op (line_sets_up state.core.limits.workers state.stage line op h e))
    ∙ ap (λ x. Ok (record { text = x; state = record new { stage = in_setup } })) (sym same)

pub setup_ran : (hooks workers : ℕ) (state new : State) (line : Data) (op : Operation) (cleared text added : List ℕ) → is_setup line ≡ true → workers ≡ state.core.limits.workers
    → operation_of workers state.stage line ≡ Ok op → turn_of hooks state op ≡ Ok (record { text = added; state = new }) → cleared ≡ [] → text ≡ cleared ++ added
    → value_turn hooks state line ≡ Ok (record { text = text; state = record new { stage = in_setup } })
setup_ran hooks workers state new line op cleared text added h w e t none is =
    setup_turned hooks state new line op text added h (subst (λ n. operation_of n state.stage line ≡ Ok op) w e) t (is ∙ ap (λ x. x ++ added) none)

-- the same, where the answer was written
pub setup_told : (result : Result ⊤ Stop) (hooks workers : ℕ) (state new : State) (line : Data) (op : Operation) (cleared text added : List ℕ) → is_setup line ≡ true → workers ≡ state.core.limits.workers
    → operation_of workers state.stage line ≡ Ok op → turn_of hooks state op ≡ Ok (record { text = added; state = new }) → cleared ≡ [] → OnOk result (text ≡ cleared ++ added)
    → OnOk result (value_turn hooks state line ≡ Ok (record { text = text; state = record new { stage = in_setup } }))
setup_told (Ok _) hooks workers state new line op cleared text added h w e t none is = setup_ran hooks workers state new line op cleared text added h w e t none is
setup_told (Err stop) hooks workers state new line op cleared text added h w e t none is = tt

-- there was no memory for the answer
pub setup_lacks : (result : Result ⊤ Stop) (hooks : ℕ) (state : State) (line : Data) → IfErr result (λ stop. stop ≡ Memory) → IfErr result (StopsFor (value_turn hooks state line))
setup_lacks (Ok _) hooks state line is = tt
setup_lacks (Err stop) hooks state line is = subst (StopsFor (value_turn hooks state line)) (sym is) tt

pub setup_stops : (hooks workers : ℕ) (state : State) (line : Data) (stop : Stop) → workers ≡ state.core.limits.workers → StopsFor (operation_of workers state.stage line) stop → StopsFor (value_turn hooks state line) stop
setup_stops hooks workers state line Memory w p = tt
setup_stops hooks workers state line (Refused reason) w p = value_faults hooks state line reason (subst (λ n. operation_of n state.stage line ≡ Err reason) w p)
