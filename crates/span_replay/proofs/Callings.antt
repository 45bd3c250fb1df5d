-- A line that comes after the set-up asks for a call, and what it then does.
use Rattle.std.proofs.Common.{◌≡◌, ℕ, List, [], ◌++◌, refl, ap, sym, ◌∙◌, subst, Option, Some, None, Result, Ok, Err}
use Rattle.std.specs.Prelude.{IfOk, IfErr, OnOk, codes, ⊤}
use Rattle.serde_json.specs.Data.{Data}
use Rattle.serde_json.specs.Find.{get, as_object, as_str}
use Rattle.span_id.specs.declared.level.Level.TheVariants.{Info}
use Rattle.span_script.specs.Key.{key_text}
use Rattle.span_replay.specs.Meaning.{at_stage, stage_after, turn_of, value_turn}
use Rattle.span_script.specs.Operation.{Operation, set_limits, add_layer, make, on_span, record_fields, tell, find, running, Op, limits_op, layer_op, new_op, span_op, record_op, event_op, find_op, required, optional, worker_in, level_in, parent_key_in, field_list_in, span_key_in, old_id_in, op_of, current, new_of, on_span_of, record_of, event_of, find_by_span, find_by, find_of, keys_of, operation_of}
use Rattle.span_script.specs.Reason.{StopsFor, or_fault}
use Rattle.span_replay.specs.inside.Running.{IsTurn, StopsAs, RunsAs}
use Rattle.span_replay.specs.State.{State}
use Rattle.span_script.specs.Views.{operation_seen, IsCall}
use Rattle.span_script.specs.declared.key.Key.TheVariants as key
use Rattle.span_script.specs.declared.reason.Reason.TheVariants.{NotObject, BadKey}
use Rattle.span_script.specs.declared.operations.Operation as code
use Rattle.span_script.specs.declared.operations.Operation.TheVariants as codes_of
use Rattle.span_script.specs.declared.operations.SpanCall.{SpanCall}
use Rattle.span_script.specs.declared.stop.Stop.{Stop}
use Rattle.span_script.specs.declared.stop.Stop.TheVariants.{Memory, Refused}
use Rattle.span_script.proofs.Fits.{WhereOk, then_ok}
use Rattle.span_replay.proofs.Setups.{value_does, value_faults}

abbrev pub Calls : Operation → Type 0
Calls (set_limits limits) = ⊥
Calls (add_layer layer) = ⊥
Calls _ = Unit {0}

new_calls : (workers : ℕ) (line : Data) → WhereOk (new_of workers line) Calls
unfolding new_of
new_calls workers line =
    then_ok (required key.Name as_str line) _ (λ name.
    then_ok (optional key.Target as_str (codes "app") line) _ (λ target.
    then_ok (optional key.Level level_in Info line) _ (λ level.
    then_ok (optional key.Parent parent_key_in current line) _ (λ parent.
    then_ok (optional key.Fields field_list_in [] line) _ (λ fields.
    then_ok (optional key.Label as_str name line) _ (λ label.
    then_ok (optional key.Worker (worker_in workers) 0 line) _ (λ worker. record { is = tt })))))))

span_calls : (workers : ℕ) (call : SpanCall) (line : Data) → WhereOk (on_span_of workers call line) Calls
unfolding on_span_of
span_calls workers call line =
    then_ok (required key.Span span_key_in line) _ (λ span.
    then_ok (optional key.Worker (worker_in workers) 0 line) _ (λ worker. record { is = tt }))

record_calls : (workers : ℕ) (line : Data) → WhereOk (record_of workers line) Calls
unfolding record_of
record_calls workers line =
    then_ok (required key.Span span_key_in line) _ (λ span.
    then_ok (optional key.Fields field_list_in [] line) _ (λ fields.
    then_ok (optional key.Worker (worker_in workers) 0 line) _ (λ worker. record { is = tt })))

event_calls : (workers : ℕ) (line : Data) → WhereOk (event_of workers line) Calls
unfolding event_of
event_calls workers line =
    then_ok (required key.Message as_str line) _ (λ message.
    then_ok (optional key.Target as_str (codes "app") line) _ (λ target.
    then_ok (optional key.Level level_in Info line) _ (λ level.
    then_ok (optional key.Fields field_list_in [] line) _ (λ fields.
    then_ok (optional key.Worker (worker_in workers) 0 line) _ (λ worker. record { is = tt })))))

by_span_calls : (line : Data) (old : Option Data) → WhereOk (find_by_span line old) Calls
by_span_calls line None = then_ok (required key.Span span_key_in line) _ (λ span. record { is = tt })
by_span_calls line (Some old) = then_ok (required key.Span span_key_in line) _ (λ span. record { is = tt })

by_calls : (line : Data) (span old : Option Data) → WhereOk (find_by line span old) Calls
by_calls line None (Some old) = then_ok (or_fault (old_id_in old) (BadKey key.Old)) _ (λ span. record { is = tt })
by_calls line None None = by_span_calls line None
by_calls line (Some span) old = by_span_calls line old

find_calls : (line : Data) → WhereOk (find_of line) Calls
unfolding find_of
find_calls line = by_calls line (get (key_text key.Span) line) (get (key_text key.Old) line)

keys_calls : (workers : ℕ) (line : Data) (op : Op) → WhereOk (keys_of workers running line op) Calls
keys_calls workers line limits_op = record { is = tt }
keys_calls workers line layer_op = record { is = tt }
keys_calls workers line new_op = new_calls workers line
keys_calls workers line (span_op call) = span_calls workers call line
keys_calls workers line record_op = record_calls workers line
keys_calls workers line event_op = event_calls workers line
keys_calls workers line find_op = find_calls line

operation_calls : (workers : ℕ) (line : Data) → WhereOk (operation_of workers running line) Calls
unfolding operation_of
operation_calls workers line = then_ok (or_fault (as_object line) NotObject) _ (λ object. then_ok (op_of line) _ (λ op. keys_calls workers line op))

pub line_calls : (workers : ℕ) (line : Data) (op : Operation) → operation_of workers running line ≡ Ok op → Calls op
line_calls workers line op e = let all = operation_calls workers line in subst (λ r. IfOk r Calls) e all.is

call_seen : (op : code.Operation) → Calls (operation_seen op) → IsCall op
call_seen (codes_of.Limits limits) h = h
call_seen (codes_of.Layer layer) h = h
call_seen (codes_of.New new) h = tt
call_seen (codes_of.OnSpan call key worker) h = tt
call_seen (codes_of.Record key fields worker) h = tt
call_seen (codes_of.Event event) h = tt
call_seen (codes_of.Find key) h = tt

-- once lines have run, a line asks for no operation of the set-up
pub is_call : (workers : ℕ) (line : Data) (op : code.Operation) → operation_of workers running line ≡ Ok (operation_seen op) → IsCall op
is_call workers line op e = call_seen op (line_calls workers line (operation_seen op) e)

pub calls_run : (op : Operation) → Calls op → stage_after op ≡ running
calls_run (set_limits limits) h = absurd h
calls_run (add_layer layer) h = absurd h
calls_run (make new) h = refl
calls_run (on_span call key worker) h = refl
calls_run (record_fields key fields worker) h = refl
calls_run (tell event) h = refl
calls_run (find key) h = refl

-- ---- what the line did

pub call_turned : (hooks workers : ℕ) (state new : State) (line : Data) (op : Operation) (cleared text : List ℕ) → state.stage ≡ running → new.stage ≡ running → workers ≡ state.core.limits.workers
    → operation_of workers running line ≡ Ok op → cleared ≡ [] → IsTurn (turn_of hooks state op) cleared text new → value_turn hooks state line ≡ Ok (record { text = text; state = new })
call_turned hooks workers state new line op cleared text at at' same e none p =
    let calls = line_calls workers line op e in
    let read : operation_of state.core.limits.workers state.stage line ≡ Ok op =
    subst (λ stage. operation_of state.core.limits.workers stage line ≡ Ok op) (sym at) (subst (λ n. operation_of n running line ≡ Ok op) same e) in
    let whole : text ≡ p.added = p.text ∙ ap (λ x. x ++ p.added) none in
    value_does hooks state line op read
    ∙ ap (at_stage (stage_after op)) p.turn
    ∙ ap (λ stage. Ok (record { text = p.added; state = record new { stage = stage } })) (calls_run op calls ∙ sym at')
    ∙ ap (λ x. Ok (record { text = x; state = new })) (sym whole)

pub call_stops : (hooks workers : ℕ) (state new : State) (line : Data) (op : Operation) (old text : List ℕ) (stop : Stop) → state.stage ≡ running → workers ≡ state.core.limits.workers
    → operation_of workers running line ≡ Ok op → StopsAs (turn_of hooks state op) state old new text stop → StopsFor (value_turn hooks state line) stop
call_stops hooks workers state new line op old text Memory at same e p = tt
call_stops hooks workers state new line op old text (Refused reason) at same e p =
    let read : operation_of state.core.limits.workers state.stage line ≡ Ok op =
    subst (λ stage. operation_of state.core.limits.workers stage line ≡ Ok op) (sym at) (subst (λ n. operation_of n running line ≡ Ok op) same e) in
    value_does hooks state line op read ∙ ap (at_stage (stage_after op)) p.0

pub read_stops : (hooks workers : ℕ) (state : State) (line : Data) (stop : Stop) → state.stage ≡ running → workers ≡ state.core.limits.workers
    → StopsFor (operation_of workers running line) stop → StopsFor (value_turn hooks state line) stop
read_stops hooks workers state line Memory at same p = tt
read_stops hooks workers state line (Refused reason) at same p =
    value_faults hooks state line reason (subst (λ stage. operation_of state.core.limits.workers stage line ≡ Err reason) (sym at) (subst (λ n. operation_of n running line ≡ Err reason) same p))

pub call_ran : (workers : ℕ) (state new : State) (line : Data) (op : Operation) (cleared text : List ℕ) (r : Result ⊤ Stop) → state.stage ≡ running → new.stage ≡ running → workers ≡ state.core.limits.workers
    → operation_of workers running line ≡ Ok op → cleared ≡ [] → ((hooks : ℕ) → RunsAs (turn_of hooks state op) state cleared new text r)
    → OnOk r ((hooks : ℕ) → value_turn hooks state line ≡ Ok (record { text = text; state = new }))
call_ran workers state new line op cleared text (Ok _) at at' same e none p = λ hooks. call_turned hooks workers state new line op cleared text at at' same e none (p hooks)
call_ran workers state new line op cleared text (Err stop) at at' same e none p = tt

pub call_failed : (workers : ℕ) (state new : State) (line : Data) (op : Operation) (cleared text : List ℕ) (r : Result ⊤ Stop) → state.stage ≡ running → workers ≡ state.core.limits.workers
    → operation_of workers running line ≡ Ok op → ((hooks : ℕ) → RunsAs (turn_of hooks state op) state cleared new text r)
    → IfErr r (λ stop. (hooks : ℕ) → StopsFor (value_turn hooks state line) stop)
call_failed workers state new line op cleared text (Ok _) at same e p = tt
call_failed workers state new line op cleared text (Err stop) at same e p = λ hooks. call_stops hooks workers state new line op cleared text stop at same e (p hooks)
