-- The meaning of a script: what a run writes, and how it ends, as a function of the script's bytes and of how
-- many layers there may be.
use Rattle.std.specs.Prelude.{ℕ, ◌+◌, ◌&&◌, if◌then◌else◌, nat_lt, nat_le, Bool, List, [], ◌∷◌, ◌++◌, length, map, Result, Ok, Err}
use Rattle.std.specs.List.{range_with_len}
use Rattle.serde_json.specs.Data.{Data}
use Rattle.span_id.specs.declared.fault.Fault.TheVariants.{BadLimits, TooManyLayers}
use Rattle.span_id.specs.declared.limits.Limits.{Limits}
use Rattle.span_id.specs.Id.{slots_in_layout}
use Rattle.span_layers.specs.Filter.{Filter}
use Rattle.span_stack.specs.Stack as stack
use Rattle.span_core.specs.World.{empty_world, stack_of}
use Rattle.span_outlet.specs.Request as call
use Rattle.span_core.specs.Core.{CoreView}
use Rattle.span_core.specs.Outcome.{outcome}
use Rattle.span_replay.specs.Answer.{answer_text, left_text}
use Rattle.span_replay.specs.Faults.{id_of_key, parent_of_key, free_label}
use Rattle.span_replay.specs.Labels.{Bound, with_label}
use Rattle.span_script.specs.Operation.{NewLayer, NewSpan, Stage, in_setup, running, Operation, set_limits, add_layer, make, on_span, record_fields, tell, find, json_of, operation_of}
use Rattle.span_script.specs.Reason.{◌>>=◌}
use Rattle.span_replay.specs.Requests.{request_of_call, request_of_new, request_of_event}
use Rattle.span_replay.specs.Written.{Written, answer_for, call_written, find_text, exits, closes, each_written}
use Rattle.span_script.specs.Script.{script_lines, most_bytes, is_skipped}
use Rattle.span_replay.specs.State.{State, first_state}
use Rattle.span_replay.specs.declared.run.answer.Answer.{Answer}
use Rattle.span_replay.specs.declared.run.answer.Answer.TheVariants as answer
use Rattle.span_script.specs.declared.reason.Reason.{Reason}
use Rattle.span_script.specs.declared.reason.Reason.TheVariants.{TooLong}

-- what is written for a line, and the state after it
pub record Turn : Type 0 where
  pub text : List ℕ
  pub state : State

-- ---- the lines before the first call

-- each limit is in its range
abbrev pub are_in_range : Limits → Bool
are_in_range limits =
    (nat_le 1 limits.slots && nat_le limits.slots slots_in_layout)
    && (nat_le limits.last_generation 4294967295
    && ((nat_le 1 limits.max_count && nat_le limits.max_count 4294967295)
    && ((nat_le 1 limits.workers && nat_le limits.workers 256) && (nat_le 1 limits.ring && nat_le limits.ring 65536))))

-- limits that are out of their range leave those that stood
abbrev pub limits_turn : State → Limits → Turn
limits_turn state limits =
    if are_in_range limits
    then record {
      text = answer_text answer.Limits;
      state = record state { core = record state.core { limits = limits; world = empty_world limits.workers } };
    }
    else record { text = answer_text (answer.Refused BadLimits); state = state }

-- what a layer admits, and which of its spans' doings it is told of
abbrev pub filter_of_layer : NewLayer → Filter
filter_of_layer layer = record { pairs = layer.rule; spans = layer.spans }

-- a core with one layer more
abbrev pub with_layer : CoreView → NewLayer → CoreView
with_layer core layer =
    record core { rules = core.rules ++ filter_of_layer layer ∷ []; forms = core.forms ++ layer.form ∷ [] }

-- a layer more, of at most 64 and of at most as many as there are hooks for
abbrev pub layer_turn : ℕ → State → NewLayer → Turn
layer_turn hooks state layer =
    if nat_lt (length state.core.rules) 64 && nat_lt (length state.core.rules) hooks
    then record {
      text = answer_text (answer.Layer (length state.core.rules));
      state = record state { core = with_layer state.core layer };
    }
    else record { text = answer_text (answer.Refused TooManyLayers); state = state }

-- ---- calls

-- what calls wrote, and the core that they leave
abbrev pub written_turn : State → Written → Turn
written_turn state written = record { text = written.text; state = record state { core = written.core } }

-- one call
abbrev pub call_turn : State → call.Request → Turn
call_turn state request = written_turn state (call_written state.core request)

-- a label names the id that its last accepted `new` got
abbrev pub labels_after : Bound → List ℕ → Answer → Bound
labels_after labels label (answer.Made id) = with_label labels label id
labels_after labels label _ = labels

-- a call that makes a span, and binds its label where it is accepted
abbrev pub made_turn : State → List ℕ → call.Request → Turn
made_turn state label request = record {
  text = (call_written state.core request).text;
  state = record state {
    core = (call_written state.core request).core;
    labels = labels_after state.labels label (answer_for (outcome state.core request));
  };
}

-- ---- one line

-- a new span: the script is at fault where its parent's label isn't bound, or where its own label is taken
unfoldable pub new_turn : State → NewSpan → Result Turn Reason
new_turn state new = do
  parent ← parent_of_key state.labels (stack.current (stack_of state.core.world new.worker)) new.parent
  _ ← free_label state.core.world.spans state.labels new.label
  Ok (made_turn state new.label (request_of_new new parent))

-- what an operation does, or which fault of the script it is
abbrev pub turn_of : ℕ → State → Operation → Result Turn Reason
turn_of hooks state (set_limits limits) = Ok (limits_turn state limits)
turn_of hooks state (add_layer layer) = Ok (layer_turn hooks state layer)
turn_of hooks state (make new) = new_turn state new
turn_of hooks state (on_span span_call key worker) =
    id_of_key state.labels key >>= λ id. Ok (call_turn state (request_of_call span_call worker id))
turn_of hooks state (record_fields key fields worker) =
    id_of_key state.labels key >>= λ id. Ok (call_turn state (call.record_fields worker id fields))
turn_of hooks state (tell event) = Ok (call_turn state (request_of_event event))
turn_of hooks state (find key) =
    id_of_key state.labels key >>= λ id. Ok (record { text = find_text state.core id; state = state })

-- which lines came, once a line with this operation has run
abbrev pub stage_after : Operation → Stage
stage_after (set_limits limits) = in_setup
stage_after (add_layer layer) = in_setup
stage_after _ = running

-- a turn that leaves the script at this stage; a fault stays one
abbrev pub at_stage : Stage → Result Turn Reason → Result Turn Reason
at_stage stage turn = turn >>= λ t. Ok (record { text = t.text; state = record t.state { stage = stage } })

-- what a line with this JSON value does
unfoldable pub value_turn : ℕ → State → Data → Result Turn Reason
value_turn hooks state value = do
  operation ← operation_of state.core.limits.workers state.stage value
  at_stage (stage_after operation) (turn_of hooks state operation)

-- a line that isn't skipped is JSON, or the script is at fault
unfoldable pub read_turn : ℕ → State → List ℕ → Result Turn Reason
read_turn hooks state line = do
  value ← json_of line
  value_turn hooks state value

-- a line of blanks, tabs and carriage returns is skipped
abbrev pub line_turn : ℕ → State → List ℕ → Result Turn Reason
line_turn hooks state line =
    if is_skipped line then Ok (record { text = []; state = state }) else read_turn hooks state line

-- ---- the whole script

-- a run ends with so many open spans, or at a line's fault
pub data Ending : Type 0 where
  finished : ℕ → Ending
  faulty : ℕ → Reason → Ending

-- what a run writes, and how it ends
pub record Transcript : Type 0 where
  pub text : List ℕ
  pub ending : Ending

-- a text was written before
abbrev pub transcript_after : List ℕ → Transcript → Transcript
transcript_after text transcript = record { text = text ++ transcript.text; ending = transcript.ending }

-- the tidying: all workers leave what they have entered, by ascending number
abbrev pub left_by_workers : State → Written
left_by_workers state = each_written exits state.core (range_with_len 0 state.core.limits.workers)

-- the rest of the tidying: what the labels name is closed, in the order of the labels' bytes
abbrev pub closed_by_labels : State → Written
closed_by_labels state = each_written closes (left_by_workers state).core (map (λ entry. entry.1) state.labels)

-- at the end of the lines the tidying, and how many spans are open
abbrev pub last_part : State → Transcript
last_part state = record {
  text = (left_by_workers state).text ++ ((closed_by_labels state).text
      ++ left_text (length (closed_by_labels state).core.world.spans));
  ending = finished (length (closed_by_labels state).core.world.spans);
}

-- what a line wrote, before what the further lines write; a fault ends the script
abbrev pub turn_then : ℕ → Result Turn Reason → (State → Transcript) → Transcript
turn_then number (Ok turn) more = transcript_after turn.text (more turn.state)
turn_then number (Err reason) more = record { text = []; ending = faulty number reason }

-- the lines from this number on
unfoldable pub run : ℕ → ℕ → State → List (List ℕ) → Transcript
run hooks number state [] = last_part state
run hooks number state (line ∷ lines) =
    turn_then number (line_turn hooks state line) (λ new. run hooks (number + 1) new lines)

-- a script of more than 16,777,216 bytes isn't run at all
abbrev pub meaning : ℕ → List ℕ → Transcript
meaning hooks bytes =
    if nat_le (length bytes) most_bytes then run hooks 1 first_state (script_lines bytes)
    else record { text = []; ending = faulty 0 TooLong }
