-- What a line of a script asks for: how it is read from the line's JSON value.
use Rattle.std.specs.Prelude.{ℕ, ◌*◌, ◌^◌, ◌&&◌, List, [], ◌∷◌, codes, Bool, true, false, nat_lt, nat_le, if◌then◌else◌, Option, Some, None, option_and_then, Result, Ok, Err, ⊤}
use Rattle.std.specs.Option.{option_map, option_map_or}
use Rattle.std.specs.Str.{bytes_eq, is_utf8}
use Rattle.serde_json.specs.Data.{Data, Items, no_items, item}
use Rattle.serde_json.specs.Read.{read}
use Rattle.serde_json.specs.Find.{get, as_null, as_number, as_u64, as_str, as_array, as_object}
use Rattle.span_id.specs.declared.level.Level.{Level}
use Rattle.span_id.specs.declared.level.Level.TheVariants.{Error, Warn, Info, Debug, Trace}
use Rattle.span_id.specs.declared.limits.Limits.{Limits}
use Rattle.span_id.specs.Id.{slots_in_layout, generations_in_layout, id_of, old_slot_of, old_generation_of}
use Rattle.span_layers.specs.Rule.{Pair}
use Rattle.span_layers.specs.declared.form.Form.{Form}
use Rattle.span_layers.specs.declared.form.Form.TheVariants.{Compact, Json}
use Rattle.span_layers.specs.declared.style.TheConstants.FmtSpan.{FULL}
use Rattle.span_layers.specs.FmtSpan.{bits_of}
use Rattle.span_script.specs.Key.{key_text}
use Rattle.span_script.specs.Reason.{◌>>=◌, or_fault}
use Rattle.span_script.specs.declared.key.Key.{Key}
use Rattle.span_script.specs.declared.key.Key.TheVariants as key
use Rattle.span_script.specs.declared.operations.SpanCall.{SpanCall}
use Rattle.span_script.specs.declared.operations.SpanCall.TheVariants.{Clone, Close, Enter, Exit}
use Rattle.span_script.specs.declared.reason.Reason.{Reason}
use Rattle.span_script.specs.declared.reason.Reason.TheVariants.{NotJson, NotObject, NoSuchOp, LateLine, BadKey}

-- ---- what a line can ask for

-- how a line names a span
pub data SpanKey : Type 0 where
  by_label : List ℕ → SpanKey
  by_id : ℕ → SpanKey

-- what a new span is to stand under: the worker's current span, no span, or a named one
pub data Parent : Type 0 where
  current : Parent
  root : Parent
  named : SpanKey → Parent

-- a new span: its meta, what it is to stand under, its fields, the label that names it, and the worker that makes it
pub record NewSpan : Type 0 where
  pub name : List ℕ
  pub target : List ℕ
  pub level : Level
  pub parent : Parent
  pub fields : List (List ℕ × List ℕ)
  pub label : List ℕ
  pub worker : ℕ

-- the kinds of notes on spans that a layer wants are a set of bits: new 1, enter 2, exit 4, close 8
pub record NewLayer : Type 0 where
  pub form : Form
  pub spans : ℕ
  pub rule : List Pair

-- an event: its meta, its message, its fields, and the worker that tells it
pub record NewEvent : Type 0 where
  pub name : List ℕ
  pub target : List ℕ
  pub level : Level
  pub message : List ℕ
  pub fields : List (List ℕ × List ℕ)
  pub worker : ℕ

-- what is asked for: limits, a layer, a new span, a call on a span, further fields of one, an event, or a look-up
pub data Operation : Type 0 where
  set_limits : Limits → Operation
  add_layer : NewLayer → Operation
  make : NewSpan → Operation
  on_span : SpanCall → SpanKey → ℕ → Operation
  record_fields : SpanKey → List (List ℕ × List ℕ) → ℕ → Operation
  tell : NewEvent → Operation
  find : SpanKey → Operation

-- ---- a line as JSON: it has to be UTF-8

-- the line's JSON value; the line is at fault where it isn't UTF-8 or isn't JSON
unfoldable pub json_of : List ℕ → Result Data Reason
json_of line = if is_utf8 line then or_fault (read line) NotJson else Err NotJson

-- ---- the value of a key

-- a required key is a bad one where it is missing, and any key where its value isn't of its type and range
abbrev pub required : {A : Type 0} → Key → (Data → Option A) → Data → Result A Reason
required k reading line = or_fault (option_and_then reading (get (key_text k) line)) (BadKey k)

-- the value of a key that may be missing
abbrev pub given_or : {A : Type 0} → Key → (Data → Option A) → A → Option Data → Result A Reason
given_or k reading default None = Ok default
given_or k reading default (Some value) = or_fault (reading value) (BadKey k)

-- an optional key stands for its default where it is missing
abbrev pub optional : {A : Type 0} → Key → (Data → Option A) → A → Data → Result A Reason
optional k reading default line = given_or k reading default (get (key_text k) line)

-- ---- the types of keys

-- a whole number is written in digits alone
abbrev pub whole_number : Data → Option ℕ
whole_number value = option_and_then as_u64 (as_number value)

-- the number, if it is at most this bound
abbrev pub at_most : ℕ → ℕ → Option ℕ
at_most most n = if nat_le n most then Some n else None

-- the number, if it is below this bound
abbrev pub below : ℕ → ℕ → Option ℕ
below bound n = if nat_lt n bound then Some n else None

-- a limit is a whole number below 2^32; which ones are in their range is the registry's business
abbrev pub limit_in : Data → Option ℕ
limit_in value = option_and_then (at_most 4294967295) (whole_number value)

-- a worker's number is below the number of workers
abbrev pub worker_in : ℕ → Data → Option ℕ
worker_in workers value = option_and_then (below workers) (whole_number value)

-- a level by its name
abbrev pub level_named : List ℕ → Option Level
level_named text =
    if bytes_eq text (codes "ERROR") then Some Error else
    (if bytes_eq text (codes "WARN") then Some Warn else
    (if bytes_eq text (codes "INFO") then Some Info else
    (if bytes_eq text (codes "DEBUG") then Some Debug else
    (if bytes_eq text (codes "TRACE") then Some Trace else None))))

-- a level is written as a text, its name
abbrev pub level_in : Data → Option Level
level_in value = option_and_then level_named (as_str value)

-- an id is a whole number in the layout: 1 to 2^56
abbrev pub id_numbered : ℕ → Option SpanKey
id_numbered n = if nat_lt 0 n && nat_le n (generations_in_layout * slots_in_layout) then Some (by_id n) else None

-- a text is a label, whatever it is
abbrev pub id_unless_label : Data → Option (List ℕ) → Option SpanKey
id_unless_label value (Some text) = Some (by_label text)
id_unless_label value None = option_and_then id_numbered (whole_number value)

-- a span is named by a label, which is a text, or by its id
abbrev pub span_key_in : Data → Option SpanKey
span_key_in value = id_unless_label value (as_str value)

-- null is a root
abbrev pub named_unless_null : Data → Option ⊤ → Option Parent
named_unless_null value (Some _) = Some root
named_unless_null value None = option_map named (span_key_in value)

-- a parent is named as a span is, and null stands for none
abbrev pub parent_key_in : Data → Option Parent
parent_key_in value = named_unless_null value (as_null value)

-- an id of the older layout: 1 to 2^32
abbrev pub old_id_numbered : ℕ → Option SpanKey
old_id_numbered n =
    if nat_lt 0 n && nat_le n (2 ^ 32) then Some (by_id (id_of (old_slot_of n) (old_generation_of n))) else None

-- an id of the older layout is written as a whole number
abbrev pub old_id_in : Data → Option SpanKey
old_id_in value = option_and_then old_id_numbered (whole_number value)

-- where there are both
abbrev pub both : {A B : Type 0} → Option A → Option B → Option (A × B)
both (Some a) (Some b) = Some (a, b)
both (Some a) None = None
both None b = None

-- a list of exactly two values
abbrev pub two_in : Items → Option (Data × Data)
two_in no_items = None
two_in (item first no_items) = None
two_in (item first (item second no_items)) = Some (first, second)
two_in (item first (item second (item third items))) = None

-- a pair is a list of two values
abbrev pub two_of : {A B : Type 0} → (Data → Option A) → (Data → Option B) → Data → Option (A × B)
two_of first second value =
    option_and_then (λ two. both (first two.0) (second two.1)) (option_and_then two_in (as_array value))

-- a value before others, where there are all
abbrev pub onto : {A : Type 0} → Option A → Option (List A) → Option (List A)
onto (Some a) (Some more) = Some (a ∷ more)
onto (Some a) None = None
onto None more = None

-- the values of a list, in their order, where each is of the type
unfoldable pub all_of : {A : Type 0} → (Data → Option A) → Items → Option (List A)
all_of reading no_items = Some []
all_of reading (item value items) = onto (reading value) (all_of reading items)

-- a list, each of whose values is of the type
abbrev pub list_of : {A : Type 0} → (Data → Option A) → Data → Option (List A)
list_of reading value = option_and_then (all_of reading) (as_array value)

-- a field is a pair of texts
abbrev pub field_in : Data → Option (List ℕ × List ℕ)
field_in value = two_of as_str as_str value

-- fields are a list of pairs of texts
abbrev pub field_list_in : Data → Option (List (List ℕ × List ℕ))
field_list_in value = list_of field_in value

-- a form by its name
abbrev pub form_named : List ℕ → Option Form
form_named text =
    if bytes_eq text (codes "compact") then Some Compact else
    (if bytes_eq text (codes "json") then Some Json else None)

-- a form is written as a text, its name
abbrev pub form_in : Data → Option Form
form_in value = option_and_then form_named (as_str value)

-- a set of the four kinds of notes on spans, as a number
abbrev pub kinds_in : Data → Option ℕ
kinds_in value = option_and_then (at_most (bits_of FULL)) (whole_number value)

-- a pair of a prefix and the greatest level that it lets in
abbrev pub prefix_in : Data → Option Pair
prefix_in value = two_of as_str level_in value

-- a rule is a list of pairs of a prefix and a level
abbrev pub rule_in : Data → Option (List Pair)
rule_in value = list_of prefix_in value

-- each target up to the greatest level
abbrev pub all_targets : List Pair
all_targets = ([], Trace) ∷ []

-- ---- an operation's keys, in the order in which they are looked at

-- limits: one that is missing has its default, and a ring always has 1024 places
unfoldable pub limits_of : Data → Result Operation Reason
limits_of line = do
  slots ← optional key.Slots limit_in 1024 line
  last_generation ← optional key.LastGeneration limit_in 4294967295 line
  max_count ← optional key.MaxCount limit_in 4294967295 line
  workers ← optional key.Workers limit_in 4 line
  Ok (set_limits (record {
    slots = slots;
    last_generation = last_generation;
    max_count = max_count;
    workers = workers;
    ring = 1024;
  }))

-- a layer: by default its form is compact, and it wants notes of all four kinds and admits all targets at all levels
unfoldable pub layer_of : Data → Result Operation Reason
layer_of line = do
  form ← optional key.Form form_in Compact line
  spans ← optional key.Spans kinds_in (bits_of FULL) line
  rule ← optional key.Rule rule_in all_targets line
  Ok (add_layer (record { form = form; spans = spans; rule = rule }))

-- a new span has a name; by default its target is `app`, its level INFO, its parent the worker's current span, and its
-- label its name, it has no fields, and worker 0 makes it
unfoldable pub new_of : ℕ → Data → Result Operation Reason
new_of workers line = do
  name ← required key.Name as_str line
  target ← optional key.Target as_str (codes "app") line
  level ← optional key.Level level_in Info line
  parent ← optional key.Parent parent_key_in current line
  fields ← optional key.Fields field_list_in [] line
  label ← optional key.Label as_str name line
  worker ← optional key.Worker (worker_in workers) 0 line
  Ok (make (record {
    name = name;
    target = target;
    level = level;
    parent = parent;
    fields = fields;
    label = label;
    worker = worker;
  }))

-- a call on a span, by default one of worker 0
unfoldable pub on_span_of : ℕ → SpanCall → Data → Result Operation Reason
on_span_of workers call line = do
  span ← required key.Span span_key_in line
  worker ← optional key.Worker (worker_in workers) 0 line
  Ok (on_span call span worker)

-- further fields of a span: by default there are none, and worker 0 records them
unfoldable pub record_of : ℕ → Data → Result Operation Reason
record_of workers line = do
  span ← required key.Span span_key_in line
  fields ← optional key.Fields field_list_in [] line
  worker ← optional key.Worker (worker_in workers) 0 line
  Ok (record_fields span fields worker)

-- each event has the same name
unfoldable pub event_of : ℕ → Data → Result Operation Reason
event_of workers line = do
  message ← required key.Message as_str line
  target ← optional key.Target as_str (codes "app") line
  level ← optional key.Level level_in Info line
  fields ← optional key.Fields field_list_in [] line
  worker ← optional key.Worker (worker_in workers) 0 line
  Ok (tell (record {
    name = codes "event";
    target = target;
    level = level;
    message = message;
    fields = fields;
    worker = worker;
  }))

-- a span is looked up by `span`
abbrev pub find_by_span : Data → Option Data → Result Operation Reason
find_by_span line None = do
  span ← required key.Span span_key_in line
  Ok (find span)
find_by_span line (Some old) = do
  _ ← required key.Span span_key_in line
  Err (BadKey key.Old)

-- a span is looked up by its id of the older layout
abbrev pub find_old_of : Data → Result Operation Reason
find_old_of value = do
  span ← or_fault (old_id_in value) (BadKey key.Old)
  Ok (find span)

-- by `old` where it stands and `span` doesn't; both together are refused
abbrev pub find_by : Data → Option Data → Option Data → Result Operation Reason
find_by line None (Some old) = find_old_of old
find_by line None None = find_by_span line None
find_by line (Some span) old = find_by_span line old

-- a span is looked up by the key `span` or `old` of the line, as `find_by` says
unfoldable pub find_of : Data → Result Operation Reason
find_of line = find_by line (get (key_text key.Span) line) (get (key_text key.Old) line)

-- ---- a line's operation

-- what a line's key `op` may name; the calls on a span are four
pub data Op : Type 0 where
  limits_op : Op
  layer_op : Op
  new_op : Op
  span_op : SpanCall → Op
  record_op : Op
  event_op : Op
  find_op : Op

-- an op by its name
abbrev pub op_named : List ℕ → Option Op
op_named text =
    if bytes_eq text (codes "limits") then Some limits_op else
    (if bytes_eq text (codes "layer") then Some layer_op else
    (if bytes_eq text (codes "new") then Some new_op else
    (if bytes_eq text (codes "clone") then Some (span_op Clone) else
    (if bytes_eq text (codes "close") then Some (span_op Close) else
    (if bytes_eq text (codes "enter") then Some (span_op Enter) else
    (if bytes_eq text (codes "exit") then Some (span_op Exit) else
    (if bytes_eq text (codes "record") then Some record_op else
    (if bytes_eq text (codes "event") then Some event_op else
    (if bytes_eq text (codes "find") then Some find_op else None)))))))))

-- an op is written as a text, its name
abbrev pub op_in : Data → Option Op
op_in value = option_and_then op_named (as_str value)

-- the line's op, where its key `op` names one
abbrev pub op_at : Data → Option Op
op_at line = option_and_then op_in (get (codes "op") line)

-- the line's op; the line is at fault where it names none
unfoldable pub op_of : Data → Result Op Reason
op_of line = or_fault (op_at line) NoSuchOp

-- the operations that come before all others
abbrev pub sets_up : Op → Bool
sets_up limits_op = true
sets_up layer_op = true
sets_up new_op = false
sets_up (span_op call) = false
sets_up record_op = false
sets_up event_op = false
sets_up find_op = false

-- the line's op is one of these
unfoldable pub is_setup : Data → Bool
is_setup line = option_map_or sets_up (op_at line) false

-- how far a script has run: no line, or lines of `limits` and `layer` alone, or another line too
pub data Stage : Type 0 where
  at_start : Stage
  in_setup : Stage
  running : Stage

-- `limits` has to be the first line
abbrev pub takes_limits : Stage → Bool
takes_limits at_start = true
takes_limits in_setup = false
takes_limits running = false

-- `layer` has to come before each line of another operation but `limits`
abbrev pub takes_layers : Stage → Bool
takes_layers at_start = true
takes_layers in_setup = true
takes_layers running = false

-- what the line asks for with this op, where there are so many workers
abbrev pub keys_of : ℕ → Stage → Data → Op → Result Operation Reason
keys_of workers stage line limits_op = if takes_limits stage then limits_of line else Err LateLine
keys_of workers stage line layer_op = if takes_layers stage then layer_of line else Err LateLine
keys_of workers stage line new_op = new_of workers line
keys_of workers stage line (span_op call) = on_span_of workers call line
keys_of workers stage line record_op = record_of workers line
keys_of workers stage line event_op = event_of workers line
keys_of workers stage line find_op = find_of line

-- what a line's value asks for
unfoldable pub operation_of : ℕ → Stage → Data → Result Operation Reason
operation_of workers stage line = do
  _ ← or_fault (as_object line) NotObject
  op ← op_of line
  keys_of workers stage line op
