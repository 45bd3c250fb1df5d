-- Operations, as the definitions see them.
use Rattle.std.specs.Prelude.{ℕ, ◌<◌}
use Rattle.std.specs.Arc.{arc_str_bytes}
use Rattle.span_layers.specs.FmtSpan.{bits_of}
use Rattle.span_layers.specs.Rule.{pairs_of}
use Rattle.span_script.specs.Operation as meant
use Rattle.span_script.specs.declared.operations.SpanKey.{SpanKey}
use Rattle.span_script.specs.declared.operations.SpanKey.TheVariants.{Label, Id}
use Rattle.span_script.specs.declared.operations.Parent.{Parent}
use Rattle.span_script.specs.declared.operations.Parent.TheVariants.{Current, Root, Named}
use Rattle.span_script.specs.declared.operations.NewSpan.{NewSpan}
use Rattle.span_script.specs.declared.operations.NewLayer.{NewLayer}
use Rattle.span_script.specs.declared.operations.NewEvent.{NewEvent}
use Rattle.span_script.specs.declared.operations.Operation.{Operation}
use Rattle.span_script.specs.declared.operations.Operation.TheVariants.{Limits, Layer, New, OnSpan, Record, Event, Find}
use Rattle.span_script.specs.declared.reading.Op as op
use Rattle.span_script.specs.declared.reading.Op.TheVariants as ops
use Rattle.span_script.specs.declared.reading.Stage.{Stage}
use Rattle.span_script.specs.declared.reading.Stage.TheVariants.{AtStart, InSetup, Running}

-- how a line names a span, with a label as bytes
abbrev pub key_seen : SpanKey → meant.SpanKey
key_seen (Label text) = meant.by_label text.now
key_seen (Id id) = meant.by_id id

-- what a new span is to stand under, with a label as bytes
abbrev pub parent_seen : Parent → meant.Parent
parent_seen Current = meant.current
parent_seen Root = meant.root
parent_seen (Named key) = meant.named (key_seen key)

-- a new span, with its texts as bytes
abbrev pub new_seen : NewSpan → meant.NewSpan
new_seen new = record {
  name = new.meta.name;
  target = new.meta.target;
  level = new.meta.level;
  parent = parent_seen new.parent;
  fields = new.fields;
  label = new.label.now;
  worker = new.worker;
}

-- a layer: its form, the kinds that it wants, as a number, and its rule's pairs
abbrev pub layer_seen : NewLayer → meant.NewLayer
layer_seen layer = record { form = layer.style.form; spans = bits_of layer.style.spans; rule = pairs_of layer.rule }

-- an event, with its texts as bytes
abbrev pub event_seen : NewEvent → meant.NewEvent
event_seen event = record {
  name = event.meta.name;
  target = event.meta.target;
  level = event.meta.level;
  message = arc_str_bytes event.message;
  fields = event.fields;
  worker = event.worker;
}

-- an operation, with its parts as the definitions see them
abbrev pub operation_seen : Operation → meant.Operation
operation_seen (Limits limits) = meant.set_limits limits
operation_seen (Layer layer) = meant.add_layer (layer_seen layer)
operation_seen (New new) = meant.make (new_seen new)
operation_seen (OnSpan call span worker) = meant.on_span call (key_seen span) worker
operation_seen (Record span fields worker) = meant.record_fields (key_seen span) fields worker
operation_seen (Event event) = meant.tell (event_seen event)
operation_seen (Find span) = meant.find (key_seen span)

-- an op, as the definitions name it
abbrev pub op_seen : op.Op → meant.Op
op_seen ops.Limits = meant.limits_op
op_seen ops.Layer = meant.layer_op
op_seen ops.New = meant.new_op
op_seen (ops.OnSpan call) = meant.span_op call
op_seen ops.Record = meant.record_op
op_seen ops.Event = meant.event_op
op_seen ops.Find = meant.find_op

-- a stage, as the definitions name it
abbrev pub stage_seen : Stage → meant.Stage
stage_seen AtStart = meant.at_start
stage_seen InSetup = meant.in_setup
stage_seen Running = meant.running

-- the worker that an operation names is one of so many
abbrev pub NamesWorker : Operation → ℕ → Type 0
NamesWorker (Limits limits) workers = Unit {0}
NamesWorker (Layer layer) workers = Unit {0}
NamesWorker (New new) workers = new.worker < workers
NamesWorker (OnSpan call span worker) workers = worker < workers
NamesWorker (Record span fields worker) workers = worker < workers
NamesWorker (Event event) workers = event.worker < workers
NamesWorker (Find span) workers = Unit {0}

-- an operation that comes after the set-up: a call, or `find`
abbrev pub IsCall : Operation → Type 0
IsCall (Limits limits) = ⊥
IsCall (Layer layer) = ⊥
IsCall _ = Unit {0}
