-- What the calls on a registry do, by their status.
use Rattle.std.specs.Prelude.{◌≡◌, ◌≢◌, ℕ, ◌<◌, ◌≤◌, ◌==◌, nat_lt, List, length, take, drop, Some, None, is_none, IsSomeAnd}
use Rattle.span_id.specs.declared.fault.Fault.TheVariants.{Unknown, Memory}
use Rattle.span_id.specs.Level.{verbosity}
use Rattle.span_id.specs.Meta.{PlainMeta, KeyValue}
use Rattle.span_stack.specs.Stack.{current}
use Rattle.span_forest.specs.declared.span.Holder.TheVariants.{Handle}
use Rattle.span_forest.specs.Node.{Node}
use Rattle.span_forest.specs.Spans.{Spans, find}
use Rattle.span_forest.specs.Count.{reference_count, total_held}
use Rattle.span_forest.specs.Release.{closing_list}
use Rattle.span_outlet.specs.Request.{Request, new_span, clone_span, enter, exit, try_close, record_fields, event, Answer, made, cloned, entered, exited, released, recorded, told, worker_of}
use Rattle.span_core.specs.Step.{closed_by_exit}
use Rattle.span_core.specs.World.{stack_of}
use Rattle.span_core.specs.History.{issued}
use Rattle.span_core.specs.ClosedSpans.{closed_in}
use Rattle.span_core.specs.Parent.{parent_found}
use Rattle.span_core.specs.Core.{CoreView, id_after, IsAccepted, IsRefused, IsNotWanted}
use Rattle.span_ffi.specs.declared.data.SpanField.{SpanField}
use Rattle.span_ffi.specs.declared.data.SpanFound.{SpanFound}
use Rattle.span_ffi.specs.declared.data.SpanCounts.{SpanCounts}
use Rattle.span_border.specs.declared.status.Status.{Status}
use Rattle.span_border.specs.declared.status.Status.TheVariants.{Done, Refused, BadData, NoSuchWorker}
use Rattle.span_border.specs.Ends.{IfDone}
use Rattle.span_border.specs.Numbers.{flag, id_number}
use Rattle.span_ffi.specs.Data.{IsSpan, IsEvent, AreFields, said_meta, said_fields, said_parent, behind_meta}
use Rattle.span_ffi.specs.Said.{SaidSpan, SaidEvent}

-- the registry has a worker of this number
abbrev pub HasWorker : CoreView → ℕ → Type 0
HasWorker core worker = worker < core.limits.workers

-- the registry has no worker of this number, and nothing changes
abbrev pub LacksWorker : CoreView → ℕ → CoreView → Type 0
LacksWorker old worker new = (old.limits.workers ≤ worker) × (new ≡ old)

-- A call of a worker: it is one step of the registry with this answer, or the registry refused it with this fault, or
-- there is no such worker.
abbrev pub AnswersWorker : Request → Answer → CoreView → Status → CoreView → Type 0
AnswersWorker request answer old Done new = HasWorker old (worker_of request) × IsAccepted old request answer new
AnswersWorker request answer old (Refused fault) new =
    HasWorker old (worker_of request) × IsRefused old request fault new
AnswersWorker request answer old NoSuchWorker new = LacksWorker old (worker_of request) new
AnswersWorker request answer old _ new = ⊥

-- one more handle of a span
abbrev pub Clones : ℕ → ℕ → CoreView → Status → CoreView → Type 0
Clones worker id = AnswersWorker (clone_span worker id) cloned

-- A worker enters a span; 1 is told where the entry is no duplicate, else 0.
abbrev pub Enters : ℕ → ℕ → ℕ → CoreView → Status → CoreView → Type 0
Enters worker id first old status new =
    AnswersWorker (enter worker id) (entered (first == 1)) old status new × IfDone status (first ≤ 1)

-- A worker leaves a span; 1 is told where the span closed, and then it is no longer found, else 0.
abbrev pub Exits : ℕ → ℕ → ℕ → CoreView → Status → CoreView → Type 0
Exits worker id closed old status new =
    let closing = closed_by_exit old.world worker id in
    AnswersWorker (exit worker id) (exited closing) old status new
    × IfDone status (closed ≡ flag (nat_lt 0 (length closing)))
    × IfDone status (closed ≡ flag (is_none (find new.world.spans id)))

-- A handle of a span is given back; 1 is told where the span closed, and then it is no longer found, else 0.
abbrev pub Releases : ℕ → ℕ → ℕ → CoreView → Status → CoreView → Type 0
Releases worker id closed old status new =
    let closing = closing_list old.world.spans id Handle in
    AnswersWorker (try_close worker id) (released closing) old status new
    × IfDone status (closed ≡ flag (nat_lt 0 (length closing)))
    × IfDone status (closed ≡ flag (is_none (find new.world.spans id)))

-- ---- calls with data

-- A call of a worker with data. `Says` holds where they say something, and then `request` is what they say. Where they
-- say nothing, the status says so, also where memory is short. Then, and where memory is refused, nothing changes.
abbrev pub AnswersData : ℕ → Type 0 → Request → Answer → CoreView → Status → CoreView → Type 0
AnswersData worker Says request answer old NoSuchWorker new = LacksWorker old worker new
AnswersData worker Says request answer old BadData new = HasWorker old worker × (Says → ⊥) × (new ≡ old)
AnswersData worker Says request answer old (Refused Memory) new = HasWorker old worker × Says × (new ≡ old)
AnswersData worker Says request answer old status new = Says × AnswersWorker request answer old status new

-- fields are appended to those of a span
abbrev pub Records : ℕ → ℕ → List SpanField → List ℕ → CoreView → Status → CoreView → Type 0
Records worker id fields bytes =
    AnswersData worker (AreFields fields bytes) (record_fields worker id (said_fields fields bytes)) recorded

-- an event is told under the parent that is said
abbrev pub TellsEvent : SaidEvent → CoreView → Status → CoreView → Type 0
TellsEvent said =
    let behind = behind_meta said.meta said.texts in
    AnswersData said.worker
    ((said.parent_kind ≤ 2) × IsEvent said.meta said.message_len said.fields said.texts)
    (event said.worker (said_meta said.meta said.texts) (take said.message_len behind)
    (said_fields said.fields (drop said.message_len behind)) (said_parent said.parent_kind said.parent)) told

-- a span with this meta and these fields, under the parent that is meant
abbrev pub span_asked : ℕ → ℕ → ℕ → PlainMeta → List KeyValue → CoreView → Request
span_asked worker kind parent meta fields core =
    new_span worker meta fields (parent_found core.world worker (said_parent kind parent))

-- the span was made, and the id is the one that the history so far gives; or there are layers and none admits it, and
-- the id is 0
abbrev pub IsMadeOrUnwanted : Request → ℕ → CoreView → CoreView → Type 0
IsMadeOrUnwanted request id old new =
    (id ≡ 0 → IsNotWanted old request new)
    × (id ≢ 0 → IsAccepted old request (made id) new × (id_after old ≡ Some id))

-- the call ended as `IsMade` says, or the registry refused it with this fault
abbrev pub IsMadeOrRefused : Request → ℕ → CoreView → Status → CoreView → Type 0
IsMadeOrRefused request id old Done new = IsMadeOrUnwanted request id old new
IsMadeOrRefused request id old (Refused fault) new = IsRefused old request fault new
IsMadeOrRefused request id old _ new = ⊥

-- A worker makes a span. `Says` holds where the data say something, and then `request` is what they ask for. Its id is
-- told, and 0 where there are layers and none admits it. Where the data say nothing, the status says so, also where
-- memory is short. Then, and where memory is refused, nothing changes.
abbrev pub MakesAsked : ℕ → Type 0 → Request → ℕ → CoreView → Status → CoreView → Type 0
MakesAsked worker Says request id old NoSuchWorker new = LacksWorker old worker new
MakesAsked worker Says request id old BadData new = HasWorker old worker × (Says → ⊥) × (new ≡ old)
MakesAsked worker Says request id old (Refused Memory) new = HasWorker old worker × Says × (new ≡ old)
MakesAsked worker Says request id old status new =
    HasWorker old worker × Says × IsMadeOrRefused request id old status new

-- the same of the span that is said
abbrev pub MakesSaid : SaidSpan → ℕ → CoreView → Status → CoreView → Type 0
MakesSaid said id old =
    let fields = said_fields said.fields (behind_meta said.meta said.texts) in
    MakesAsked said.worker (IsSpan said.parent_kind said.meta said.fields said.texts)
    (span_asked said.worker said.parent_kind said.parent (said_meta said.meta said.texts) fields old) id old

-- ---- questions, which change nothing

-- what is told of an open span
abbrev pub found_as : Spans → ℕ → Node → SpanFound
found_as spans id node = record {
  parent = id_number node.parent;
  handles = node.handles;
  entries = node.entries;
  count = reference_count spans id;
  level = verbosity node.level;
}

-- what is known of a span, where it is open
abbrev pub Finds : ℕ → SpanFound → CoreView → Status → CoreView → Type 0
Finds id found old Done new =
    IsSomeAnd (find old.world.spans id) (λ node. found ≡ found_as old.world.spans id node) × (new ≡ old)
Finds id found old (Refused Unknown) new = (find old.world.spans id ≡ None) × (new ≡ old)
Finds id found old _ new = ⊥

-- a worker's current span, 0 where it has none
abbrev pub SeesCurrent : ℕ → ℕ → CoreView → Status → CoreView → Type 0
SeesCurrent worker id old Done new =
    HasWorker old worker × (id ≡ id_number (current (stack_of old.world worker))) × (new ≡ old)
SeesCurrent worker id old NoSuchWorker new = LacksWorker old worker new
SeesCurrent worker id old _ new = ⊥

-- How many spans were made and closed, how many calls were accepted, how many handles and entries all spans have, how
-- many spans are open, and how many workers there are.
abbrev pub counts_as : CoreView → SpanCounts
counts_as core = record {
  made = length (issued core.sent);
  closed = length (closed_in core.sent);
  calls = length core.sent;
  held = total_held core.world.spans;
  «open» = length core.world.spans;
  workers = core.limits.workers;
}

-- the registry's counts are told, and nothing changes
abbrev pub Counts : SpanCounts → CoreView → Status → CoreView → Type 0
Counts counts old Done new = (counts ≡ counts_as old) × (new ≡ old)
Counts counts old _ new = ⊥
