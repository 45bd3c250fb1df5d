-- One accepted call, as a step from a world to the next.
use Rattle.std.specs.Prelude.{◌≡◌, ℕ, ◌<◌, ◌==◌, Bool, true, false, ◌||◌, not, nat_lt, cond, List, [], ◌∷◌, ◌++◌, length, Option, Some, None, is_some}
use Rattle.span_id.specs.Id.{IsId}
use Rattle.span_id.specs.Meta.{KeyValue, PlainMeta}
use Rattle.span_id.specs.Ids.{has}
use Rattle.span_layers.specs.Note.{PlainNote}
use Rattle.span_layers.specs.Filter.{Filter, admission_set}
use Rattle.span_forest.specs.declared.span.Holder.TheVariants.{Handle, Entry}
use Rattle.span_forest.specs.Node.{new_node, with_fields}
use Rattle.span_forest.specs.Spans.{Spans, find, with_entry, with_change}
use Rattle.span_forest.specs.Holders.{held_in}
use Rattle.span_forest.specs.Keep.{with_holder}
use Rattle.span_forest.specs.Release.{spans_left, closing_list}
use Rattle.span_stack.specs.Stack.{without_last}
use Rattle.span_core.specs.World.{World, stack_of, with_stack}
use Rattle.span_core.specs.Parent.{parent_named}
use Rattle.span_outlet.specs.Request.{Request, new_span, clone_span, enter, exit, try_close, record_fields, event, Answer, made, cloned, entered, exited, released, recorded, told, worker_of}
use Rattle.span_core.specs.Happening.{happenings, notes_of_all}

-- a span or an event is wanted where there is no layer, or one admits it
abbrev pub is_wanted_meta : List Filter → PlainMeta → Bool
is_wanted_meta rules meta = length rules == 0 || not (admission_set rules meta.target meta.level == 0)

-- ---- the world after each call

-- one span more: its admission set is that of the call's meta
abbrev pub world_made : List Filter → World → PlainMeta → List KeyValue → Option ℕ → ℕ → World
world_made rules old meta fields parent id =
    record old {
      spans = with_entry old.spans id (new_node meta fields parent (admission_set rules meta.target meta.level));
    }

-- one handle more
abbrev pub world_cloned : World → ℕ → World
world_cloned old id = record old { spans = with_holder old.spans id Handle }

-- one more entry in the worker's stack; only where it is no duplicate it holds the span
abbrev pub world_entered : World → ℕ → ℕ → Bool → World
world_entered old worker id first = record {
  spans = cond first (with_holder old.spans id Entry) old.spans;
  stacks = with_stack old worker (stack_of old worker ++ id ∷ []);
}

-- once the last place of the id is taken out, the id still stands in the worker's stack
abbrev pub stays_inside : World → ℕ → ℕ → Bool
stays_inside old worker id = has (without_last (stack_of old worker) id) id

-- the last place of the id is taken out; where the id stands in the stack no longer, the entry is released
abbrev pub world_exited : World → ℕ → ℕ → World
world_exited old worker id = record {
  spans = cond (stays_inside old worker id) old.spans (spans_left old.spans id Entry);
  stacks = with_stack old worker (without_last (stack_of old worker) id);
}

-- the spans that close where a worker leaves a span
abbrev pub closed_by_exit : World → ℕ → ℕ → List ℕ
closed_by_exit old worker id = cond (stays_inside old worker id) [] (closing_list old.spans id Entry)

-- one handle less, and without the spans that nothing holds any longer
abbrev pub world_released : World → ℕ → World
world_released old id = record old { spans = spans_left old.spans id Handle }

-- fields of a span more
abbrev pub world_recorded : World → ℕ → List KeyValue → World
world_recorded old id fields = record old { spans = with_change (with_fields fields) old.spans id }

-- ---- what a call answers, the world after it, and the notes

-- what an accepted call answers, where a new span gets this id
abbrev pub answer_to : World → ℕ → Request → Answer
answer_to old id (new_span worker meta fields parent) = made id
answer_to old id (clone_span worker held) = cloned
answer_to old id (enter worker held) = entered (not (has (stack_of old worker) held))
answer_to old id (exit worker left) = exited (closed_by_exit old worker left)
answer_to old id (try_close worker held) = released (closing_list old.spans held Handle)
answer_to old id (record_fields worker held fields) = recorded
answer_to old id (event worker meta message fields parent) = told

-- the world after a call with this answer
abbrev pub world_after : List Filter → World → Request → Answer → World
world_after rules old (new_span worker meta fields parent) (made id) = world_made rules old meta fields parent id
world_after rules old (clone_span worker id) answer = world_cloned old id
world_after rules old (enter worker id) (entered first) = world_entered old worker id first
world_after rules old (exit worker id) answer = world_exited old worker id
world_after rules old (try_close worker id) answer = world_released old id
world_after rules old (record_fields worker id fields) answer = world_recorded old id fields
world_after rules old _ answer = old

-- the notes of a call with this answer that leaves this world
abbrev pub notes_after : List Filter → World → Request → Answer → World → List PlainNote
notes_after rules old request answer new =
    notes_of_all rules (worker_of request) (happenings rules old request answer new)

-- ---- what a call needs of the world

-- the span is open
abbrev pub is_open : Spans → ℕ → Bool
is_open spans id = is_some (find spans id)

-- a parent is none or open
abbrev pub is_open_parent : Spans → Option ℕ → Bool
is_open_parent spans None = true
is_open_parent spans (Some id) = is_open spans id

-- the span is open and has a handle
abbrev pub has_handle : Spans → ℕ → Bool
has_handle spans id = nat_lt 0 (held_in Handle (find spans id))

-- a call that makes a span is wanted where the span is; any other call always
abbrev pub is_wanted_call : List Filter → Request → Bool
is_wanted_call rules (new_span worker meta fields parent) = is_wanted_meta rules meta
is_wanted_call rules _ = true

-- what the call names is there: a parent and the span of an exit are open, the span of any other call has a handle
abbrev pub is_known : Spans → Request → Bool
is_known spans (new_span worker meta fields parent) = is_open_parent spans parent
is_known spans (clone_span worker id) = has_handle spans id
is_known spans (enter worker id) = has_handle spans id
is_known spans (exit worker id) = is_open spans id
is_known spans (try_close worker id) = has_handle spans id
is_known spans (record_fields worker id fields) = has_handle spans id
is_known spans (event worker meta message fields parent) = is_open_parent spans (parent_named parent)

-- the span of an exit stands in the caller's stack
abbrev pub is_inside : World → Request → Bool
is_inside world (exit worker id) = has (stack_of world worker) id
is_inside world _ = true

-- ---- the step

-- the id is in the layout, and was never issued
abbrev pub IsNewId : List ℕ → ℕ → Type 0
IsNewId issued id = IsId id × (has issued id ≡ false)

-- the id that an answer issues, if it does, is new
abbrev pub IssuesNewId : List ℕ → Answer → Type 0
IssuesNewId issued (made id) = IsNewId issued id
IssuesNewId issued _ = Unit {0}

-- A call changes the world so: what it needs is there, this answer is the one that it gets, and the world after it is
-- what it makes of the world before. A new span gets an id that was never issued.
pub record Changes
    (rules : List Filter) (issued : List ℕ) (old : World) (request : Request) (answer : Answer) (new : World)
    : Type 0 where
  pub wanted : is_wanted_call rules request ≡ true
  pub known : is_known old.spans request ≡ true
  pub inside : is_inside old request ≡ true
  -- of a new span; for any other call it may be any number
  pub id : ℕ
  pub answer_is : answer ≡ answer_to old id request
  pub id_is_new : IssuesNewId issued answer
  pub after : new ≡ world_after rules old request answer

-- one accepted call: the caller is one of the workers, the world changes as the call says, and the notes are
-- those of the call's happenings
pub record IsStep
    (rules : List Filter) (issued : List ℕ) (old : World) (request : Request) (answer : Answer)
    (notes : List PlainNote) (new : World)
    : Type 0 where
  pub within : worker_of request < length old.stacks
  pub changes : Changes rules issued old request answer new
  pub notes_are : notes ≡ notes_after rules old request answer new
