-- Worked cases of the definitions, by computation.
use Rattle.std.proofs.Common.{◌≡◌, ℕ, Bool, true, false, List, [], ◌∷◌, ◌++◌, Option, Some, None, refl, arith}
use Rattle.std.specs.Prelude.{codes, count_by}
use Rattle.span_id.specs.declared.level.Level.TheVariants.{Info, Trace}
use Rattle.span_id.specs.declared.fault.Fault.TheVariants.{Unknown, CountFull, Full, NotEntered, BadName}
use Rattle.span_layers.specs.declared.form.Form.TheVariants.{Compact}
use Rattle.span_layers.specs.declared.note.Kind.TheVariants.{OnNew, OnEvent, OnExit, OnClose}
use Rattle.span_layers.specs.Note.{PlainNote}
use Rattle.std.specs.Fmt.{digits}
use Rattle.span_layers.specs.Rule.{is_admitted}
use Rattle.span_layers.specs.Filter.{Filter}
use Rattle.span_layers.specs.Text.{text_of}
use Rattle.span_forest.specs.declared.span.Holder.TheVariants.{Entry}
use Rattle.span_forest.specs.Node.{Node}
use Rattle.span_forest.specs.Spans.{Spans}
use Rattle.span_forest.specs.Release.{closing_list}
use Rattle.span_stack.specs.Stack.{current}
use Rattle.span_core.specs.World.{World, empty_world, stack_of, workers_inside, entries_in}
use Rattle.span_id.specs.Meta.{PlainMeta}
use Rattle.span_outlet.specs.declared.batch.ParentOf.{ParentOf}
use Rattle.span_outlet.specs.declared.batch.ParentOf.TheVariants.{Root, Current, Of}
use Rattle.span_outlet.specs.Request.{Request, new_span, exit, try_close, event, Answer, made, exited, released, told, enter, entered}
use Rattle.span_outlet.specs.Batch.{PlainBatch}
use Rattle.span_core.specs.Happening.{contextual_span, event_told, happenings, notes_of_all}
use Rattle.span_core.specs.Step.{is_wanted_meta, closed_by_exit}
use Rattle.span_core.specs.History.{IsLegal, issued}
use Rattle.span_core.specs.History.IsLegal.{none, more}
use Rattle.span_core.specs.NextId.{next_id_after}
use Rattle.span_core.specs.ClosedSpans.{closed_by, closed_in, gives_back, spans_before_closing, tells_close, hears_close}
use Rattle.span_outlet.specs.Lines.{lines_of}
use Rattle.span_core.specs.Core.{CoreView}
use Rattle.span_core.specs.Wanted.{IsMaxLevel}
use Rattle.span_core.specs.Outcome.{outcome, refused, not_wanted, accepted}

-- two layers: one lets everything in and wants all kinds, one lets in what begins with `app` up to INFO and wants new spans alone
abbrev everything : Filter
everything = record { pairs = (codes "", Trace) ∷ []; spans = 15 }

abbrev only_app : Filter
only_app = record { pairs = (codes "app", Info) ∷ []; spans = 1 }

abbrev meta : List ℕ → List ℕ → PlainMeta
meta name target = record { name = name; target = target; level = Info }

abbrev span : List ℕ → ℕ → Option ℕ → ℕ → ℕ → Node
span name bits parent handles entries = record { name = name; target = codes "app"; level = Info; fields = []; bits = bits; parent = parent; handles = handles; entries = entries }

-- `a`, under it `q`, which the second layer doesn't admit, and under that `c`; worker 0 has entered `a` and `q`
abbrev three : Spans
three = (1, span (codes "a") 3 None 1 1) ∷ (2, span (codes "q") 1 (Some 1) 1 1) ∷ (3, span (codes "c") 3 (Some 2) 1 0) ∷ []

abbrev inside : World
inside = record { spans = three; stacks = (1 ∷ 2 ∷ []) ∷ [] ∷ [] }

-- the first layer sees an event at the current span, the second at the topmost that it admits
first_sees_current : contextual_span three (stack_of inside 0) 0 ≡ Some 2
first_sees_current = refl

second_sees_below : contextual_span three (stack_of inside 0) 1 ≡ Some 1
second_sees_below = refl

nothing_entered : contextual_span three (stack_of inside 1) 0 ≡ None
nothing_entered = refl

-- each layer is told of an event with its own id and path
abbrev noted : ℕ → ℕ → List ℕ → PlainNote
noted layer id path = record { layer = layer; kind = OnEvent; worker = 0; id = id; path = path; fields = (codes "k", codes "v") ∷ []; event = Some (record { level = Info; message = codes "hi" }) }

abbrev told_in : ParentOf → List PlainNote
told_in parent =
    notes_of_all (everything ∷ only_app ∷ []) 0 (event_told (everything ∷ only_app ∷ []) inside 0 (meta (codes "event") (codes "app")) (codes "hi") ((codes "k", codes "v") ∷ []) parent ∷ [])

event_of_two_layers : told_in Current ≡ noted 0 2 (codes "a:q") ∷ noted 1 1 (codes "a") ∷ []
unfolding is_admitted
event_of_two_layers =
    refl

-- under `q` the first layer sees it there, and the second, which doesn't admit `q`, in no span
event_under_q : told_in (Of 2) ≡ noted 0 2 (codes "a:q") ∷ noted 1 0 (codes "-") ∷ []
unfolding is_admitted
event_under_q =
    refl

-- under `c`, which no worker has entered, both see it there; the second leaves `q` out of the path
event_under_c : told_in (Of 3) ≡ noted 0 3 (codes "a:q:c") ∷ noted 1 3 (codes "a:c") ∷ []
unfolding is_admitted
event_under_c =
    refl

-- under no parent both see it in no span, wherever the worker is
event_under_none : told_in Root ≡ noted 0 0 (codes "-") ∷ noted 1 0 (codes "-") ∷ []
unfolding is_admitted
event_under_none =
    refl

-- a span that no layer admits isn't wanted; without layers all spans are
unwanted : is_wanted_meta (only_app ∷ []) (meta (codes "b") (codes "lib")) ≡ false
unfolding is_admitted
unwanted = refl

wanted_without_layers : is_wanted_meta [] (meta (codes "b") (codes "lib")) ≡ true
wanted_without_layers = refl

-- up to which level: everything without layers, and nothing where no layer has a rule
trace_without_layers : IsMaxLevel [] (Some Trace)
trace_without_layers = refl

none_without_layers : IsMaxLevel [] None → ⊥
none_without_layers is = cc

none_without_rules : IsMaxLevel (record { pairs = []; spans = 15 } ∷ []) None
none_without_rules = refl

trace_without_rules : IsMaxLevel (record { pairs = []; spans = 15 } ∷ []) (Some Trace) → ⊥
trace_without_rules is = let place = is.0.1 in absurd (omega arith)

-- an exit that causes closes is told before them, and the closes child first, each with the path of its own layer
abbrev entered_alone : World
entered_alone = record { spans = (1, span (codes "a") 3 None 0 0) ∷ (2, span (codes "b") 3 (Some 1) 0 1) ∷ []; stacks = (2 ∷ []) ∷ [] }

abbrev note_at : Bool → ℕ → List ℕ → PlainNote
note_at true id path = record { layer = 0; kind = OnExit; worker = 0; id = id; path = path; fields = []; event = None }
note_at false id path = record { layer = 0; kind = OnClose; worker = 0; id = id; path = path; fields = []; event = None }

exit_before_closes :
    notes_of_all (everything ∷ only_app ∷ []) 0 (happenings (everything ∷ only_app ∷ []) entered_alone (exit 0 2) (exited (closing_list entered_alone.spans 2 Entry)) (empty_world 1))
    ≡ note_at true 2 (codes "a:b") ∷ note_at false 2 (codes "a:b") ∷ note_at false 1 (codes "a") ∷ []
exit_before_closes =
    refl

-- an exit closes nothing while the span still stands in the worker's stack; the last one closes what nothing holds any longer
abbrev entered_twice : World
entered_twice = record entered_alone { stacks = (2 ∷ 2 ∷ []) ∷ [] }

exit_stays : closed_by_exit entered_twice 0 2 ≡ []
exit_stays = refl

exit_leaves : closed_by_exit entered_alone 0 2 ≡ 2 ∷ 1 ∷ []
exit_leaves = refl

-- the exit gives the one entry back; b and a close by it, and only the first layer wants to be told, once of each
exit_gives_entry_back : spans_before_closing entered_alone (exit 0 2) ≡ (1, span (codes "a") 3 None 0 0) ∷ (2, span (codes "b") 3 (Some 1) 0 0) ∷ []
exit_gives_entry_back = refl

nothing_given_back : spans_before_closing entered_alone (enter 0 2) ≡ entered_alone.spans
nothing_given_back = refl

exit_gives_back : gives_back (exit 0 2) ≡ true
exit_gives_back = refl

enter_gives_none_back : gives_back (enter 0 2) ≡ false
enter_gives_none_back = refl

exit_closes : closed_by (exited (closing_list entered_alone.spans 2 Entry)) ≡ 2 ∷ 1 ∷ []
exit_closes = refl

first_layer_hears : hears_close (everything ∷ only_app ∷ []) entered_alone.spans 0 1 ≡ true
first_layer_hears = refl

second_layer_wants_none : hears_close (everything ∷ only_app ∷ []) entered_alone.spans 1 1 ≡ false
second_layer_wants_none = refl

abbrev notes_of_exit : List PlainNote
notes_of_exit = note_at true 2 (codes "a:b") ∷ note_at false 2 (codes "a:b") ∷ note_at false 1 (codes "a") ∷ []

told_of_child_once : count_by (tells_close 0 2) notes_of_exit ≡ 1
told_of_child_once = refl

told_of_parent_once : count_by (tells_close 0 1) notes_of_exit ≡ 1
told_of_parent_once = refl

second_layer_told_of_none : count_by (tells_close 1 1) notes_of_exit ≡ 0
second_layer_told_of_none = refl

-- after entering a, b and a again the current span is b, and each span has one worker inside
entered_again : current (1 ∷ 2 ∷ 1 ∷ []) ≡ Some 2
entered_again = refl

counted_once : workers_inside ((1 ∷ 2 ∷ 1 ∷ []) ∷ [] ∷ []) 1 ≡ 1
counted_once = refl

-- each worker's entry of a span is one, however often it entered it
entries_of_two_workers : entries_in ((1 ∷ 2 ∷ 1 ∷ []) ∷ [] ∷ (2 ∷ 2 ∷ []) ∷ []) ≡ 3
entries_of_two_workers = refl

no_entries : entries_in (empty_world 2).stacks ≡ 0
no_entries = refl

abbrev batch : Request → Answer → PlainBatch
batch request answer = record { request = request; answer = answer; notes = [] }

abbrev made_a : PlainBatch
made_a = batch (new_span 0 (meta (codes "a") (codes "app")) [] None) (made 1)

-- a, b under it, a's handle given back, then b's: the root's slot was freed last and is given again
abbrev family : List PlainBatch
family =
    made_a
    ∷ batch (new_span 0 (meta (codes "b") (codes "app")) [] (Some 1)) (made 2)
    ∷ batch (try_close 0 1) (released [])
    ∷ batch (try_close 0 2) (released (2 ∷ 1 ∷ []))
    ∷ []

ids_of_family : issued family ≡ 1 ∷ 2 ∷ []
ids_of_family = refl

closed_in_family : closed_in family ≡ 2 ∷ 1 ∷ []
closed_in_family = refl

root_slot_again : next_id_after 1024 4294967295 family ≡ Some 16777217
root_slot_again = refl

lowest_unused : next_id_after 1024 4294967295 (made_a ∷ []) ≡ Some 2
lowest_unused = refl

-- one slot whose last generation is 1: after two spans it is retired
abbrev once_more : List PlainBatch
once_more = made_a ∷ batch (try_close 0 1) (released (1 ∷ [])) ∷ []

slot_again : next_id_after 1 1 once_more ≡ Some 16777217
slot_again = refl

retired : next_id_after 1 1 (once_more ++ batch (new_span 0 (meta (codes "b") (codes "app")) [] None) (made 16777217) ∷ batch (try_close 0 16777217) (released (16777217 ∷ [])) ∷ []) ≡ None
retired = refl

-- a span that is made and closed, without layers, is a legal history and leaves the empty world
legal : IsLegal [] 1 (made_a ∷ batch (try_close 0 1) (released (1 ∷ [])) ∷ []) (empty_world 1)
legal =
    more (batch (try_close 0 1) (released (1 ∷ [])))
    (more made_a none
    (record { within = omega arith; changes = record { wanted = refl; known = refl; inside = refl; id = 1; answer_is = refl; id_is_new = ((omega arith, omega arith), refl); after = refl }; notes_are = refl }) refl)
    (record { within = omega arith; changes = record { wanted = refl; known = refl; inside = refl; id = 0; answer_is = refl; id_is_new = tt; after = refl }; notes_are = refl })
    refl

-- the lines of a history: the number of the batch, the place in it, the layer, and the text
abbrev told_of_a : PlainNote
told_of_a = record { layer = 0; kind = OnNew; worker = 0; id = 1; path = codes "a"; fields = []; event = None }

line_of_a : lines_of (Compact ∷ []) (record { request = new_span 0 (meta (codes "a") (codes "app")) [] None; answer = made 1; notes = told_of_a ∷ [] } ∷ [])
    ≡ (record { batch = 0; place = 0; layer = 0; text = codes "new 1 w0 a" }) ∷ []
unfolding text_of digits
line_of_a = refl

-- a layer without a form has no line
no_line : lines_of [] (record { request = new_span 0 (meta (codes "a") (codes "app")) [] None; answer = made 1; notes = told_of_a ∷ [] } ∷ []) ≡ []
no_line = refl

-- ---- what a call does, as a function

-- 3 slots of 2 generations each: `a` and `b` under it were made, and both ids of the third slot were given and closed
abbrev two_made : List PlainBatch
two_made =
    batch (new_span 0 (meta (codes "a") (codes "app")) [] None) (made 1)
    ∷ batch (new_span 0 (meta (codes "b") (codes "app")) [] (Some 1)) (made 2)
    ∷ []

abbrev used_up : List PlainBatch
used_up =
    two_made
    ++ batch (new_span 0 (meta (codes "c") (codes "app")) [] None) (made 3)
    ∷ batch (try_close 0 3) (released (3 ∷ []))
    ∷ batch (new_span 0 (meta (codes "c") (codes "app")) [] None) (made 16777219)
    ∷ batch (try_close 0 16777219) (released (16777219 ∷ []))
    ∷ []

-- `a` has a handle, a worker inside and a child, which is its greatest count; `b` has a worker inside and no handle
abbrev parent_and_child : Spans
parent_and_child = (1, span (codes "a") 1 None 1 1) ∷ (2, span (codes "b") 1 (Some 1) 0 1) ∷ []

-- worker 0 has entered `a`, `b` and `a` again
abbrev core_of : List PlainBatch → CoreView
core_of sent = record {
  limits = record { slots = 3; last_generation = 1; max_count = 3; workers = 2; ring = 1 };
  rules = only_app ∷ [];
  world = record { spans = parent_and_child; stacks = (1 ∷ 2 ∷ 1 ∷ []) ∷ [] ∷ [] };
  sent = sent;
  times_full = 0;
  forms = [];
  name = None;
}

-- one batch more, and this world
abbrev one_more : CoreView → Spans → List (List ℕ) → PlainBatch → CoreView
one_more core spans stacks last = record core { world = record { spans = spans; stacks = stacks }; sent = core.sent ++ last ∷ [] }

-- each refusal comes before the next: a name, a span that no layer wants, a parent, the count of the parent, a slot
bad_name : outcome (core_of used_up) (new_span 0 (meta (codes "") (codes "lib")) [] (Some 9)) ≡ refused BadName
bad_name = refl

bad_key : outcome (core_of used_up) (new_span 0 (meta (codes "x") (codes "lib")) ((codes "k y", codes "v") ∷ []) (Some 9)) ≡ refused BadName
bad_key = refl

no_layer : outcome (core_of used_up) (new_span 0 (meta (codes "x") (codes "lib")) [] (Some 9)) ≡ not_wanted
unfolding is_admitted
no_layer = refl

no_parent : outcome (core_of used_up) (new_span 0 (meta (codes "x") (codes "app")) [] (Some 9)) ≡ refused Unknown
unfolding is_admitted
no_parent = refl

full_parent : outcome (core_of used_up) (new_span 0 (meta (codes "x") (codes "app")) [] (Some 1)) ≡ refused CountFull
unfolding is_admitted
full_parent = refl

no_slot : outcome (core_of used_up) (new_span 0 (meta (codes "x") (codes "app")) [] (Some 2)) ≡ refused Full
unfolding is_admitted
no_slot = refl

-- where a slot is free, the span is made under the next id, and the layer is told
new_of_x : PlainNote
new_of_x = record { layer = 0; kind = OnNew; worker = 0; id = 3; path = codes "a:b:x"; fields = []; event = None }

made_under_b :
    outcome (core_of two_made) (new_span 0 (meta (codes "x") (codes "app")) [] (Some 2))
    ≡ accepted (made 3) (new_of_x ∷ [])
    (one_more (core_of two_made) (parent_and_child ++ (3, span (codes "x") 1 (Some 2) 1 0) ∷ []) ((1 ∷ 2 ∷ 1 ∷ []) ∷ [] ∷ [])
    (record { request = new_span 0 (meta (codes "x") (codes "app")) [] (Some 2); answer = made 3; notes = new_of_x ∷ [] }))
unfolding is_admitted new_of_x
made_under_b = refl

-- an event whose parent isn't open is refused, unless its name is refused already
closed_parent_of_event : outcome (core_of used_up) (event 0 (meta (codes "x") (codes "app")) [] [] (Of 9)) ≡ refused Unknown
closed_parent_of_event = refl

bad_name_of_event : outcome (core_of used_up) (event 0 (meta (codes "") (codes "app")) [] [] (Of 9)) ≡ refused BadName
bad_name_of_event = refl

-- under a span that is at its greatest count it is told, and the count stays
note_of_x : PlainNote
note_of_x = record { layer = 0; kind = OnEvent; worker = 1; id = 1; path = codes "a"; fields = []; event = Some (record { level = Info; message = codes "hi" }) }

told_under_a :
    outcome (core_of used_up) (event 1 (meta (codes "x") (codes "app")) (codes "hi") [] (Of 1))
    ≡ accepted told (note_of_x ∷ [])
    (one_more (core_of used_up) parent_and_child ((1 ∷ 2 ∷ 1 ∷ []) ∷ [] ∷ [])
    (record { request = event 1 (meta (codes "x") (codes "app")) (codes "hi") [] (Of 1); answer = told; notes = note_of_x ∷ [] }))
unfolding is_admitted note_of_x
told_under_a = refl

-- a span without a handle can't be entered, also by the worker that is inside it
no_handle : outcome (core_of used_up) (enter 0 2) ≡ refused Unknown
no_handle = refl

-- at the greatest count another worker can't enter, but the one that is inside can enter again
full_count : outcome (core_of used_up) (enter 1 1) ≡ refused CountFull
full_count = refl

enters_again :
    outcome (core_of used_up) (enter 0 1)
    ≡ accepted (entered false) [] (one_more (core_of used_up) parent_and_child ((1 ∷ 2 ∷ 1 ∷ 1 ∷ []) ∷ [] ∷ []) (batch (enter 0 1) (entered false)))
enters_again = refl

-- an exit of a closed span, and of one that the worker didn't enter
exit_of_closed : outcome (core_of used_up) (exit 1 9) ≡ refused Unknown
exit_of_closed = refl

exit_of_not_entered : outcome (core_of used_up) (exit 1 2) ≡ refused NotEntered
exit_of_not_entered = refl

-- an exit after which the worker is still inside takes the topmost place out, and releases nothing
stays :
    outcome (core_of used_up) (exit 0 1)
    ≡ accepted (exited []) [] (one_more (core_of used_up) parent_and_child ((1 ∷ 2 ∷ []) ∷ [] ∷ []) (batch (exit 0 1) (exited [])))
stays = refl

-- an exit that releases the last holder closes the span
closes :
    outcome (core_of used_up) (exit 0 2)
    ≡ accepted (exited (2 ∷ [])) [] (one_more (core_of used_up) ((1, span (codes "a") 1 None 1 1) ∷ []) ((1 ∷ 1 ∷ []) ∷ [] ∷ []) (batch (exit 0 2) (exited (2 ∷ []))))
closes = refl
