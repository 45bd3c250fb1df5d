-- Each accepted call as a step, and what is held where a worker is inside.
use Rattle.std.proofs.Common.{◌≡◌, true, false, ℕ, ◌<◌, Bool, cond, not, List, [], ◌∷◌, ◌++◌, length, map, get_or, set, Option, Some, None, refl, ap, ◌∙◌, inl, inr, arith}
use Rattle.std.proofs.lemmas.Bool.{cases_Bool}
use Rattle.span_layers.specs.declared.note.Kind.TheVariants.{OnExit, OnRecord, OnEnter}
use Rattle.span_id.specs.Meta.{KeyValue}
use Rattle.span_id.specs.Ids.{has}
use Rattle.span_layers.specs.Note.{PlainNote}
use Rattle.span_layers.specs.Filter.{Filter}
use Rattle.span_forest.specs.declared.span.Holder.{Holder}
use Rattle.span_forest.specs.declared.span.Holder.TheVariants.{Handle, Entry}
use Rattle.span_forest.specs.Node.{Node, with_fields}
use Rattle.span_forest.specs.Spans.{Spans, find, with_change}
use Rattle.span_forest.specs.Holders.{IsHeld, held_in}
use Rattle.span_forest.specs.Keep.{with_holder}
use Rattle.span_forest.specs.Release.{closing_list, spans_left}
use Rattle.span_stack.specs.Stack.{without_last}
use Rattle.span_core.specs.World.{IsWorld}
use Rattle.span_outlet.specs.Request.{enter, entered, exit, exited, clone_span, cloned, record_fields, recorded, try_close, released}
use Rattle.span_core.specs.Happening.{notes_of_all, close_of, at_span}
use Rattle.span_core.specs.Step.{IsStep, is_open}
use Rattle.span_core.proofs.Deciding.{handle_from}
use Rattle.span_core.proofs.Worlds.{world_left, world_left_still, inside-set}

pub step_clone : (rules : List Filter) (ids : List ℕ) (spans new_spans : Spans) (stacks : List (List ℕ)) (worker id : ℕ) (notes : List PlainNote)
    → worker < length stacks
    → IsHeld spans id Handle
    → new_spans ≡ with_holder spans id Handle
    → notes ≡ []
    → IsStep rules ids (record { spans = spans; stacks = stacks }) (clone_span worker id) cloned notes (record { spans = new_spans; stacks = stacks })
step_clone rules ids spans new_spans stacks worker id notes within held spans_are none = record {
  within = within;
  changes = record {
    wanted = refl;
    known = handle_from spans id held;
    inside = refl;
    id = 0;
    answer_is = refl;
    id_is_new = tt;
    after = λ j. record { spans = spans_are j; stacks = stacks };
  };
  notes_are = none;
}

pub step_record : (rules : List Filter) (ids : List ℕ) (spans new_spans : Spans) (stacks : List (List ℕ)) (worker id : ℕ) (fields : List KeyValue) (notes : List PlainNote)
    → worker < length stacks
    → IsHeld spans id Handle
    → new_spans ≡ with_change (with_fields fields) spans id
    → notes ≡ notes_of_all rules worker (at_span spans OnRecord id fields ∷ [])
    → IsStep rules ids (record { spans = spans; stacks = stacks }) (record_fields worker id fields) recorded notes (record { spans = new_spans; stacks = stacks })
step_record rules ids spans new_spans stacks worker id fields notes within held spans_are notes_are = record {
  within = within;
  changes = record {
    wanted = refl;
    known = handle_from spans id held;
    inside = refl;
    id = 0;
    answer_is = refl;
    id_is_new = tt;
    after = λ j. record { spans = spans_are j; stacks = stacks };
  };
  notes_are = notes_are;
}

pub step_close : (rules : List Filter) (ids : List ℕ) (spans new_spans : Spans) (stacks : List (List ℕ)) (worker id : ℕ) (closed : List ℕ) (notes : List PlainNote)
    → worker < length stacks
    → IsHeld spans id Handle
    → closed ≡ closing_list spans id Handle
    → new_spans ≡ spans_left spans id Handle
    → notes ≡ notes_of_all rules worker (map (close_of spans) closed)
    → IsStep rules ids (record { spans = spans; stacks = stacks }) (try_close worker id) (released closed) notes (record { spans = new_spans; stacks = stacks })
step_close rules ids spans new_spans stacks worker id closed notes within held closed_are spans_are notes_are = record {
  within = within;
  changes = record {
    wanted = refl;
    known = handle_from spans id held;
    inside = refl;
    id = 0;
    answer_is = ap released closed_are;
    id_is_new = tt;
    after = λ j. record { spans = spans_are j; stacks = stacks };
  };
  notes_are = notes_are;
}

pub step_enter : (rules : List Filter) (ids : List ℕ) (spans new_spans : Spans) (stacks new_stacks : List (List ℕ)) (worker id : ℕ) (first : Bool) (notes : List PlainNote)
    → worker < length stacks
    → IsHeld spans id Handle
    → first ≡ not (has (get_or stacks worker []) id)
    → new_spans ≡ cond first (with_holder spans id Entry) spans
    → new_stacks ≡ set stacks worker (get_or stacks worker [] ++ id ∷ [])
    → notes ≡ notes_of_all rules worker (at_span spans OnEnter id [] ∷ [])
    → IsStep rules ids (record { spans = spans; stacks = stacks }) (enter worker id) (entered first) notes (record { spans = new_spans; stacks = new_stacks })
step_enter rules ids spans new_spans stacks new_stacks worker id first notes within held first_is spans_are stacks_are notes_are = record {
  within = within;
  changes = record {
    wanted = refl;
    known = handle_from spans id held;
    inside = refl;
    id = 0;
    answer_is = ap entered first_is;
    id_is_new = tt;
    after = λ j. record { spans = spans_are j; stacks = stacks_are j };
  };
  notes_are = notes_are;
}

pub step_exit : (rules : List Filter) (ids : List ℕ) (spans new_spans : Spans) (stacks new_stacks : List (List ℕ)) (worker id : ℕ) (stays : Bool) (closed : List ℕ) (notes : List PlainNote)
    → worker < length stacks
    → is_open spans id ≡ true
    → has (get_or stacks worker []) id ≡ true
    → stays ≡ has (without_last (get_or stacks worker []) id) id
    → closed ≡ cond stays [] (closing_list spans id Entry)
    → new_spans ≡ cond stays spans (spans_left spans id Entry)
    → new_stacks ≡ set stacks worker (without_last (get_or stacks worker []) id)
    → notes ≡ notes_of_all rules worker (at_span spans OnExit id [] ∷ map (close_of spans) closed)
    → IsStep rules ids (record { spans = spans; stacks = stacks }) (exit worker id) (exited closed) notes (record { spans = new_spans; stacks = new_stacks })
step_exit rules ids spans new_spans stacks new_stacks worker id stays closed notes within there stands stays_is closed_are spans_are stacks_are notes_are = record {
  within = within;
  changes = record {
    wanted = refl;
    known = there;
    inside = stands;
    id = 0;
    answer_is = ap exited (closed_are ∙ ap (λ b. cond b [] (closing_list spans id Entry)) stays_is);
    id_is_new = tt;
    after = λ j. record { spans = (spans_are ∙ ap (λ b. cond b spans (spans_left spans id Entry)) stays_is) j; stacks = stacks_are j };
  };
  notes_are = notes_are;
}

-- a span that is held is open
pub held_open : (spans : Spans) (id : ℕ) (holder : Holder) → IsHeld spans id holder → (node : Node) × (find spans id ≡ Some node)
held_open spans id holder held = by_case (find spans id) refl
  where
    by_case : (o : Option Node) → find spans id ≡ o → (node : Node) × (find spans id ≡ Some node)
    by_case None is = absurd (let h = held in omega (arith, h, ap (held_in holder) is))
    by_case (Some node) is = (node, is)

-- a span that stands in a worker's stack is held by an entry
pub inside_held : (spans : Spans) (stacks : List (List ℕ)) (worker id : ℕ) → IsWorld (record { spans = spans; stacks = stacks })
    → worker < length stacks → has (get_or stacks worker []) id ≡ true → IsHeld spans id Entry
inside_held spans stacks worker id whole within stands =
    let emptied = inside-set stacks worker (get_or stacks worker []) [] id within refl in
    let counted = rw stands at emptied in
    omega (arith, counted, whole.entered id)

-- a span without an entry stands in no worker's stack
pub none_inside : (spans : Spans) (stacks : List (List ℕ)) (worker id : ℕ) → IsWorld (record { spans = spans; stacks = stacks })
    → worker < length stacks → held_in Entry (find spans id) ≡ 0 → has (get_or stacks worker []) id ≡ false
none_inside spans stacks worker id whole within none =
    elim (cases_Bool (has (get_or stacks worker []) id)) [
      | inl stands ↦ (let held = inside_held spans stacks worker id whole within stands in absurd (omega (arith, none, held)))
      | inr outside ↦ outside
    ]

-- the world once a worker has left a span
pub world_after_exit : (spans : Spans) (stacks : List (List ℕ)) (worker id : ℕ) (stays : Bool) → worker < length stacks → has (get_or stacks worker []) id ≡ true
    → has (without_last (get_or stacks worker []) id) id ≡ stays → IsWorld (record { spans = spans; stacks = stacks })
    → IsWorld (record { spans = cond stays spans (spans_left spans id Entry); stacks = set stacks worker (without_last (get_or stacks worker []) id) })
world_after_exit spans stacks worker id true within stands stays whole =
    world_left_still spans stacks worker id (get_or stacks worker []) within refl stands stays whole
world_after_exit spans stacks worker id false within stands stays whole =
    let there = held_open spans id Entry (inside_held spans stacks worker id whole within stands) in
    world_left spans stacks worker id (get_or stacks worker []) there.0 within refl stands stays there.1 whole
