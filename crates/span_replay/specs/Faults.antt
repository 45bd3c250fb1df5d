-- The faults of a script that rest on its labels.
use Rattle.std.specs.Prelude.{ℕ, Bool, false, if◌then◌else◌, List, Option, Some, None, Result, Ok, Err, ⊤}
use Rattle.span_forest.specs.Spans as forest
use Rattle.span_replay.specs.Labels.{Bound, id_in}
use Rattle.span_script.specs.Operation.{SpanKey, by_label, by_id, Parent, current, root, named}
use Rattle.span_script.specs.Reason.{or_fault}
use Rattle.span_script.specs.declared.reason.Reason.{Reason}
use Rattle.span_script.specs.declared.reason.Reason.TheVariants.{NoSuchLabel, LabelTaken}
use Rattle.span_core.specs.Step.{has_handle}

-- the id of the span that a line names: a label has to be bound
abbrev pub id_of_key : Bound → SpanKey → Result ℕ Reason
id_of_key labels (by_label text) = or_fault (id_in labels text) NoSuchLabel
id_of_key labels (by_id id) = Ok id

-- a span that is open has handles that were not closed
abbrev pub has_handles : forest.Spans → Option ℕ → Bool
has_handles spans None = false
has_handles spans (Some id) = has_handle spans id

-- a label is taken while its span is open and has handles
abbrev pub is_taken : forest.Spans → Bound → List ℕ → Bool
is_taken spans labels label = has_handles spans (id_in labels label)

-- an id that was found is a parent
abbrev pub some_id : Result ℕ Reason → Result (Option ℕ) Reason
some_id (Ok id) = Ok (Some id)
some_id (Err reason) = Err reason

-- the parent of a new span, where this is the worker's current span
abbrev pub parent_of_key : Bound → Option ℕ → Parent → Result (Option ℕ) Reason
parent_of_key labels now current = Ok now
parent_of_key labels now root = Ok None
parent_of_key labels now (named key) = some_id (id_of_key labels key)

-- the label of a new span isn't taken
abbrev pub free_label : forest.Spans → Bound → List ℕ → Result ⊤ Reason
free_label spans labels label = if is_taken spans labels label then Err LabelTaken else Ok tt
