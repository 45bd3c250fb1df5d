-- Why spans are open where a script's lines end: what `why` writes, as a function of the script's bytes, of how many
-- layers there may be and of what is asked about.
use Rattle.std.specs.Prelude.{ℕ, ◌+◌, ◌-◌, ◌==◌, if◌then◌else◌, nat_lt, nat_le, List, [], ◌∷◌, ◌++◌, length, map, filter, replicate, count_by, slice_index_or, slice_set, Option, Some, None, IfSome, option_and_then, Result, Ok, Err}
use Rattle.std.specs.Io.KnownBytes.{Appends}
use Rattle.std.specs.Result.{result_ok}
use Rattle.serde_json.specs.Data.{Data}
use Rattle.span_id.specs.Id.{slot_of}
use Rattle.span_core.specs.Core.{CoreView}
use Rattle.span_core.specs.Details.{PlainDetails, details_of}
use Rattle.span_core.specs.World.{World, stack_of}
use Rattle.span_replay.specs.Labels.{Bound, id_in}
use Rattle.span_replay.specs.Meaning.{Turn, Ending, finished, faulty, Transcript, line_turn}
use Rattle.span_replay.specs.State.{State, first_state}
use Rattle.span_script.specs.Operation.{Operation, make, json_of, operation_of}
use Rattle.span_script.specs.Script.{script_lines, most_bytes}
use Rattle.span_script.specs.declared.reason.Reason.{Reason}
use Rattle.span_script.specs.declared.reason.Reason.TheVariants.{TooLong}
use Rattle.span_why.specs.Why.{PlainOpenSpan, why_text, why_of_text}
use Rattle.span_why.specs.declared.open_span.Inside.{Inside}

-- how far the lines have run, and by slot the number of the line that last made a span there
pub record Reached : Type 0 where
  pub state : State
  pub lines : List ℕ

-- before the first line
abbrev pub first_reached : Reached
first_reached = record { state = first_state; lines = [] }

-- ---- which line made a span

-- the label that a line binds where it makes a span
abbrev pub label_of : Operation → Option (List ℕ)
label_of (make new) = Some new.label
label_of _ = None

-- the label that a line with this JSON value binds
abbrev pub label_by : State → Data → Option (List ℕ)
label_by state value =
    option_and_then label_of (result_ok (operation_of state.core.limits.workers state.stage value))

-- the label that a line binds
abbrev pub label_in : State → List ℕ → Option (List ℕ)
label_in state line = option_and_then (label_by state) (result_ok (json_of line))

-- the id that a label names, if there is one
abbrev pub named_by : Bound → Option (List ℕ) → Option ℕ
named_by labels label = option_and_then (id_in labels) label

-- an id that stands there now, and didn't before
abbrev pub other_id : Option ℕ → Option ℕ → Option ℕ
other_id before None = None
other_id None (Some id) = Some id
other_id (Some before) (Some id) = if before == id then None else Some id

-- the span that a line made: its label names it from then on, and named another one before, or none
abbrev pub made_id : Bound → Bound → Option (List ℕ) → Option ℕ
made_id before after label = other_id (named_by before label) (named_by after label)

-- the number of the line stands at the slot of the span that it made
abbrev pub lines_after : ℕ → List ℕ → Option ℕ → List ℕ
lines_after number lines None = lines
lines_after number lines (Some id) =
    slice_set (lines ++ replicate (slot_of id + 1 - length lines) 0) (slot_of id) number

-- after a line of this number, which has left this state
abbrev pub reached_after : ℕ → Reached → Option (List ℕ) → State → Reached
reached_after number reached label state = record {
  state = state;
  lines = lines_after number reached.lines (made_id reached.state.labels state.labels label);
}

-- ---- what is told of the open spans

-- how often a worker has entered a span and not left it
abbrev pub exits_of : World → ℕ → ℕ → ℕ
exits_of world id worker = count_by (λ entry. entry == id) (stack_of world worker)

-- a worker, with how many exits it needs to leave a span
abbrev pub inside_of : World → ℕ → ℕ → Inside
inside_of world id worker = record { worker = worker; exits = exits_of world id worker }

-- the workers that are inside, each with how many exits it needs; each is one that the limits have
abbrev pub inside_in : CoreView → PlainDetails → List Inside
inside_in core details =
    map (inside_of core.world details.id) (filter (λ worker. nat_lt worker core.limits.workers) details.workers)

-- an open span, with the workers inside it, and the number of the line that last made a span in its slot
abbrev pub open_span_of : Reached → PlainDetails → PlainOpenSpan
open_span_of reached details = record {
  details = details;
  inside = inside_in reached.state.core details;
  line = slice_index_or reached.lines (slot_of details.id) 0;
}

-- all open spans, by ascending slot
abbrev pub open_spans_in : Reached → List PlainOpenSpan
open_spans_in reached =
    map (open_span_of reached) (map (details_of reached.state.core.world) reached.state.core.world.spans)

-- ---- the whole script

-- the text about all spans, or about the one that a label names
abbrev pub text_about : Reached → Option (List ℕ) → List ℕ
text_about reached None = why_text (open_spans_in reached)
text_about reached (Some label) = why_of_text (open_spans_in reached) (id_in reached.state.labels label)

-- what is written where this is reached, and how the lines ended there
abbrev pub explained : Option (List ℕ) → Reached → Ending → Transcript
explained about reached ending = record { text = text_about reached about; ending = ending }

-- a line, before what comes of the further lines; at a fault of the script what was open there is told
abbrev pub turn_reached :
    Option (List ℕ) → ℕ → Reached → Option (List ℕ) → Result Turn Reason → (Reached → Transcript) → Transcript
turn_reached about number reached label (Ok turn) more = more (reached_after number reached label turn.state)
turn_reached about number reached label (Err reason) more = explained about reached (faulty number reason)

-- the lines from this number on: they run as those of a replay do, but nothing is written for them, and at their end
-- there is no tidying
unfoldable pub why_run : ℕ → Option (List ℕ) → ℕ → Reached → List (List ℕ) → Transcript
why_run hooks about number reached [] = explained about reached (finished (length reached.state.core.world.spans))
why_run hooks about number reached (line ∷ lines) =
    turn_reached about number reached (label_in reached.state line) (line_turn hooks reached.state line)
    (λ new. why_run hooks about (number + 1) new lines)

-- a script of more than 16,777,216 bytes isn't run at all
abbrev pub why_meaning : ℕ → Option (List ℕ) → List ℕ → Transcript
why_meaning hooks about bytes =
    if nat_le (length bytes) most_bytes then why_run hooks about 1 first_reached (script_lines bytes)
    else record { text = []; ending = faulty 0 TooLong }

-- the whole text that is meant was written, where the script's bytes are known
abbrev pub IsWholeWhy : ℕ → Option (List ℕ) → Option (List ℕ) → Option (List ℕ) → Option (List ℕ) → Type 0
IsWholeWhy hooks about script old new = IfSome script (λ bytes. Appends old new (why_meaning hooks about bytes).text)
