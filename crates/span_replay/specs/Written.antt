-- What a run writes for calls: the notes of each call, and then its answer.
use Rattle.std.specs.Prelude.{ℕ, nat_lt, List, [], ◌∷◌, ◌++◌, length, map, flat_map, reverse, replicate, codes, Option, Some, None, unwrap_or}
use Rattle.std.specs.Fmt.{decimal}
use Rattle.span_id.specs.declared.fault.Fault.TheVariants.{Unknown}
use Rattle.span_forest.specs.declared.span.Holder.TheVariants.{Handle}
use Rattle.span_forest.specs.Node.{Node}
use Rattle.span_forest.specs.Spans.{find}
use Rattle.span_forest.specs.Count.{reference_count}
use Rattle.span_forest.specs.Holders.{held_in}
use Rattle.span_core.specs.World.{stack_of}
use Rattle.span_outlet.specs.Request as call
use Rattle.span_outlet.specs.Batch.{PlainBatch}
use Rattle.span_outlet.specs.Lines.{PlainLine, lines_of_batch}
use Rattle.span_core.specs.Core.{CoreView}
use Rattle.span_core.specs.Outcome.{Outcome, refused, not_wanted, accepted, outcome}
use Rattle.span_replay.specs.Answer.{answer_text, span_text}
use Rattle.span_replay.specs.declared.run.answer.Answer.{Answer}
use Rattle.span_replay.specs.declared.run.answer.Answer.TheVariants.{Made, NotWanted, Cloned, Closed, Entered, Recorded, Told, Refused}

-- the line of a note: `L<layer> <text>`
abbrev pub note_line : PlainLine → List ℕ
note_line line = codes "L" ++ (decimal line.layer ++ (codes " " ++ (line.text ++ codes "\n")))

-- the lines of the notes of a core's next batch
abbrev pub notes_text : CoreView → PlainBatch → List ℕ
notes_text core batch = flat_map note_line (lines_of_batch core.forms (length core.sent, batch))

-- what the answer of a call is written as; a span closed where the list of the closed spans isn't empty
abbrev pub answer_written : call.Answer → Answer
answer_written (call.made id) = Made id
answer_written call.cloned = Cloned
answer_written (call.entered first) = Entered first
answer_written (call.exited closed) = Closed (nat_lt 0 (length closed))
answer_written (call.released closed) = Closed (nat_lt 0 (length closed))
answer_written call.recorded = Recorded
answer_written call.told = Told

-- the answer that is written after the notes
abbrev pub answer_for : Outcome → Answer
answer_for (refused fault) = Refused fault
answer_for not_wanted = NotWanted
answer_for (accepted answer notes new) = answer_written answer

-- what is written for a call: the notes of its batch, and then its answer
abbrev pub outcome_text : CoreView → call.Request → Outcome → List ℕ
outcome_text core request (refused fault) = answer_text (Refused fault)
outcome_text core request not_wanted = answer_text NotWanted
outcome_text core request (accepted answer notes new) =
    notes_text core (record { request = request; answer = answer; notes = notes }) ++ answer_text (answer_written answer)

-- the core after a call: where it was refused or no layer wanted the span, as before
abbrev pub core_left : CoreView → Outcome → CoreView
core_left core (refused fault) = core
core_left core not_wanted = core
core_left core (accepted answer notes new) = new

-- the text of some calls, and the core after them
pub record Written : Type 0 where
  pub text : List ℕ
  pub core : CoreView

-- what is written for a call, and the core after it
abbrev pub call_written : CoreView → call.Request → Written
call_written core request = record {
  text = outcome_text core request (outcome core request);
  core = core_left core (outcome core request);
}

-- what is written for calls, behind a text that was written before
abbrev pub written_after : List ℕ → Written → Written
written_after text written = record { text = text ++ written.text; core = written.core }

-- calls one after another
unfoldable pub calls_written : CoreView → List call.Request → Written
calls_written core [] = record { text = []; core = core }
calls_written core (request ∷ requests) =
    written_after (call_written core request).text (calls_written (call_written core request).core requests)

-- ---- looking a span up

-- the line of a span that was looked up; a root has 0 in place of a parent
abbrev pub node_text : CoreView → ℕ → Option Node → List ℕ
node_text core id None = answer_text (Refused Unknown)
node_text core id (Some node) =
    span_text node.name (unwrap_or node.parent 0) node.handles node.entries (reference_count core.world.spans id)

-- the line of the open span with this id; where there is none, the line of a call that is refused as unknown
abbrev pub find_text : CoreView → ℕ → List ℕ
find_text core id = node_text core id (find core.world.spans id)

-- ---- the tidying

-- a worker leaves all that it has entered, the last entry first: each exit takes one entry out, so these are as many
-- as there are, and none is left
abbrev pub exits : CoreView → ℕ → List call.Request
exits core worker = map (call.exit worker) (reverse (stack_of core.world worker))

-- worker 0 closes a span as often as it has handles, so that none is left
abbrev pub closes : CoreView → ℕ → List call.Request
closes core id = replicate (held_in Handle (find core.world.spans id)) (call.try_close 0 id)

-- for each of some numbers in turn the calls that the core then gives for it
unfoldable pub each_written : (CoreView → ℕ → List call.Request) → CoreView → List ℕ → Written
each_written calls core [] = record { text = []; core = core }
each_written calls core (n ∷ ns) =
    written_after (calls_written core (calls core n)).text
    (each_written calls (calls_written core (calls core n)).core ns)
