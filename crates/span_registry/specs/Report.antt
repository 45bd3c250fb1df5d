-- What is counted at the end of a registry, and what a report tells.
use Rattle.std.specs.Prelude.{◌≡◌, ℕ, ◌^◌, ◌≤◌, ◌<◌, List, [], length, map, All, Some}
use mathlib.Core.List.{IsPrefix}
use Rattle.span_id.specs.Id.{slot_of}
use Rattle.span_id.specs.declared.limits.Limits.{Limits}
use Rattle.span_layers.specs.declared.form.Form.{Form}
use Rattle.span_layers.specs.Filter.{Filter}
use Rattle.span_forest.specs.Spans.{IsOpen}
use Rattle.span_forest.specs.Count.{reference_count, total_handles}
use Rattle.span_history.specs.Own.{IsFront}
use Rattle.span_outlet.specs.Lines.{plain_line}
use Rattle.span_outlet.specs.Kept.{AreKept, numbered}
use Rattle.span_outlet.specs.Drain.{DrainView}
use Rattle.span_outlet.specs.Ring.{RingView}
use Rattle.span_outlet.specs.LineReader.{LineReaderView, AreLeft}
use Rattle.span_core.specs.World.{entries_in}
use Rattle.span_core.specs.History.{issued, IsLegal}
use Rattle.span_core.specs.ClosedSpans.{closed_in}
use Rattle.span_core.specs.Core.{CoreView}
use Rattle.span_registry.specs.declared.report.Counts.{Counts}
use Rattle.span_registry.specs.declared.report.Report.{Report}
use Rattle.span_registry.specs.Share.{ShareView}

-- what this core had: its open spans, their handles, the entries of all stacks that are no duplicates, the calls, the spans
-- made and closed
pub record AreCounts (core : CoreView) (counts : Counts) : Type 0 where
  pub left : counts.left ≡ length core.world.spans
  pub handles : counts.handles ≡ total_handles core.world.spans
  pub entries : counts.entries ≡ entries_in core.world.stacks
  pub calls : counts.calls ≡ length core.sent
  pub made : counts.made ≡ length (issued core.sent)
  pub closed : counts.closed ≡ length (closed_in core.sent)

-- what a report counts
abbrev pub counts_of : Report → Counts
counts_of report = record {
  left = report.left;
  handles = report.handles;
  entries = report.entries;
  calls = report.calls;
  made = report.made;
  closed = report.closed;
}

-- the report counts what this core had; its lines are those of the history, written in these forms, but for the notes
-- that were missed
pub record IsReportOf (core : CoreView) (forms : List Form) (report : Report) : Type 0 where
  pub counts : AreCounts core (counts_of report)
  pub lines : AreKept forms (numbered core.sent) (map plain_line report.lines.items) report.missed

-- this core kept these limits: each count is at most the greatest, each open span is in one of the slots, and the calls
-- can be counted
pub record IsWithin (limits : Limits) (core : CoreView) : Type 0 where
  pub counts : (id : ℕ) → reference_count core.world.spans id ≤ limits.max_count
  pub slots : (id : ℕ) → IsOpen core.world.spans id → slot_of id < limits.slots
  pub calls : length core.sent < 2 ^ 64

-- A registry which was made with these limits and rules ended with this share, the whole one, and this core, which has
-- them: the core's batches are a legal history under them, of which each worker had seen a beginning with all its own
-- calls, it kept the limits, and its spans are none where no handle was given up and no stack has an entry.
pub record HasEnded (limits : Limits) (rules : List Filter) (share : ShareView) (core : CoreView) : Type 0 where
  pub limits_are : core.limits ≡ limits
  pub rules_are : core.rules ≡ rules
  pub legal : IsLegal rules limits.workers core.sent core.world
  pub within : IsWithin limits core
  pub fronts : length share.seen ≡ limits.workers
  pub seen_are : All (λ front. IsFront front core.sent) share.seen
  pub emptied : share.units ≡ 0 → entries_in core.world.stacks ≡ 0 → core.world.spans ≡ []

-- the report is that of a registry which ended so, and its lines are written in these forms
pub record IsEnd
    (limits : Limits) (rules : List Filter) (forms : List Form) (share : ShareView) (report : Report)
    : Type 0 where
  pub core : CoreView
  pub ended : HasEnded limits rules share core
  pub report_is : IsReportOf core forms report

-- the same where a drain wrote the lines: the core put its batches into the drain's ring, what the drain had taken is
-- the beginning of the history, and the lines that it had stand first
pub record IsDrainedEnd
    (limits : Limits) (rules : List Filter) (drain : DrainView) (share : ShareView) (report : Report)
    : Type 0 where
  pub end : IsEnd limits rules drain.forms share report
  pub ring_is : end.core.name ≡ Some drain.name
  pub taken : IsPrefix drain.taken end.core.sent
  pub first : IsPrefix drain.lines (map plain_line report.lines.items)

-- A registry ended so, whose lines a reader gives out: it counts what the core had, and all of the core's history went
-- into the ring, which is the reader's. What the reader had taken out of it is the beginning of that history, and the lines
-- that it had given out and those that wait are the lines of this beginning, but for the notes that were missed; the rest
-- is left in the ring.
pub record IsReadingEnd
    (limits : Limits) (rules : List Filter) (reader : LineReaderView) (share : ShareView) (counts : Counts) (ring : RingView)
    : Type 0 where
  pub core : CoreView
  pub ended : HasEnded limits rules share core
  pub counted : AreCounts core counts
  pub sent : ring.sent ≡ core.sent
  pub ring_is : ring.name ≡ reader.name
  pub taken : IsPrefix reader.taken core.sent
  pub lines : AreLeft reader
