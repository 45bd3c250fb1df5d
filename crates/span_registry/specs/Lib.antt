-- The words of the core and of what leaves it, again.
pub use Rattle.span_outlet.specs.Request
pub use Rattle.span_outlet.specs.Batch
pub use Rattle.span_outlet.specs.KnownEvent
pub use Rattle.span_outlet.specs.KnownSpan
pub use Rattle.span_outlet.specs.KnownRelease
pub use Rattle.span_outlet.specs.Outlet
pub use Rattle.span_outlet.specs.Lines
pub use Rattle.span_outlet.specs.Kept
pub use Rattle.span_outlet.specs.Posted
pub use Rattle.span_outlet.specs.Past
pub use Rattle.span_outlet.specs.Latest
pub use Rattle.span_outlet.specs.Ring
pub use Rattle.span_outlet.specs.Drain
pub use Rattle.span_outlet.specs.LineReader
pub use Rattle.span_core.specs.World
pub use Rattle.span_core.specs.Parent
pub use Rattle.span_core.specs.Happening
pub use Rattle.span_core.specs.Step
pub use Rattle.span_core.specs.History
pub use Rattle.span_core.specs.NextId
pub use Rattle.span_core.specs.Core
pub use Rattle.span_core.specs.Outcome
pub use Rattle.span_core.specs.ClosedSpans
pub use Rattle.span_core.specs.GivenBack
pub use Rattle.span_core.specs.Handles
pub use Rattle.span_core.specs.Details
-- What a worker has seen of the history.
pub use Rattle.span_history.specs.Own
-- What public clauses say of open spans, and the view of a handle.
pub use Rattle.span_forest.specs.Node
pub use Rattle.span_forest.specs.Spans
pub use Rattle.span_forest.specs.Count
pub use Rattle.span_forest.specs.Holders
pub use Rattle.span_forest.specs.Release
pub use Rattle.span_forest.specs.Holding
pub use Rattle.span_seats.specs.declared.view.HandleView
-- What the lock adds.
pub mod Setup
pub mod Blanks
pub mod Handle
pub mod Worker
pub mod Share
pub mod Found
pub mod Locked
pub mod Report
pub mod Happened
pub mod inside
