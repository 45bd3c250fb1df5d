-- The words of what each run has, again.
pub use Rattle.span_run.specs.Counted
pub use Rattle.span_replay.specs.ReplayFault
pub use Rattle.span_run.specs.Device
pub use Rattle.span_run.specs.Status
-- The meaning of a script, and what a run leaves.
pub mod ReplayFault
pub mod Reading
pub mod Answer
pub mod Labels
pub mod Faults
pub mod State
pub mod Written
pub mod Requests
pub mod Meaning
pub mod Replayed
pub mod Explained
pub mod inside
