-- What only the proofs of this crate need: no public clause cites it.
pub mod Turns
pub mod Running
pub mod Progress
pub mod Sending
pub mod Calls
pub mod Setup
pub mod Ended
pub mod Reaching
pub mod Lately
pub mod Writing
