-- What only the proofs of this crate need: no public clause cites it.
pub mod Sound
pub mod Lent
pub mod Given
pub mod ClosingPaths
pub mod Leaving
pub mod Telling
pub mod Remembering
pub mod Summary
