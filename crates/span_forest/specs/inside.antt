-- What only the proofs of this crate need: no public clause cites it.
pub mod Invariant
pub mod Chain
pub mod Adding
pub mod Marks
