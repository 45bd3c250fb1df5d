-- What only the proofs of this crate need: no public clause cites it.
pub mod HandleOwned
