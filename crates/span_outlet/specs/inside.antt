-- What only the proofs of this crate need: no public clause cites it.
pub mod Ends
pub mod GivenOut
pub mod OfLayer
pub mod Reading
pub mod SameText
pub mod Taking
