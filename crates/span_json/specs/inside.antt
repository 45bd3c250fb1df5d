-- What private clauses and proofs need: no public clause cites it.
pub mod Parts
pub mod Plain
