-- What the crate's types keep: no public clause cites it.
pub mod Fields
