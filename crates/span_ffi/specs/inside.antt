-- What only the proofs of this crate need: no public clause cites it.
pub mod RegistryHeld
pub mod ReaderHeld
pub mod Parents
pub mod Adding
pub mod Giving
pub mod Packing
pub mod HeadingsKept
pub mod Origins
