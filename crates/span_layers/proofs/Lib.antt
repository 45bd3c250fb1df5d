pub mod Admission
pub mod Blocks
pub mod Deciding
mod Examples
pub mod Masks
pub mod MaxLevel
pub mod Texts
pub mod Tokens
