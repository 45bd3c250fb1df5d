pub mod Seen
pub mod inside
