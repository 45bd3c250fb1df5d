pub mod Prefixes
pub mod Moves
pub mod Owning
pub mod Shown
