pub mod Numbers
pub mod WellFormed
pub mod Moves
pub mod Closing
pub mod Agreed
pub mod Examples
