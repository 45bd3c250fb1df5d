pub mod Entries
mod Examples
pub mod Removals
pub mod Searches
pub mod Several
pub mod Stacks
