pub mod Clean
pub mod Sheet
pub mod Tokens
pub mod Wanting
pub mod Verbosity
