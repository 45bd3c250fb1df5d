pub mod Calls
pub mod Details
pub mod inside
