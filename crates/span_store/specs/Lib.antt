pub mod StoredSpan
pub mod StoredSpans
pub mod Store
pub mod Calls
pub mod Details
pub mod inside
