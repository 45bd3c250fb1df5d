pub mod Planned
pub mod ReadToEnd
