pub mod Keeping
pub mod Noting
pub mod Latests
pub mod Apart
pub mod Draining
pub mod Reading
pub mod SameTexts
pub mod Waiting
pub mod OfLayer
mod KeptCases
