pub mod Status
pub mod Ends
pub mod Numbers
pub mod Buffers
pub mod inside
