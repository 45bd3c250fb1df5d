pub mod Counted
pub mod Device
pub mod Status
