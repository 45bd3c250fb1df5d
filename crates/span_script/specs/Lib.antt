pub mod Script
pub mod Key
pub mod Reason
pub mod Operation
pub mod Views
pub mod inside
