pub mod Json
pub mod ValueLists
pub mod Items
pub mod Cuts
pub mod Fits
pub mod Parts
mod Examples
