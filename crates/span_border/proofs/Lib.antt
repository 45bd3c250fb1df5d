pub mod Words
pub mod HandleBox
pub mod HandleSend
pub mod Ids
mod Examples
