pub mod Own
pub mod inside
