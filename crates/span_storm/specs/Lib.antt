pub mod Storm
pub mod Show
pub mod inside
