pub mod Gathering
pub mod Refusing
pub mod Leaving
pub mod Everything
pub mod Lines
pub mod Examples
