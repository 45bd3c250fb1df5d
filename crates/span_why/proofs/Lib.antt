pub mod Trees
mod Examples
