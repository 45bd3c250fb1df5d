pub mod TableName
pub mod RootView
pub mod OpenSpans
pub mod inside
