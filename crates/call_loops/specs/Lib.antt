pub mod Order
pub mod Back
pub mod ReadOut
