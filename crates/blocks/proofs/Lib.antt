-- Laws of `blocks`.
pub mod Numbers
pub mod Back
