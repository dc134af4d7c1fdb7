-- The laws that proofs here and above cite.
pub mod Words
pub mod Table
pub mod Loading
pub mod Runs
pub mod Messages
pub mod Widths
pub mod Back
