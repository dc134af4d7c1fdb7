-- The laws of `frames`. Other crates cite those marked `pub`.
mod Runs
pub mod Answers
pub mod RoundTrip
