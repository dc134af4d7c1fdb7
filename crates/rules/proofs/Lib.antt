-- The laws that proofs here and above cite.
pub mod Verdicts
pub mod Soundness
pub mod TagLaws
pub mod ReaderLaws
