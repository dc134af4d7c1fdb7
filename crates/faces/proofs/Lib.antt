-- The laws that proofs above cite.
pub mod Fits
