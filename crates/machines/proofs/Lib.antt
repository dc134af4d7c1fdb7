-- The laws that proofs above cite.
pub mod TagSound
pub mod ReaderSound
