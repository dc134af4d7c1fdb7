-- The laws that proofs here and above cite.
pub mod Sessions
pub mod States
pub mod Stored
pub mod TagStates
pub mod ReaderStates
