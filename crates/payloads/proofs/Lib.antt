-- The laws that proofs here and above cite.
pub mod Layouts
pub mod Reading
