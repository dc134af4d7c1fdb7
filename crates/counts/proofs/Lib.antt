-- The laws of `counts`. Other crates cite those marked `pub`.
pub mod Counts
pub mod Tails
pub mod Payloads
