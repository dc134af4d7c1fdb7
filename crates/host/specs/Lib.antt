-- What the contract of `host` cites.
pub mod Kinds
