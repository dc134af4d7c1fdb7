-- What the contracts of `payloads` cite.
pub mod Payloads
pub mod Parts
