-- What the contracts of `counts` cite.
pub mod Refusal
pub mod Count
pub mod Payload
