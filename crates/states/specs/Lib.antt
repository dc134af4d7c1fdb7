-- What the contracts of `states` cite.
pub mod Sessions
pub mod States
pub mod TagStates
pub mod ReaderStates
