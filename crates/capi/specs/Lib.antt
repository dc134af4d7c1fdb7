-- What the contracts of `capi` cite.
pub mod Calls
