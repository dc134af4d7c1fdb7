-- Laws of `capi`.
pub mod Calls
