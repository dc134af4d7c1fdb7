-- The calls of both machines: the contracts of `suite` cite them, and the demands are proved of them.
pub mod Messages
pub mod TagWork
pub mod ReaderWork
