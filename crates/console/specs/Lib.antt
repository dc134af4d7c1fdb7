-- What the contract of `console` cites.
pub mod Line
