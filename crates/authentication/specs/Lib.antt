-- What the contracts of `authentication` cite beside the definitions of `machines`.
pub mod Outcomes
