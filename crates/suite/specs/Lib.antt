-- What the contracts of `suite` cite beside the definitions of `machines`.
pub mod Steps
