-- What the contracts of `rules` cite, what a call is given, and what it gives; each after what it stands on.
pub mod Answers
pub mod Results
pub mod Calls
pub mod TagRules
pub mod ReaderRules
