-- What the contracts of `grain` cite: the cipher in the order of Annex C and clause 9, then what the code's structs hold.
pub mod Generator
pub mod Start
pub mod Mac
pub mod Stored
