-- What the contracts of `faces` cite.
pub mod TagFaces
pub mod ReaderFaces
