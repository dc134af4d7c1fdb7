-- What the contracts of `book` cite.
pub mod Book
