-- What the contracts of `frames` cite; and `Vectors`, which none cites: document 01's own refusals of counts, proved of the
-- definitions cited.
pub mod Frame
pub mod Vectors
