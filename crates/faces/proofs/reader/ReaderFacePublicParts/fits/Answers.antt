-- `faces::reader::ReaderFace::fits` meets its contract.
use Rattle.faces.specs.ReaderFaces.{reader_fits}
use Rattle.faces.proofs.reader.ReaderFacePublicParts.fits.Goals as goal

pub returns : goal.returns
unfolding reader_fits
returns c = rw (c.bare.ensures, c.width_wanted-want.ensures, c.stage_row-row.ensures)
