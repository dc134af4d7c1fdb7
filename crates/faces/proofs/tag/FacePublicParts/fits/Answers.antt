-- `faces::tag::Face::fits` meets its contract.
use Rattle.faces.specs.TagFaces.{face_fits}
use Rattle.faces.proofs.tag.FacePublicParts.fits.Goals as goal

pub returns : goal.returns
unfolding face_fits
returns c = rw (c.bare.ensures, c.width_wanted-want.ensures, c.flags_fit-flags.ensures, c.row_of-row.ensures)
