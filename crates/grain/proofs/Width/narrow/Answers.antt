-- `grain::Width::narrow` meets its contract.
use mathlib.Core.Path.{sym}
use Rattle.bits.proofs.Numbers.{num_of-bits_of, num_of-bits}
use Rattle.grain.proofs.Width.narrow.Goals as goal

pub returns-in-Mac32 : goal.returns-in-Mac32
returns-in-Mac32 c = rw (c.in-Mac32.is, num_of-bits_of)

pub returns-in-Mac64 : goal.returns-in-Mac64
returns-in-Mac64 c = rw c.in-Mac64.is (sym (num_of-bits 64 c.ranges.x.fits))
