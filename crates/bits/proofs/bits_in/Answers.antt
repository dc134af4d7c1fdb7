-- `bits::bits_in` meets its contract.
use native.Mathlib.Omega.{arith}
use lib.ListN.{length-take}
use Rattle.bits.proofs.Bytes.{length-bits_of_bytes}
use Rattle.bits.proofs.bits_in.Goals as goal

pub returns : goal.returns
returns c = simp (length-take, length-bits_of_bytes) (omega arith)
