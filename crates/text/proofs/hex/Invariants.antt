-- `hex` meets its contract. The invariant: the bytes so far are written. Assumes nothing.
use lib.ListN.{take}
use Rattle.text.specs.Text.{Writes, hex_of}
use Rattle.text.proofs.hex.Given as goal

abbrev pub invariant-loop-b : goal.invariant-loop-b
invariant-loop-b l = Writes (hex_of (take l.b-index l.b-items)) l.initial.out l.at l.out l.next
