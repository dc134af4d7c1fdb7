-- `put` meets its contract. The invariant: the bytes so far are written. Assumes nothing.
use lib.ListN.{take}
use Rattle.text.specs.Text.{Writes}
use Rattle.text.proofs.put.Given as goal

abbrev pub invariant-loop-b : goal.invariant-loop-b
invariant-loop-b l = Writes (take l.b-index l.text) l.initial.out l.at l.out l.next
