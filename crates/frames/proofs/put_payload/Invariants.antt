-- `put_payload` meets its contract. The invariant: the first i bytes are the payload's, the rest as found.
use mathlib.Core.Path.{◌≡◌}
use lib.ListN.{take}
use lib.Seq.{sets}
use Rattle.frames.proofs.put_payload.Given as goal

abbrev pub invariant-loop-i : goal.invariant-loop-i
invariant-loop-i l = l.front ≡ sets l.initial.front 0 (take l.i l.payload)
