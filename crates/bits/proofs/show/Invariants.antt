-- `bits::show` meets its contract. The invariant: the area's first i bytes are the reply's, the rest as found.
use mathlib.Core.Path.{◌≡◌}
use mathlib.Core.List.{◌++◌}
use lib.ListN.{take, drop}
use Rattle.bits.specs.Bytes.{bits_of_bytes, bytes_of}
use Rattle.bits.proofs.show.Given as goal

abbrev pub invariant-loop-i : goal.invariant-loop-i
invariant-loop-i l = l.area ≡ bytes_of l.i (take l.count (bits_of_bytes l.bytes)) ++ drop l.i l.initial.area
