-- `bits::put` meets its contract. The invariant: the bits that are still to be put give the whole.
use mathlib.Core.Path.{◌≡◌}
use Prim.Native.Nat.{◌+◌, ◌≤◌}
use lib.ListN.{length, drop}
use lib.Seq.{sets}
use Rattle.bits.specs.Bits.{bits_of}
use Rattle.bits.specs.Bytes.{bits_of_bytes, bytes_of}
use Rattle.bits.proofs.put.Given as goal

abbrev pub invariant-loop-k : goal.invariant-loop-k
invariant-loop-k l =
    (l.k ≤ l.n) × (length l.s ≡ length l.initial.s) × (l.s ≡ bytes_of (length l.s) (bits_of_bytes l.s))
    × (sets (bits_of_bytes l.s) (l.at + l.k) (drop l.k (bits_of l.n l.x)) ≡ sets (bits_of_bytes l.initial.s) l.at (bits_of l.n l.x))
