-- `payloads::write` meets its contract. The invariant: the area shows the fields that have been put, and `at` is how many bits they have.
use mathlib.Core.Path.{◌≡◌}
use Prim.Native.Nat.{◌*◌, ◌≤◌}
use lib.ListN.{length, take}
use Rattle.bits.specs.Area.{shown}
use Rattle.payloads.specs.Parts.{bits_of_parts}
use Rattle.payloads.proofs.write.Given as goal

abbrev pub invariant-loop-part : goal.invariant-loop-part
invariant-loop-part l = record {
  small : l.at ≤ 64 * l.part-index;
  place : l.at ≡ length (bits_of_parts (take l.part-index l.part-items));
  area : l.out ≡ shown (bits_of_parts (take l.part-index l.part-items)) l.fn.out;
}
