-- `bits::set_from` meets its contract: a bit past the end is no bit of the list, and setting it changes nothing.
use mathlib.Core.Path.{sym, ap, ◌∙◌}
use Prim.Native.Nat.{◌+◌, ◌*◌, ◌/◌, ◌%◌, ◌≤◌}
use native.Mathlib.Omega.{arith}
use lib.ListN.{length}
use lib.Seq.{set_out}
use Rattle.bits.specs.Bytes.{bits_of_bytes, bytes_of}
use Rattle.bits.proofs.Bytes.{length-bits_of_bytes, set-place, bytes_bits}
use Rattle.bits.proofs.set_from.Goals as goal

pub returns-then-j-s : goal.returns-then-j-s
returns-then-j-s c =
    let a = c.args in
    set-place a.s.now (8 * a.from + a.place) (a.from + a.place / 8) (a.place % 8) c.bit_from.result a.v
    c.slice_known-1.given (omega arith) (omega arith) c.if-j-s.true c.bit_from.ensures

pub returns-else-j-s : goal.returns-else-j-s
returns-else-j-s c =
    let a = c.args in
    let i = 8 * a.from + a.place in
    let past : length (bits_of_bytes a.s.now) ≤ i = omega (arith, length-bits_of_bytes a.s.now) in
    sym (bytes_bits a.s.now c.slice_known-1.given) ∙ ap (bytes_of (length a.s.now)) (sym (set_out (bits_of_bytes a.s.now) i a.v past))
