-- `bits::bit_from` meets its contract.
use mathlib.Core.Path.{◌≡◌}
use Prim.Native.Nat.{◌+◌, ◌*◌, ◌/◌, ◌%◌}
use native.Mathlib.Omega.{arith}
use Rattle.bits.proofs.Words.{word_bit_lem}
use Rattle.bits.proofs.Bytes.{get_d_bytes}
use Rattle.bits.proofs.bit_from.Goals as goal

pub returns : goal.returns
returns c =
    let a = c.args in
    let e : (8 * a.from + a.place) / 8 ≡ a.from + a.place / 8 = omega arith in
    let f : (8 * a.from + a.place) % 8 ≡ a.place % 8 = omega arith in
    rw (get_d_bytes a.s.now (8 * a.from + a.place), e, f, ← c.byte_at-x.ensures)
    (word_bit_lem 7 c.byte_at-x.result (a.place % 8) (omega arith))
