-- `bits::octet` meets its contract.
use mathlib.Core.Path.{◌≡◌, sym, ◌∙◌}
use Prim.Native.Nat.{◌-◌, ◌*◌, ◌^◌, ◌%◌, ◌<◌}
use native.Mathlib.Nat.{mod-eq_of_lt}
use native.Mathlib.Omega.{arith}
use Rattle.bits.specs.Bytes.{bits_of_bytes, field_of, word_bits}
use Rattle.bits.proofs.Area.{octet-field, octet-lt}
use Rattle.bits.proofs.octet.Goals as goal

-- the shifted field, as the law has it, and that it is a byte
shifted : (c : goal.After-field-x)
    → let u = c.used_bits-used.result in
    let x = field_of (8 * c.args.i) u (bits_of_bytes c.args.bytes.now) * 2 ^ (8 - u) in
    (c.field-x.result * 2 ^ (8 - u) % 2 ^ 64 ≡ x) × (x < 256)
shifted c =
    let a = c.args in
    let u = c.used_bits-used in
    let w : word_bits u.result ≡ u.result = omega (arith, u.ensures) in
    let f = rw w at c.field-x.ensures in
    let h = octet-lt (bits_of_bytes a.bytes.now) a.count (8 * a.i) u.result u.ensures in
    (rw f (mod-eq_of_lt (omega arith)), h)

pub overflow_cast-result : goal.overflow_cast-result
overflow_cast-result c = rw (shifted c).0 (record { fits = (shifted c).1 })

pub returns : goal.returns
returns c =
    let a = c.args in
    (shifted c).0 ∙ sym (octet-field (bits_of_bytes a.bytes.now) a.count (8 * a.i) c.used_bits-used.result c.used_bits-used.ensures)
