-- `payloads::small_field` meets its contract.
use mathlib.Core.Path.{◌≡◌}
use native.Mathlib.Nat.{lt_of_lt_of_le}
use native.Mathlib.Omega.{arith}
use lib.Pow.{pow_mono}
use Rattle.bits.specs.Bytes.{bits_of_bytes, field_of, word_bits}
use Rattle.bits.proofs.Bytes.{field_lt}
use Rattle.payloads.proofs.small_field.Goals as goal

-- a field of at most eight bits is read whole
whole : (c : goal.After-field-x) → let a = c.args in c.field-x.result ≡ field_of a.at a.w (bits_of_bytes a.s.now)
whole c =
    let a = c.args in
    let w : word_bits a.w ≡ a.w = omega arith in
    rw w at c.field-x.ensures

pub overflow_cast-result : goal.overflow_cast-result
overflow_cast-result c = rw (whole c) (record { fits = lt_of_lt_of_le (field_lt _ _ _) (pow_mono {j = 8} (omega arith)) })
