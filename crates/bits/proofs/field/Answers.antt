-- `bits::field` meets its contract.
use mathlib.Core.Path.{◌≡◌, sym, ap, ◌∙◌}
use mathlib.Core.Bool.{Bool, false}
use mathlib.Core.List.{List}
use Prim.Native.Nat.{ℕ, zero, suc, ◌+◌, ◌*◌, ◌/◌, ◌%◌, ◌≤◌, ◌<◌, ◌^◌}
use native.Mathlib.Nat.{add-zero, lt_of_lt_of_le, mod-eq_of_lt}
use native.Mathlib.Omega.{arith}
use lib.Bits.{bit_or, or_shifted}
use lib.ListN.{get_or}
use lib.Pow.{pow_mono}
use mir.Val.{bool_byte}
use Rattle.std.proofs.Common.{rules}
use Rattle.std.specs.List.{fold, range_with_len}
use Rattle.std.proofs.lemmas.Iterator.{YieldsList-from_range}
use Rattle.std.proofs.lemmas.Iterator.Consumers.{fold_from_yields_List}
use Rattle.bits.specs.Bytes.{bits_of_bytes, field_of, word_bits}
use Rattle.bits.proofs.Words.{byte-num}
use Rattle.bits.proofs.Numbers.{num-lt}
use Rattle.bits.proofs.Bytes.{field-none, field_more, field_lt}
use Rattle.bits.proofs.field.Goals as goal

-- a turn: `x << 1 | b`, where b is the bit at `place + k` of the bytes from `from` on
abbrev turned : List Bool → ℕ → ℕ → ℕ → ℕ → ℕ
turned l from place x k = bit_or (x * 2 % 2 ^ 64) (bool_byte (get_or l (8 * from + (place + k)) false))

module _ (l : List Bool) (at : ℕ) where
  turn : (k : ℕ) → k < 64 → turned l (at / 8) (at % 8) (field_of at k l) k ≡ field_of at (k + 1) l
  turn k h =
      let e : 8 * (at / 8) + (at % 8 + k) ≡ at + k = omega arith in
      let s : field_of at k l * 2 < 2 ^ 64 = omega (arith, lt_of_lt_of_le (field_lt at k l) (pow_mono {j = 63} (omega arith))) in
      rw (e, mod-eq_of_lt s, byte-num, field_more) (or_shifted (field_of at k l) 1 _ (num-lt _))

  fields : (n k : ℕ) → k + n ≤ 64 → fold (turned l (at / 8) (at % 8)) (field_of at k l) (range_with_len k n) ≡ field_of at (k + n) l
  fields zero k h = ap (λ i. field_of at i l) (sym (add-zero k))
  fields (suc n) k h =
      let e : k + 1 + n ≡ k + suc n = omega arith in
      ap (λ x. fold (turned l (at / 8) (at % 8)) x (range_with_len (k + 1) n)) (turn k (omega arith))
      ∙ fields n (k + 1) (omega arith) ∙ ap (λ i. field_of at i l) e

pub returns : goal.returns
returns c =
    let a = c.args in
    let l = bits_of_bytes a.s.now in
    let n = c.word_bits.result in
    let f = turned l (a.at / 8) (a.at % 8) in
    let e : 0 + n ≡ word_bits a.w = omega (arith, c.word_bits.ensures) in
    fold_from_yields_List _ f _ _ c.fold.ensures.ran (YieldsList-from_range 0 n n (cc) (omega arith)) (λ x k b q h. search rules)
    ∙ ap (λ x. fold f x (range_with_len 0 n)) (sym (field-none a.at l))
    ∙ fields l a.at n 0 (omega (arith, c.word_bits.ensures)) ∙ ap (λ i. field_of a.at i l) e
