use mathlib.Core.Path.{◌≡◌, refl, sym, ap, ap₂, ◌∙◌}
use mathlib.Core.Bool.{false}
use mathlib.Core.List.{[]}
use Prim.Native.Nat.{ℕ, suc, ◌+◌, ◌-◌, ◌*◌, ◌/◌, ◌%◌, ◌^◌, ◌<◌}
use native.Mathlib.Nat.{add-zero}
use lib.Dec.{eqb}
use lib.Bits.{bit_and}
use native.Mathlib.Omega.{arith}
use lib.ListN.{get_or, drop, drop_of_length-le}
use lib.Seq.{sets}
use Rattle.bits.specs.Bits.{bits_of}
use Rattle.bits.specs.Bytes.{bits_of_bytes, bytes_of}
use Rattle.bits.proofs.Words.{word_bit_lem}
use Rattle.bits.proofs.Numbers.{length-bits_of}
use Rattle.bits.proofs.Bytes.{bytes_bits, set-bits, put_turn}
use borrow.Author.Rules.{rules}
use Rattle.bits.proofs.put.Goals as goal

pub loop-k-init : goal.loop-k-init
loop-k-init c = (
  search rules,
  refl,
  sym (bytes_bits c.args.s.now c.type_inv.s),
  ap (λ (i : ℕ). sets (bits_of_bytes c.args.s.now) i (bits_of c.word_bits-n.result c.args.x)) (add-zero c.args.at),
)

pub loop-k-preserved : goal.loop-k-preserved
loop-k-preserved c =
    let a = c.args in
    let l = c.loop-k in
    let n = c.word_bits-n.result in
    let r = c.set_from in
    let k : l.k < n = search rules in
    let e : 8 * (a.at / 8) + (a.at % 8 + l.k) ≡ a.at + l.k = omega arith in
    let s : n ≡ suc (n - 1) = omega arith in
    let v : eqb (bit_and (a.x / 2 ^ (n - 1 - l.k)) 1) 1 ≡ get_or (bits_of n a.x) l.k false
    = rw (← s) at (word_bit_lem (n - 1) a.x l.k (rw s at k)) in (
      search rules,
      r.auto.s ∙ l.invariant.1,
      r.ensures ∙ ap₂ bytes_of (sym r.auto.s) (sym (set-bits l.s r.new.s _ _ r.ensures)),
      put_turn l.s r.new.s _ _ r.ensures a.at l.k (bits_of n a.x) _ e (rw (length-bits_of n a.x) k) v l.invariant.3,
    )

pub returns : goal.returns
returns c =
    let a = c.args in
    let n = c.word_bits-n in
    let l = c.loop-k in
    let e : l.k ≡ n.result = omega arith in
    let d : drop l.k (bits_of n.result a.x) ≡ [] = drop_of_length-le (bits_of n.result a.x) {i = l.k} (rw (length-bits_of n.result a.x) (search rules)) in
    let b : bits_of_bytes l.s ≡ sets (bits_of_bytes a.s.now) a.at (bits_of n.result a.x) = rw d at l.invariant.3 in
    l.invariant.2 ∙ ap₂ bytes_of l.invariant.1 (b ∙ ap (λ (m : ℕ). sets (bits_of_bytes a.s.now) a.at (bits_of m a.x)) n.ensures)
