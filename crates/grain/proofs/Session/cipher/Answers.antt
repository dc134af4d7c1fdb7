use mathlib.Core.Path.{◌≡◌, refl, sym, ap₂, ◌∙◌}
use mathlib.Core.Bool.{false, not}
use lib.Dec.{eqb}
use Prim.Native.Nat.{◌<◌, ◌-◌}
use native.Mathlib.Nat.{sub-zero}
use native.Mathlib.Omega.{arith}
use lib.ListN.{length, get_or, set, take-append-drop, length-take}
use Rattle.bits.specs.Bits.{◌⊕◌}
use Rattle.bits.specs.Bytes.{bits_of_bytes, bytes_of}
use Rattle.bits.proofs.Bytes.{bytes_bits, set-bits, length-bits_of_bytes}
use Rattle.grain.specs.Generator.{out}
use Rattle.grain.specs.Mac.{key_bit}
use Rattle.grain.specs.Stored.{mac_of, state_of}
use Rattle.grain.proofs.Messages.{fed, turned, fed_is, turned_is, fed_turn, turned_turn, cut_short}
use borrow.Author.Rules.{rules}
use Rattle.grain.proofs.Session.cipher.Goals as goal

pub loop-i-init : goal.loop-i-init
loop-i-init g c = (search rules, refl, sym (bytes_bits c.args.bytes.now (search rules)), λ w h k. (rw sub-zero, rw sub-zero))

pub loop-i-preserved : goal.loop-i-preserved
unfolding mac_of key_bit
loop-i-preserved g c =
    let l = c.loop-i in
    let a = c.args in
    let r = c.set_bit in
    let ms = bits_of_bytes l.bytes in
    let n = c.bits_in-n.result in
    let e = length-take a.count (bits_of_bytes a.bytes.now) in
    let i : l.i < n = search rules in
    let j : l.i < length ms = omega (arith, length-bits_of_bytes l.bytes, length-bits_of_bytes a.bytes.now) in
    let b : bits_of_bytes r.new.s ≡ set ms l.i (get_or ms l.i false ⊕ out (state_of l.x.engine))
    = rw (c.bit_at-m.ensures, c.out-k.ensures) at (set-bits l.bytes r.new.s l.i _ r.ensures) in (
      search rules,
      r.auto.s ∙ l.invariant.1,
      r.ensures ∙ ap₂ bytes_of (sym r.auto.s) (sym (set-bits l.bytes r.new.s l.i _ r.ensures)),
      λ w h k. (
        rw (c.step-x.ensures w h k, c.bit_at-m.ensures, c.out-k.ensures, b)
            (fed_turn (not (eqb g.row.DECRYPTING 0)) n l.i ms (mac_of w l.x) i j _ (l.invariant.3 w h k).0),
        rw (c.step-x.ensures w h k, c.bit_at-m.ensures, c.out-k.ensures, b)
            (turned_turn (not (eqb g.row.DECRYPTING 0)) n l.i ms (mac_of w l.x) i j _ (l.invariant.3 w h k).1),
      ),
    )

pub returns : goal.returns
unfolding fed turned
returns g c =
    λ w h k.
    let a = c.args in
    let l = c.loop-i in
    let bits = bits_of_bytes a.bytes.now in
    let n = c.bits_in-n.result in
    let e : n - l.i ≡ 0 = omega arith in
    let s = cut_short n a.count bits c.bits_in-n.ensures in (
      (rw e at (l.invariant.3 w h k).0) ∙ (rw s.0 at (fed_is (not (eqb g.row.DECRYPTING 0)) n bits (mac_of w a.self))),
      l.invariant.2 ∙ ap₂ bytes_of l.invariant.1
          (sym (take-append-drop l.i (bits_of_bytes l.bytes)) ∙ (rw e at (l.invariant.3 w h k).1) ∙ (rw (s.0, s.1) at (turned_is (not (eqb g.row.DECRYPTING 0)) n bits (mac_of w a.self)))),
    )
