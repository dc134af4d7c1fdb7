use mathlib.Core.Path.{◌≡◌, refl}
use mathlib.Core.List.{[], append-nil}
use native.Mathlib.Omega.{arith}
use lib.ListN.{take, drop, length-take, drop_of_length-le}
use Rattle.bits.specs.Bytes.{bytes_of}
use Rattle.bits.specs.Area.{area_of, shown}
use Rattle.bits.proofs.Area.{show_turn}
use Rattle.bits.proofs.show.Goals as goal

pub loop-i-init : goal.loop-i-init
unfolding bytes_of
loop-i-init c = refl

pub loop-i-preserved : goal.loop-i-preserved
loop-i-preserved c =
    let l = c.loop-i in
    show_turn _ _ l.area l.i c.octet.result (omega arith) c.octet.ensures l.invariant

pub returns : goal.returns
unfolding shown
returns c =
    let out = c.args.out.now in
    let n = c.min-n.result in
    let l = c.loop-i in
    let e : l.i ≡ area_of out = omega (arith, length-take n out) in
    let d : drop l.i (take n out) ≡ [] = drop_of_length-le (take n out) (omega (arith, length-take n out)) in
    rw (l.invariant, d, append-nil, e, ← c.min-n.ensures) refl
