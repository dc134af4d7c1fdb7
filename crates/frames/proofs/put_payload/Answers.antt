use mathlib.Core.Path.{◌≡◌}
use mathlib.Core.List.{[], append-nil}
use Prim.Native.Nat.{◌≤◌}
use native.Mathlib.Omega.{arith}
use lib.ListN.{length, take, drop, length-take, drop_of_length-le}
use Rattle.frames.proofs.Runs.{copied, copied_turn}
use Rattle.frames.proofs.put_payload.Goals as goal

pub loop-i-preserved : goal.loop-i-preserved
loop-i-preserved c =
    let h = length-take c.args.n c.args.out.now in
    rw c.loop-i.invariant (copied_turn _ c.args.payload.now c.loop-i.i (omega (arith, h)))

pub returns : goal.returns
returns c =
    let n = c.args.n in
    let out = c.args.out.now in
    let p = c.args.payload.now in
    let h = length-take n out in
    let i : c.loop-i.i ≡ n = omega (arith, h) in
    let d : drop n (take n out) ≡ [] = drop_of_length-le (take n out) (omega (arith, h)) in
    let k : n ≤ length (take n out) = omega (arith, h) in
    rw (c.loop-i.invariant, i, ← copied (take n out) p n k c.requires.0, d, append-nil) (copied out p n c.requires.1 c.requires.0)
