-- `grain::Session::step` meets its contract.
use mathlib.Core.Path.{◌≡◌, ap, ◌∙◌}
use mathlib.Core.Bool.{cond}
use Prim.Native.Nat.{◌*◌}
use lib.Bits.{bit_xor}
use mir.Val.{bool_byte}
use Rattle.bits.specs.Bits.{bits_of, sums}
use Rattle.grain.specs.declared.Pair.{Pair}
use Rattle.grain.specs.Mac.{taken, paired, mac_bit}
use Rattle.grain.specs.Stored.{state_of, mac_of, pair_of}
use Rattle.grain.proofs.Words.{added, word_push, sized_state_of, state_of-engine_of}
use Rattle.grain.proofs.Runs.{sized_paired}
use Rattle.grain.proofs.Session.step.Goals as goal

pub returns : goal.returns
unfolding mac_of taken pair_of
returns c =
    λ w h k.
    let a = c.args in
    let st = state_of a.self.engine in
    let p = c.pair-p.ensures in
    let e : state_of c.pair-p.result.engine ≡ paired st
    = ap (λ (q : Pair). state_of q.engine) p ∙ state_of-engine_of (paired st) (sized_paired st (sized_state_of a.self.engine)) in
    let m : c.pair-p.result.mac ≡ mac_bit st = ap (λ (q : Pair). q.mac) p in
    let f : bits_of w (bit_xor a.self.acc (bool_byte a.m * a.self.reg)) ≡ cond a.m (sums (bits_of w a.self.acc) (bits_of w a.self.reg)) (bits_of w a.self.acc)
    = added a.m w a.self.acc a.self.reg in
    rw (e, f, m, word_push w a.self.reg (mac_bit st) h k)
