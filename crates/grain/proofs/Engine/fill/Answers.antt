-- `grain::Engine::fill` meets its contract.
use mathlib.Core.Path.{◌≡◌, ap, ◌∙◌}
use Prim.Native.Nat.{ℕ, ◌≤◌}
use native.Mathlib.Omega.{arith}
use Rattle.bits.specs.Bytes.{word_bits}
use Rattle.grain.specs.Generator.{runs}
use Rattle.grain.specs.Mac.{filled}
use Rattle.grain.specs.Stored.{width_of, state_of, session_of, outputs_of}
use Rattle.grain.specs.declared.Outputs.{Outputs}
use Rattle.grain.proofs.Words.{width_small, sized_state_of, state_of-engine_of}
use Rattle.grain.proofs.Runs.{sized_runs}
use Rattle.grain.proofs.Engine.fill.Goals as goal

word : {w : ℕ} → w ≤ 64 → word_bits w ≡ w
word h = omega arith

pub returns : goal.returns
unfolding session_of filled outputs_of
returns c =
    let a = c.args in
    let w : ℕ = width_of a.width in
    let st = state_of a.self in
    let b : word_bits c.bits-w.result ≡ w = ap word_bits c.bits-w.ensures ∙ word (width_small a.width).1 in
    let f : c.outputs-acc.result ≡ outputs_of w st = rw b at c.outputs-acc.ensures in
    let e : state_of c.outputs-acc.result.engine ≡ runs w st
    = ap (λ (o : Outputs). state_of o.engine) f ∙ state_of-engine_of (runs w st) (sized_runs w st (sized_state_of a.self)) in
    let g : c.outputs-reg.result ≡ outputs_of w (runs w st) = rw (b, e) at c.outputs-reg.ensures in
    rw (f, g)
