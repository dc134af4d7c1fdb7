-- `grain::Engine::pair` meets its contract.
use mathlib.Core.Path.{◌≡◌, ap, ◌∙◌}
use mathlib.Core.Bool.{false}
use Rattle.grain.specs.Generator.{run, clock}
use Rattle.grain.specs.Mac.{key_bit, mac_bit, paired}
use Rattle.grain.specs.Stored.{state_of, pair_of}
use Rattle.grain.proofs.Words.{sized_state_of, state_of-engine_of}
use Rattle.grain.proofs.Runs.{sized_clock}
use Rattle.grain.proofs.Engine.pair.Goals as goal

pub returns : goal.returns
unfolding pair_of key_bit mac_bit paired run
returns c =
    let st = state_of c.args.self in
    let e : state_of c.clock-e.result ≡ clock false st = ap state_of c.clock-e.ensures ∙ state_of-engine_of (clock false st) (sized_clock false st (sized_state_of c.args.self)) in
    rw (c.clock-engine.ensures, c.out-mac.ensures, e, c.out-key.ensures)
