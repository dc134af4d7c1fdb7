-- `capi::called` meets its contract.
use mathlib.Core.Path.{refl, sym}
use Rattle.std.proofs.lemmas.Option.{cond_some}
use Rattle.capi.specs.Calls.{called}
use Rattle.capi.proofs.Calls.{refused, cond-none, stepped}
use Rattle.capi.proofs.called.Goals as goal

pub returns-in_default : goal.returns-in_default
unfolding called
returns-in_default g c = λ work does.
    rw (cond-none (g.S.Block.blocks.spells c.args.state.now) _ (sym c.in_default.ensures)) (refused _ _ _ _ _ _ c.refused.ensures)

pub returns : goal.returns
unfolding called
returns g c = λ work does.
    let h = cond_some (g.S.Block.blocks.spells c.args.state.now) _ _ (sym c.in-Some.ensures) in
    rw (h.0, h.1)
    (stepped g.S.Block.blocks _ _ _ _ _ _ _ _ (g.met.S.Block.sized _ h.0) (does _ _ _ _ refl c.call-step.ensures) c.stepped.ensures)
