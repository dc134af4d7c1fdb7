-- `capi::reset` meets its contract.
use mathlib.Core.Path.{refl, sym, ◌∙◌}
use borrow.Author.Tests.{eq-eqb, ne_eqb}
use Rattle.capi.specs.Calls.{reset_called}
use Rattle.capi.proofs.Calls.{refused, stepped}
use Rattle.capi.proofs.reset.Goals as goal

pub returns-then-state-BYTES : goal.returns-then-state-BYTES
unfolding reset_called
returns-then-state-BYTES g c = λ work does.
    rw (ne_eqb _ _ (λ e. c.if-state-BYTES.true (e ∙ sym (c.BYTES.ensures ∙ g.met.S.Block.long)))) (refused _ _ _ _ _ _ c.refused.ensures)

pub returns : goal.returns
unfolding reset_called
returns g c = λ work does.
    let size = c.if-state-BYTES.false ∙ c.BYTES.ensures ∙ g.met.S.Block.long in
    rw (eq-eqb _ _ size) (stepped g.S.Block.blocks _ _ _ _ _ _ _ _ size (does _ _ _ refl c.call-step.ensures) c.stepped.ensures)
