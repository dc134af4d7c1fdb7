-- `capi::kusarehyon_tag_close` meets its contract.
use mathlib.Core.Path.{refl, sym}
use borrow.Author.Tests.{eq-eqb}
use Rattle.std.proofs.lemmas.Option.{cond_some}
use Rattle.blocks.specs.Blocks.{spells_tag}
use Rattle.blocks.specs.Sizes.{tag_sized}
use Rattle.capi.specs.Calls.{close_answer, closed_block}
use Rattle.capi.proofs.Calls.{cond-none}
use Rattle.capi.proofs.kusarehyon_tag_close.Goals as goal

pub returns-in_default : goal.returns-in_default
unfolding close_answer closed_block
returns-in_default c =
    rw (cond-none (spells_tag c.args.state.now) _ (sym c.in_default.ensures)) record { value = c.from.ensures; state_after = refl }

pub returns : goal.returns
unfolding close_answer closed_block
returns c =
    let is = cond_some (spells_tag c.args.state.now) _ _ (sym c.in-Some.ensures) in
    rw (is.0, is.1) record { value = c.from-2.ensures; state_after = rw (eq-eqb _ _ (tag_sized _ is.0), c.close-closed.ensures) at c.store.ensures }
