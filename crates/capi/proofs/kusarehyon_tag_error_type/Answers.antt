-- `capi::kusarehyon_tag_error_type` meets its contract.
use mathlib.Core.Path.{sym}
use Rattle.std.proofs.lemmas.Option.{cond_some}
use Rattle.blocks.specs.Blocks.{spells_tag}
use Rattle.capi.specs.Calls.{error_type_called}
use Rattle.capi.proofs.Calls.{cond-none}
use Rattle.capi.proofs.kusarehyon_tag_error_type.Goals as goal

pub returns-in_default : goal.returns-in_default
unfolding error_type_called
returns-in_default c = rw (cond-none (spells_tag c.args.state.now) _ (sym c.in_default.ensures)) c.from.ensures

pub returns : goal.returns
unfolding error_type_called
returns c =
    let is = cond_some (spells_tag c.args.state.now) _ _ (sym c.in-Some.ensures) in
    rw (is.0, is.1) c.error_type.ensures
