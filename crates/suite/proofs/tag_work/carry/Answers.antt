-- `suite::tag_work::carry` meets its contract.
use mathlib.Core.Path.{sym, ◌∙◌}
use Rattle.rules.specs.Results.{decided}
use Rattle.rules.proofs.Verdicts.{sound_goes}
use Rattle.machines.specs.TagWork.{carried_of}
use Rattle.suite.proofs.tag_work.carry.Goals as goal

pub worked-requires : goal.worked-requires
worked-requires c =
    let p = c.requires in
    let g = sound_goes _ _ (sym c.command.ensures ∙ c.in-Ok.is) in
    (g.0, (p.0, (p.1, g.1)))

pub returns-in-Err : goal.returns-in-Err
unfolding carried_of decided
returns-in-Err c =
    rw (sym c.command.ensures ∙ c.in-Err.is) c.refuse.ensures

pub returns-in-Ok : goal.returns-in-Ok
unfolding carried_of decided
returns-in-Ok c =
    rw (sym c.command.ensures ∙ c.in-Ok.is) c.worked.ensures
