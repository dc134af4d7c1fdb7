-- `suite::Tag::response` meets its contract.
use mathlib.Core.Path.{refl, sym, ◌∙◌}
use lib.ListN.{length}
use Rattle.rules.specs.Results.{decided}
use Rattle.rules.proofs.TagLaws.{response_sendable}
use Rattle.rules.proofs.Verdicts.{sound_goes}
use Rattle.machines.specs.TagWork.{send_of, response_of}
use Rattle.suite.proofs.Tag.response.Goals as goal

pub send-requires : goal.send-requires
send-requires c =
    let a = c.args in
    let g = sound_goes _ _ (sym c.response.ensures ∙ c.in-Ok.is) in
    let s = response_sendable _ _ g.1 (length a.message.payload.now) refl in
    (s.roomy, (s.most, s.within))

pub returns-in-Err : goal.returns-in-Err
unfolding response_of decided
returns-in-Err c =
    rw (sym c.response.ensures ∙ c.in-Err.is) c.refuse.ensures

pub returns-in-Ok : goal.returns-in-Ok
unfolding response_of send_of decided
returns-in-Ok c =
    rw (sym c.response.ensures ∙ c.in-Ok.is) c.send.ensures
