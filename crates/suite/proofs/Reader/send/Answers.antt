-- `suite::Reader::send` meets its contract.
use mathlib.Core.Path.{refl, sym, ◌∙◌}
use lib.ListN.{length}
use Rattle.rules.specs.Results.{decided}
use Rattle.rules.proofs.ReaderLaws.{send_sendable}
use Rattle.rules.proofs.Verdicts.{sound_goes}
use Rattle.machines.specs.ReaderWork.{sent_by, sending_of}
use Rattle.suite.proofs.Reader.send.Goals as goal

pub send-requires-in-Ok : goal.send-requires-in-Ok
send-requires-in-Ok c =
    let a = c.args in
    let g = sound_goes _ _ (sym c.send.ensures ∙ c.in-Ok.is) in
    let s = send_sendable _ _ g.1 (length a.message.payload.now) refl in
    (s.roomy, (s.most, s.within))

pub returns-in-Err : goal.returns-in-Err
unfolding sending_of decided
returns-in-Err c =
    rw (sym c.send.ensures ∙ c.in-Err.is) c.refuse.ensures

pub returns-in-Ok : goal.returns-in-Ok
unfolding sending_of sent_by decided
returns-in-Ok c =
    rw (sym c.send.ensures ∙ c.in-Ok.is) c.send-in-Ok.ensures
