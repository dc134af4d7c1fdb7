-- `suite::Reader::receive` meets its contract.
use mathlib.Core.Path.{refl, sym, ◌∙◌}
use lib.ListN.{length}
use Rattle.rules.specs.Results.{decided}
use Rattle.rules.proofs.ReaderLaws.{receive-room, receive_receivable}
use Rattle.rules.proofs.Verdicts.{sound_goes}
use Rattle.states.proofs.Sessions.{width-stored}
use Rattle.machines.specs.ReaderWork.{received_by, receiving_of}
use Rattle.machines.proofs.ReaderSound.{reader-face-sound}
use Rattle.suite.proofs.Reader.receive.Goals as goal

pub receive-requires-in-Ok : goal.receive-requires-in-Ok
receive-requires-in-Ok c =
    let a = c.args in
    let g = sound_goes _ _ (sym c.receive.ensures ∙ c.in-Ok.is) in
    let r = receive_receivable _ _ _ g.1 (reader-face-sound a.self.state g.0) (length a.message.payload.now) refl in
    (receive-room _ _ _ g.1, (rw (width-stored _ r.wide r.width) r.least, (r.most, r.within)))

pub returns-in-Err : goal.returns-in-Err
unfolding receiving_of decided
returns-in-Err c =
    rw (sym c.receive.ensures ∙ c.in-Err.is) c.refuse.ensures

pub returns-in-Ok : goal.returns-in-Ok
unfolding receiving_of received_by decided
returns-in-Ok c =
    rw (sym c.receive.ensures ∙ c.in-Ok.is) c.receive-in-Ok.ensures
