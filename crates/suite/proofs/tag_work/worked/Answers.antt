-- `suite::tag_work::worked` meets its contract.
use mathlib.Core.Path.{◌≡◌, sym}
use Prim.Native.Nat.{ℕ}
use Rattle.faces.specs.declared.Face.{Face}
use lib.ListN.{length}
use Rattle.machines.specs.TagWork.{receive_of, worked_of}
use Rattle.rules.specs.TagRules.{command_work}
use Rattle.states.specs.TagStates.{TagState, face_of}
use Rattle.rules.specs.declared.Work.{Work}
use Rattle.rules.proofs.TagLaws.{command-room, command_receivable, receives}
use Rattle.machines.proofs.TagSound.{face-sound}
use Rattle.states.proofs.Sessions.{width-stored}
use Rattle.suite.proofs.tag_work.worked.Goals as goal

-- what is planned by the face that the tag has, said of the tag
planned : (t : TagState) (f : Face) (kind : ℕ) (w : Work) → f ≡ face_of t → w ≡ command_work f kind → command_work (face_of t) kind ≡ w
planned t f kind w e p = sym (rw e at p)

pub receive-requires : goal.receive-requires
receive-requires c =
    let p = c.requires in
    let a = c.args in
    let e = p.1.1.1 in
    let auth = receives (face_of a.t) a.p.kind (planned c.args.t _ _ _ c.face-face.ensures c.in-Receive.ensures) in
    let r = command_receivable (face_of a.t) (face-sound a.t p.0) a.p (length a.payload.now) p.1.0 e auth in
    (rw p.1.1.0 at (command-room _ _ e), (rw (width-stored _ r.wide r.width) r.least, (r.most, r.within)))

pub returns-in-Start : goal.returns-in-Start
unfolding worked_of
returns-in-Start c = rw (planned c.args.t _ _ _ c.face-face.ensures c.in-Start.ensures) (rw c.start.ensures at c.say.ensures)

pub returns-in-Prove : goal.returns-in-Prove
unfolding worked_of
returns-in-Prove c = rw (planned c.args.t _ _ _ c.face-face.ensures c.in-Prove.ensures) (rw c.prove.ensures at c.say-in-Prove.ensures)

pub returns-in-Receive : goal.returns-in-Receive
unfolding worked_of receive_of
returns-in-Receive c = rw (planned c.args.t _ _ _ c.face-face.ensures c.in-Receive.ensures) c.receive.ensures
