-- `authentication::reader::answer` meets its contract.
use mathlib.Core.Path.{◌≡◌, sym}
use Prim.Native.Nat.{ℕ}
use Rattle.faces.specs.declared.ReaderFace.{ReaderFace}
use Rattle.machines.specs.ReaderWork.{answered_by}
use Rattle.rules.specs.ReaderRules.{reply_work}
use Rattle.states.specs.ReaderStates.{ReaderState, reader_face_of}
use Rattle.rules.specs.declared.ReplyWork.{ReplyWork}
use Rattle.authentication.proofs.reader.answer.Goals as goal

-- what is planned by the face that the reader has, said of the reader
planned : (r : ReaderState) (f : ReaderFace) (status : ℕ) (w : ReplyWork) → f ≡ reader_face_of r → w ≡ reply_work f status → reply_work (reader_face_of r) status ≡ w
planned r f status w e p = sym (rw e at p)

pub returns-in-Compare : goal.returns-in-Compare
unfolding answered_by
returns-in-Compare c = rw (planned c.args.r _ _ _ c.face-face.ensures c.in-Compare.ensures) c.compare.ensures

pub returns-in-Answer : goal.returns-in-Answer
unfolding answered_by
returns-in-Answer c = rw (planned c.args.r _ _ _ c.face-face.ensures c.in-Answer.ensures) c.prove.ensures

pub returns-in-Fail : goal.returns-in-Fail
unfolding answered_by
returns-in-Fail c = rw (planned c.args.r _ _ _ c.face-face.ensures c.in-Fail.ensures) c.failed.ensures

pub returns-in-Accept : goal.returns-in-Accept
unfolding answered_by
returns-in-Accept c = rw (planned c.args.r _ _ _ c.face-face.ensures c.in-Accept.ensures) c.accept.ensures

pub returns-in-Confirm : goal.returns-in-Confirm
unfolding answered_by
returns-in-Confirm c = rw (planned c.args.r _ _ _ c.face-face.ensures c.in-Confirm.ensures) c.confirm.ensures
