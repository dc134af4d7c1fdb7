-- Every public function of the cipher, the stored states, the verdicts, the authentications, both machines and the host, by its own
-- name: two outcomes that meet its contract are equal. Assumes nothing.
use mathlib.Core.Path.{◌≡◌, refl}
use mathlib.Core.List.{List}
use Prim.Native.Nat.{ℕ}
use denote.RattleType.{RattleType}
use denote.Param.Laws.{Laws, IsCopy}
use mir.Syntax.{Dict}
use Rattle.std.specs.declared.clone.Clone as Clone
use Rattle.faces.specs.declared.PublicParts as Parts
use Rattle.grain.proofs as Grain
use Rattle.grain.specs.contracts as GrainContracts
use Rattle.rules.specs.Results.{Result, Gives}
use Rattle.states.proofs as States
use Rattle.states.specs.contracts as StatesContracts
use Rattle.verdicts.proofs as Verdicts
use Rattle.verdicts.specs.contracts as VerdictsContracts
use Rattle.authentication.proofs as Authentication
use Rattle.authentication.specs.contracts as AuthenticationContracts
use Rattle.suite.proofs as Suite
use Rattle.suite.specs.contracts as SuiteContracts
use Rattle.host.proofs as Host
use Rattle.host.specs.contracts as HostContracts
use Rattle.determined.specs.Determined.{Determines}
use Rattle.determined.proofs.Determined.{part, Past, after, past}

-- ---- grain

pub width-bits : Determines GrainContracts.Width.bits.ended Grain.Width.bits.Reads.Post
width-bits κs a x y p q = part p q refl

pub load : Determines GrainContracts.Engine.load.ended Grain.Engine.load.Reads.Post
load κs a x y p q = part p q refl

pub start : Determines GrainContracts.Engine.start.ended Grain.Engine.start.Reads.Post
start κs a x y p q = part p q refl

pub outputs : Determines GrainContracts.Engine.outputs.ended Grain.Engine.outputs.Reads.Post
outputs κs a x y p q = part p q refl

pub pair : Determines GrainContracts.Engine.pair.ended Grain.Engine.pair.Reads.Post
pair κs a x y p q = part p q refl

pub keystream : Determines GrainContracts.Engine.keystream.ended Grain.Engine.keystream.Reads.Post
keystream κs a x y p q = part p q refl

pub fill : Determines GrainContracts.Engine.fill.ended Grain.Engine.fill.Reads.Post
fill κs a x y p q = part p q refl

pub authenticate : Determines GrainContracts.Session.authenticate.ended Grain.Session.authenticate.Reads.Post
authenticate κs a x y p q = part p q refl

pub encrypt : Determines GrainContracts.Session.encrypt.ended Grain.Session.encrypt.Reads.Post
encrypt κs a x y p q = part p.0 q.0 (past 2 _ (part p.1 q.1 refl))

pub decrypt : Determines GrainContracts.Session.decrypt.ended Grain.Session.decrypt.Reads.Post
decrypt κs a x y p q = part p.0 q.0 (past 2 _ (part p.1 q.1 refl))

-- ---- states

pub chosen_width_lem : Determines StatesContracts.session.chosen_width.ended States.session.chosen_width.Reads.Post
chosen_width_lem κs a x y p q = part p q refl

pub stored-width : Determines StatesContracts.session.stored_width.ended States.session.stored_width.Reads.Post
stored-width κs a x y p q = part p q refl

pub key_in_lem : Determines StatesContracts.session.key_in.ended States.session.key_in.Reads.Post
key_in_lem κs a x y p q = part p q refl

pub session-begin : Determines StatesContracts.session.begin.ended States.session.begin.Reads.Post
session-begin κs a x y p q = part p q refl

pub with_engine_lem : Determines StatesContracts.session.with_engine.ended States.session.with_engine.Reads.Post
with_engine_lem κs a x y p q = part p q refl

-- whatever the public parts are: their type, its laws, and what its implementations give
module _ (F : RattleType) (laws : Laws F) (copied : IsCopy F) (parts : Parts.Ghosts F.Denot) (d : Dict) (clone : Clone.Ghosts F.Denot) (e : Dict) where
  pub state-of : Determines (StatesContracts.doors.State.of.ended F parts d clone e) (States.doors.State.of.Reads.Post F laws copied parts d clone e)
  state-of κs a x y p q = part p q refl

  pub state-face : Determines (StatesContracts.doors.State.face.ended F parts d clone e) (States.doors.State.face.Reads.Post F laws copied parts d clone e)
  state-face κs a x y p q = part p q refl

  pub state-session : Determines (StatesContracts.doors.State.session.ended F parts d clone e) (States.doors.State.session.Reads.Post F laws copied parts d clone e)
  state-session κs a x y p q = part p q refl

  pub state-sound : Determines (StatesContracts.doors.State.sound.ended F parts d clone e) (States.doors.State.sound.Reads.Post F laws copied parts d clone e)
  state-sound κs a x y p q = part p q refl

  pub state_with_session : Determines (StatesContracts.doors.State.with_session.ended F parts d clone e) (States.doors.State.with_session.Reads.Post F laws copied parts d clone e)
  state_with_session κs a x y p q = part p q refl

pub tag-state-reset : Determines StatesContracts.tag.TagState.reset.ended States.tag.TagState.reset.Reads.Post
tag-state-reset κs a x y p q = part p q refl

pub tag-closed : Determines StatesContracts.tag.TagState.closed.ended States.tag.TagState.closed.Reads.Post
tag-closed κs a x y p q = part p q refl

pub tag-failed : Determines StatesContracts.tag.TagState.failed.ended States.tag.TagState.failed.Reads.Post
tag-failed κs a x y p q = part p q refl

pub tag-begun : Determines StatesContracts.tag.TagState.begun.ended States.tag.TagState.begun.Reads.Post
tag-begun κs a x y p q = part p q refl

pub tag-opened : Determines StatesContracts.tag.TagState.opened.ended States.tag.TagState.opened.Reads.Post
tag-opened κs a x y p q = part p q refl

pub reader-state-reset : Determines StatesContracts.reader.ReaderState.reset.ended States.reader.ReaderState.reset.Reads.Post
reader-state-reset κs a x y p q = part p q refl

pub reader-closed : Determines StatesContracts.reader.ReaderState.closed.ended States.reader.ReaderState.closed.Reads.Post
reader-closed κs a x y p q = part p q refl

pub reader-begun : Determines StatesContracts.reader.ReaderState.begun.ended States.reader.ReaderState.begun.Reads.Post
reader-begun κs a x y p q = part p q refl

pub reader-filled : Determines StatesContracts.reader.ReaderState.filled.ended States.reader.ReaderState.filled.Reads.Post
reader-filled κs a x y p q = part p q refl

pub reader-opened : Determines StatesContracts.reader.ReaderState.opened.ended States.reader.ReaderState.opened.Reads.Post
reader-opened κs a x y p q = part p q refl

pub session-send : Determines StatesContracts.session.send.ended States.session.send.Reads.Post
session-send κs a x y p q = part p.0 q.0 (past 3 _ (part p.1 q.1 refl))

pub session-receive : Determines StatesContracts.session.receive.ended States.session.receive.Reads.Post
session-receive κs a x y p q = part p.0 q.0 (past 3 _ (part p.1 q.1 refl))

-- ---- verdicts

pub tag-command-verdict : Determines VerdictsContracts.tag.command.ended Verdicts.tag.command.Reads.Post
tag-command-verdict κs a x y p q = part p q refl

pub tag-response-verdict : Determines VerdictsContracts.tag.response.ended Verdicts.tag.response.Reads.Post
tag-response-verdict κs a x y p q = part p q refl

pub reader-begin-verdict : Determines VerdictsContracts.reader.begin.ended Verdicts.reader.begin.Reads.Post
reader-begin-verdict κs a x y p q = part p q refl

pub reader-replied-verdict : Determines VerdictsContracts.reader.replied.ended Verdicts.reader.replied.Reads.Post
reader-replied-verdict κs a x y p q = part p q refl

pub reader-send-verdict : Determines VerdictsContracts.reader.send.ended Verdicts.reader.send.Reads.Post
reader-send-verdict κs a x y p q = part p q refl

pub reader-receive-verdict : Determines VerdictsContracts.reader.receive.ended Verdicts.reader.receive.Reads.Post
reader-receive-verdict κs a x y p q = part p q refl

-- ---- authentication

pub tag-start : Determines AuthenticationContracts.tag.start.ended Authentication.tag.start.Reads.Post
tag-start κs a x y p q = part p q refl

pub tag-prove : Determines AuthenticationContracts.tag.prove.ended Authentication.tag.prove.Reads.Post
tag-prove κs a x y p q = part p q refl

pub reader-begin : Determines AuthenticationContracts.reader.begin.ended Authentication.reader.begin.Reads.Post
reader-begin κs a x y p q = part p q refl

pub reader-answer : Determines AuthenticationContracts.reader.answer.ended Authentication.reader.answer.Reads.Post
reader-answer κs a x y p q = part p q refl

-- ---- suite

-- the reply buffer is the last of the parameters
gives : (n : ℕ) {S T : Type 0} {step_of : Result S → T} {r : Result S} {b : List ℕ} {x y : T × Past n (List ℕ × Unit {0})}
    → Gives step_of r x.0 b (after n _ x.1).0 → Gives step_of r y.0 b (after n _ y.1).0 → x ≡ y
gives n p q = part p.step q.step (past n _ (part p.reply q.reply refl))

pub tag-reset : Determines SuiteContracts.Tag.reset.ended Suite.Tag.reset.Reads.Post
tag-reset κs a x y p q = gives 0 p q

pub command : Determines SuiteContracts.Tag.command.ended Suite.Tag.command.Reads.Post
command κs a x y p q = gives 2 p q

pub response : Determines SuiteContracts.Tag.response.ended Suite.Tag.response.Reads.Post
response κs a x y p q = gives 2 p q

pub close : Determines SuiteContracts.Tag.close.ended Suite.Tag.close.Reads.Post
close κs a x y p q = part p q refl

pub error_type_lem : Determines SuiteContracts.Tag.error_type.ended Suite.Tag.error_type.Reads.Post
error_type_lem κs a x y p q = part p q refl

pub reader-reset : Determines SuiteContracts.Reader.reset.ended Suite.Reader.reset.Reads.Post
reader-reset κs a x y p q = gives 0 p q

pub begin : Determines SuiteContracts.Reader.begin.ended Suite.Reader.begin.Reads.Post
begin κs a x y p q = gives 2 p q

pub replied : Determines SuiteContracts.Reader.replied.ended Suite.Reader.replied.Reads.Post
replied κs a x y p q = gives 3 p q

pub send : Determines SuiteContracts.Reader.send.ended Suite.Reader.send.Reads.Post
send κs a x y p q = gives 2 p q

pub receive : Determines SuiteContracts.Reader.receive.ended Suite.Reader.receive.Reads.Post
receive κs a x y p q = gives 2 p q

-- ---- host

pub run : Determines HostContracts.run.ended Host.run.Reads.Post
run κs a x y p q = gives 2 p q
