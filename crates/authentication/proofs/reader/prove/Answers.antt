-- `authentication::reader::prove` meets its contract.
use Rattle.machines.specs.ReaderWork.{answer_of}
use Rattle.states.specs.Sessions.{next_keystream}
use Rattle.authentication.proofs.reader.prove.Goals as goal

pub returns : goal.returns
unfolding answer_of next_keystream
returns c = rw (c.filled-next.ensures, c.with_engine.ensures, c.keystream-ks.ensures, c.answer_session-x.ensures, c.face-face.ensures) at c.reached.ensures
