-- `authentication::reader::compare` meets its contract.
use Rattle.machines.specs.ReaderWork.{compare_of}
use Rattle.states.specs.Sessions.{next_keystream}
use Rattle.authentication.proofs.reader.compare.Goals as goal

pub returns : goal.returns
unfolding compare_of next_keystream
returns c = rw (c.filled-next.ensures, c.with_engine.ensures, c.keystream-ks.ensures, c.answer_session-x.ensures) at c.compared.ensures
