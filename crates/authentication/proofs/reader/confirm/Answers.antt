-- `authentication::reader::confirm` meets its contract.
use Rattle.machines.specs.ReaderWork.{confirm_of}
use Rattle.states.specs.Sessions.{next_keystream}
use Rattle.authentication.proofs.reader.confirm.Goals as goal

pub returns : goal.returns
unfolding confirm_of next_keystream
returns c = rw (c.opened-next.ensures, c.with_engine.ensures, c.keystream-ks.ensures, c.session-x.ensures) at c.compared.ensures
