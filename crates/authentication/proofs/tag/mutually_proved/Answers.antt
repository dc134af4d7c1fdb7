-- `authentication::tag::mutually_proved` meets its contract.
use Rattle.states.specs.Sessions.{next_keystream}
use Rattle.authentication.proofs.tag.mutually_proved.Goals as goal

pub returns : goal.returns
unfolding next_keystream
returns c = rw (c.opened-next.ensures, c.with_engine.ensures, c.keystream-ks.ensures) at c.reached.ensures
