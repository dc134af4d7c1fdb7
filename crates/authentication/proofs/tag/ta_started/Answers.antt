-- `authentication::tag::ta_started` meets its contract.
use Rattle.states.specs.Sessions.{filled_session, next_keystream}
use Rattle.authentication.proofs.tag.ta_started.Goals as goal

pub returns : goal.returns
unfolding filled_session next_keystream
returns c = rw (c.opened-next.ensures, c.with_engine.ensures, c.keystream-ks.ensures, c.fill-x.ensures, c.chosen_width.ensures) at c.reached.ensures
