-- `authentication::tag::prove` meets its contract.
use Rattle.machines.specs.TagWork.{prove_of}
use Rattle.states.specs.Sessions.{filled_session, next_keystream}
use Rattle.authentication.proofs.tag.prove.Goals as goal

pub returns : goal.returns
unfolding prove_of filled_session next_keystream
returns c = rw (c.keystream-ks.ensures, c.fill-x.ensures, c.chosen_width.ensures, c.session.ensures, c.mutually-both.ensures, c.face-face.ensures, c.field-given.ensures) at c.proved.ensures
