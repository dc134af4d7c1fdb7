-- `authentication::tag::start` meets its contract.
use Rattle.machines.specs.TagWork.{start_of}
use Rattle.authentication.proofs.tag.start.Goals as goal

pub returns : goal.returns
unfolding start_of
returns c = rw (c.begin-engine.ensures, c.key_in.ensures, c.field-reader.ensures) at c.started.ensures
