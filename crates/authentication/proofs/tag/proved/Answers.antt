-- `authentication::tag::proved` meets its contract.
use Rattle.machines.specs.TagWork.{proved_by}
use Rattle.authentication.proofs.tag.proved.Goals as goal

pub returns-then-both : goal.returns-then-both
unfolding proved_by
returns-then-both c = rw (c.if-same.true, c.if-both.true) c.mutually_proved.ensures

pub returns-then-same : goal.returns-then-same
unfolding proved_by
returns-then-same c = rw (c.if-same.true, c.if-both.false) c.interrogator_proved.ensures

pub returns : goal.returns
unfolding proved_by
returns c = rw c.if-same.false c.fail.ensures
