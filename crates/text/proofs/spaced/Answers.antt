-- `spaced` meets its contract. Assumes nothing.
use Rattle.text.specs.Text.{spaced_of}
use Rattle.text.proofs.Writing.{behind}
use Rattle.text.proofs.spaced.Goals as goal

pub returns : goal.returns
unfolding spaced_of
returns c =
    behind c.decimal-next.ensures c.byte.ensures
