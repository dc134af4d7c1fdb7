-- `suite::Reader::replied` meets its contract.
use mathlib.Core.Path.{sym, ◌∙◌}
use Rattle.rules.specs.Results.{decided}
use Rattle.machines.specs.ReaderWork.{replied_of}
use Rattle.suite.proofs.Reader.replied.Goals as goal

pub returns-in-Err : goal.returns-in-Err
unfolding replied_of decided
returns-in-Err c =
    rw (sym (rw c.reply_shown-shown.ensures at c.replied.ensures) ∙ c.in-Err.is) c.refuse.ensures

pub returns-in-Ok : goal.returns-in-Ok
unfolding replied_of decided
returns-in-Ok c =
    rw (sym (rw c.reply_shown-shown.ensures at c.replied.ensures) ∙ c.in-Ok.is)
    (rw (c.answer-o.ensures, c.reply_shown-shown.ensures) at c.say.ensures)
