-- `suite::Reader::begin` meets its contract.
use mathlib.Core.Path.{sym}
use Rattle.rules.specs.Results.{decided}
use Rattle.book.proofs.Laws.{found-some, found_key, some-copied, or-copied}
use Rattle.machines.specs.ReaderWork.{begin_of}
use Rattle.suite.proofs.Reader.begin.Goals as goal

pub returns-in-Err : goal.returns-in-Err
unfolding begin_of decided
returns-in-Err c =
    rw (sym (rw (c.sound.ensures, c.is_some.ensures, some-copied, c.find-key.ensures, found-some) at c.in-Err.ensures)) c.refuse.ensures

pub returns-in-Ok : goal.returns-in-Ok
unfolding begin_of decided
returns-in-Ok c =
    rw (sym (rw (c.sound.ensures, c.is_some.ensures, some-copied, c.find-key.ensures, found-some) at c.in-Ok.ensures))
    (rw (c.begin-o.ensures, c.unwrap_or-key.ensures, or-copied, c.find-key.ensures, found_key) at c.say.ensures)
