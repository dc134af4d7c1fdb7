-- `authentication::reader::answer_session` meets its contract.
use Rattle.machines.specs.ReaderWork.{answer_session}
use Rattle.states.specs.Sessions.{filled_session}
use Rattle.authentication.proofs.reader.answer_session.Goals as goal

pub returns : goal.returns
unfolding answer_session filled_session
returns c = rw (c.fill.ensures, c.chosen_width.ensures, c.begin-e.ensures, c.field-tag.ensures, c.session.ensures, c.face-face.ensures)
