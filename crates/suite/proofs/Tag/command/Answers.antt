-- `suite::Tag::command` meets its contract.
use Rattle.book.proofs.Laws.{some-copied, or-copied}
use Rattle.machines.specs.TagWork.{command_of}
use Rattle.rules.specs.TagRules.{shown_of}
use Rattle.rules.proofs.TagLaws.{key_known, key_found}
use Rattle.suite.proofs.Tag.command.Goals as goal

pub returns : goal.returns
unfolding command_of shown_of
returns c =
    rw (c.sound.ensures, c.zeros.ensures, c.beyond.ensures, c.is_some.ensures, c.unwrap_or.ensures, some-copied, or-copied, c.key_under-key.ensures, c.first_fields-fields.ensures, c.face-face.ensures, key_known, key_found) at
    c.carry.ensures
