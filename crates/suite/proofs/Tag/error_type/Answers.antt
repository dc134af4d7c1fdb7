-- `suite::Tag::error_type` meets its contract.
use Rattle.states.specs.TagStates.{sound_of}
use Rattle.machines.specs.TagWork.{error_type_of}
use Rattle.suite.proofs.Tag.error_type.Goals as goal

pub returns-then-sound : goal.returns-then-sound
unfolding error_type_of sound_of
returns-then-sound c = rw (← c.sound.ensures, c.if-sound.true, ← c.face.ensures) c.error_type.ensures

pub returns-else-sound : goal.returns-else-sound
unfolding error_type_of sound_of
returns-else-sound c = rw (← c.sound.ensures, c.if-sound.false)
