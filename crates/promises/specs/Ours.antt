-- The machines that we build, made of the very definitions that the contracts of `suite` cite: `Tag::reset`, `command`, `response`,
-- `close` and `error_type` give `reset_of`, `command_of`, `response_of`, `closed_tag` and `error_type_of`, `Reader::reset`, `begin`,
-- `replied`, `send` and `receive` give `reader_reset`, `begin_of`, `replied_of`, `sending_of` and `receiving_of`. Assumes nothing.
use Rattle.std.specs.Prelude.{List, ℕ, length}
use Rattle.bits.specs.Area.{shown}
use Rattle.rules.specs.Answers.{number_of}
use Rattle.rules.specs.Results.{Result}
use Rattle.states.specs.TagStates.{TagState, face_of, secrets_of, sound_of, closed_tag}
use Rattle.states.specs.ReaderStates.{ReaderState, reader_face_of, reader_secrets_of, reader_sound}
use Rattle.machines.specs.TagWork.{reset_of, command_of, response_of, error_type_of}
use Rattle.machines.specs.ReaderWork.{reader_reset, begin_of, replied_of, sending_of, receiving_of}
use Rattle.promises.specs.Machines.{Given, TagMachine, ReaderMachine}

-- a step and its buffer, as `Gives` has them
abbrev pub given : {S : Type 0} → Result S → List ℕ → Given S
given r buffer = record { next = r.next; answer = number_of r.answer; bits = length r.reply; buffer = shown r.reply buffer }

-- "demand 3 speaks of demand 2's machine": both of this tag; a call's room is the length of the buffer
abbrev pub our_tag : TagMachine
our_tag = record {
  State = TagState;
  reset = λ buffer. given reset_of buffer;
  command = λ t c buffer. given (command_of t c (length buffer)) buffer;
  response = λ t m buffer. given (response_of t m (length buffer)) buffer;
  close = closed_tag;
  error_type = error_type_of;
  face = face_of;
  session = secrets_of;
  sound = sound_of;
}

-- the reader of demands 1 and 2
abbrev pub our_reader : ReaderMachine
our_reader = record {
  State = ReaderState;
  reset = λ buffer. given reader_reset buffer;
  begin = λ r i buffer. given (begin_of r i (length buffer)) buffer;
  replied = λ r payload count buffer. given (replied_of r payload count (length buffer)) buffer;
  send = λ r m buffer. given (sending_of r m (length buffer)) buffer;
  receive = λ r m buffer. given (receiving_of r m (length buffer)) buffer;
  face = reader_face_of;
  session = reader_secrets_of;
  sound = reader_sound;
}
