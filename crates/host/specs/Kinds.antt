-- Document 01, "Host frames": the tag's call for each kind of frame. Assumes nothing.
use Rattle.std.specs.Prelude.{Bool, cond, ◌||◌, ℕ, eqb}
use Rattle.rules.specs.Results.{Result}
use Rattle.rules.specs.Calls.{Command, Message}
use Rattle.states.specs.TagStates.{TagState}
use Rattle.machines.specs.TagWork.{command_of, response_of, reset_of}

-- "4 comm response wanted, 5 secure response wanted"
abbrev pub wanted : ℕ → Bool
wanted kind = eqb kind 4 || eqb kind 5

-- "a response call takes kind and data": the frame's, and nothing of the tag's features, book and number
abbrev pub message_of : Command → Message
message_of c = record { kind = c.kind; payload = c.payload; count = c.count }

-- "Kind byte (0 auth, 1 comm, 2 secure, 3 key update, 4 comm response wanted, 5 secure response wanted, 6 reset)". No frame has
-- another kind: it is a command's to refuse, by 11, "kind above 3"
unfoldable pub ran_of : TagState → Command → ℕ → Result TagState
ran_of t c room =
    cond (wanted c.kind) (response_of t (message_of c) room)
    (cond (eqb c.kind 6) reset_of
    (command_of t c room))
