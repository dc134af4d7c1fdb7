-- What a call of either machine is given, and what it shows of that to the checks. The reply buffer is shown by its length alone.
-- Assumes nothing.
use Rattle.std.specs.Prelude.{Bool, List, ℕ, ltb, leb}
use Rattle.bits.specs.Area.{area_bytes}
use Rattle.payloads.specs.Payloads.{number_limit, beyond_of}
use Rattle.rules.specs.declared.ShownMessage.{ShownMessage}
use Rattle.rules.specs.declared.calls as Code

-- "A command call takes kind, bits, features, book and the tag's number"
pub record Command : Type 0 where
  pub kind : ℕ
  pub payload : List ℕ
  pub count : ℕ
  pub features : ℕ
  pub book : List ℕ
  pub number : ℕ

-- "a response call takes kind and data"; the reader's messages have the same parts
pub record Message : Type 0 where
  pub kind : ℕ
  pub payload : List ℕ
  pub count : ℕ

-- "Begin (only when idle, else 9): method, options, KeyID, number, book"
pub record Begin : Type 0 where
  pub method : ℕ
  pub options : ℕ
  pub keyid : ℕ
  pub number : ℕ
  pub book : List ℕ

-- what the code is given, whose payload and book are lent
abbrev pub lent_command : Code.Command.Command → Command
lent_command c = record { kind = c.kind; payload = c.payload.now; count = c.count; features = c.features; book = c.book.now; number = c.number }

abbrev pub lent_message : Code.Message.Message → Message
lent_message m = record { kind = m.kind; payload = m.payload.now; count = m.count }

abbrev pub lent_begin : Code.Begin.Begin → Begin
lent_begin b = record { method = b.method; options = b.options; keyid = b.keyid; number = b.number; book = b.book.now }

-- what a message shows, to its sender or to its receiver
abbrev pub message_shown : Message → ℕ → ShownMessage
message_shown m room = record { kind = m.kind; count = m.count; beyond = beyond_of m.payload m.count; room = room }

-- ---- what is refused whatever the state

-- 2: "buffer under 265 bytes"
abbrev pub small_room : ℕ → Bool
small_room room = ltb room area_bytes

-- 11: "number at or above 2^48"
abbrev pub big_number : ℕ → Bool
big_number number = leb number_limit number
