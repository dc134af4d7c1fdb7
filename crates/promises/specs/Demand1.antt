-- Demand 1: "Any call, in any state, with any bytes, gets an answer. Bad input is refused by number, and after every call the whole
-- reply area is fixed: the reply's bits, then zeros." The states, calls and buffers below are any. Assumes nothing.
use Rattle.std.specs.Prelude.{cond, ◌&&◌, List, ◌≡◌, ℕ, length, take}
use Rattle.bits.specs.Bytes.{bits_of_bytes}
use Rattle.book.specs.Book as Book
use Rattle.faces.specs.declared.Stage.TheVariants.{Idle, Closed}
use Rattle.rules.specs.Calls.{Command, Message, Begin}
use Rattle.promises.specs.Machines.{TagMachine, ReaderMachine}
use Rattle.promises.specs.Order.{sent_leads, received_leads, session_right, no_session, Answered, Fresh, Settled}
use Rattle.promises.specs.TagTable as Tag
use Rattle.promises.specs.ReaderTable as Reader

-- ---- "Bits beyond the given count are ignored"

-- two slices alike in their first `count` bits
pub record AlikeTo (count : ℕ) (xs ys : List ℕ) : Type 0 where
  pub bits : take count (bits_of_bytes xs) ≡ take count (bits_of_bytes ys)

-- the same command with another slice
abbrev pub with_slice : Command → List ℕ → Command
with_slice c slice = record { kind = c.kind; payload = slice; count = c.count; features = c.features; book = c.book; number = c.number }

-- the same message with another slice
abbrev pub message_with : Message → List ℕ → Message
message_with m slice = record { kind = m.kind; payload = slice; count = m.count }

-- ---- the tag

module _ (m : TagMachine) where
  -- each call is answered by the first check of document 01's order that refuses, and else is done or, where something is compared, 10
  pub record TagAnswers : Type 0 where
    pub reset : (b : List ℕ) → Fresh b (m.reset b)
    pub command : (s : m.State) (c : Command) (b : List ℕ)
        → Answered m.face m.sound (Tag.command_checks (m.sound s) (m.face s) c (length b)) (Tag.command_leads (m.face s).name (m.face s) c)
        s (m.close s) b (m.command s c b)
    pub response : (s : m.State) (c : Message) (b : List ℕ)
        → Answered m.face m.sound (Tag.response_checks (m.sound s) (m.face s) c (length b))
        (sent_leads (m.face s) (Tag.closing (m.face s)) (m.face s).width 5 c) s (m.close s) b (m.response s c b)

  -- what its states are
  pub record TagStands : Type 0 where
    -- a stored state is its face and its session, and nothing else
    pub whole : (s t : m.State) → m.face s ≡ m.face t → m.session s ≡ m.session t → s ≡ t
    -- "8 is given exactly when"
    pub sound : (s : m.State)
        → m.sound s ≡ (Tag.face_fits (m.face s) && session_right (Tag.holds_nothing (m.face s).name (m.face s)) (m.face s).width (m.session s))
    -- "Reset gives CS-Reset with everything false and zero"
    pub fresh : (b : List ℕ) → (m.face (m.reset b).next ≡ Tag.cs_reset) × (m.session (m.reset b).next ≡ no_session)
    -- "Closing sets ERROR, keeps state name and other flags, and zeroes registers, accumulator, register, width, KeyID and options"
    pub close : (s : m.State) → (m.face (m.close s) ≡ Tag.closing (m.face s)) × (m.session (m.close s) ≡ no_session)
    -- "The error type is by Annex B's table .. 0 when ERROR is false or the state earns 8"
    pub error_type : (s : m.State) → m.error_type s ≡ cond (m.sound s) (Tag.error_type (m.face s).name (m.face s)) 0

  -- nothing of an earlier board is left, and nothing beyond the count is looked at
  pub record TagForgets : Type 0 where
    pub reset : (b e : List ℕ) → length b ≡ length e → Settled (m.reset b) (m.reset e)
    pub command : (s : m.State) (c : Command) (b e : List ℕ) → length b ≡ length e → Settled (m.command s c b) (m.command s c e)
    pub response : (s : m.State) (c : Message) (b e : List ℕ) → length b ≡ length e → Settled (m.response s c b) (m.response s c e)
    pub command_bits : (s : m.State) (c : Command) (slice b : List ℕ) → AlikeTo c.count c.payload slice
        → m.command s c b ≡ m.command s (with_slice c slice) b
    pub response_bits : (s : m.State) (c : Message) (slice b : List ℕ) → AlikeTo c.count c.payload slice
        → m.response s c b ≡ m.response s (message_with c slice) b

-- the three together
pub record Demand1Tag (m : TagMachine) : Type 0 where
  pub answers : TagAnswers m
  pub stands : TagStands m
  pub forgets : TagForgets m

-- ---- the reader

module _ (m : ReaderMachine) where
  -- a closed reader is one state
  pub record ReaderAnswers (closed : m.State) : Type 0 where
    pub reset : (b : List ℕ) → Fresh b (m.reset b)
    -- "closed (begin: kept)": begin keeps on every refusal
    pub begin : (s : m.State) (i : Begin) (b : List ℕ)
        → Answered m.face m.sound (Reader.begin_checks (m.sound s) (m.face s) i (length b)) (Reader.begin_leads i) s s b (m.begin s i b)
    pub replied : (s : m.State) (payload : List ℕ) (count : ℕ) (b : List ℕ)
        → Answered m.face m.sound (Reader.reply_checks (m.sound s) (m.face s) payload count (length b)) (Reader.reply_leads (m.face s).stage (m.face s))
        s closed b (m.replied s payload count b)
    pub send : (s : m.State) (c : Message) (b : List ℕ)
        → Answered m.face m.sound (Reader.send_checks (m.sound s) (m.face s) c (length b))
        (sent_leads (m.face s) (Reader.bare_face Closed) (m.face s).width 2 c) s closed b (m.send s c b)
    pub receive : (s : m.State) (c : Message) (b : List ℕ)
        → Answered m.face m.sound (Reader.receive_checks (m.sound s) (m.face s) c (length b))
        (received_leads (m.face s) (Reader.bare_face Closed) (m.face s).width c) s closed b (m.receive s c b)

  -- what its states are
  pub record ReaderStands (closed : m.State) : Type 0 where
    -- a stored state is its face and its session, and nothing else
    pub whole : (s t : m.State) → m.face s ≡ m.face t → m.session s ≡ m.session t → s ≡ t
    -- "8 is given exactly when": "At the reader"
    pub sound : (s : m.State)
        → m.sound s ≡ (Reader.reader_face_fits (m.face s) && session_right (Reader.bare_stage (m.face s).stage) (m.face s).width (m.session s))
    -- "Reset makes it idle"
    pub idle : (b : List ℕ) → (m.face (m.reset b).next ≡ Reader.bare_face Idle) × (m.session (m.reset b).next ≡ no_session)
    -- "A closed reader keeps nothing but that it is closed"
    pub shut : (m.face closed ≡ Reader.bare_face Closed) × (m.session closed ≡ no_session)
    -- "with the key as b and s zero"
    pub begun : (s : m.State) (i : Begin) (b : List ℕ) → (m.begin s i b).answer ≡ 0 → m.session (m.begin s i b).next ≡ Reader.key_session (Book.key_of i.keyid i.book)

  -- nothing of an earlier board is left, and nothing beyond the count is looked at
  pub record ReaderForgets : Type 0 where
    pub reset : (b e : List ℕ) → length b ≡ length e → Settled (m.reset b) (m.reset e)
    pub begin : (s : m.State) (i : Begin) (b e : List ℕ) → length b ≡ length e → Settled (m.begin s i b) (m.begin s i e)
    pub replied : (s : m.State) (p : List ℕ) (n : ℕ) (b e : List ℕ) → length b ≡ length e → Settled (m.replied s p n b) (m.replied s p n e)
    pub send : (s : m.State) (c : Message) (b e : List ℕ) → length b ≡ length e → Settled (m.send s c b) (m.send s c e)
    pub receive : (s : m.State) (c : Message) (b e : List ℕ) → length b ≡ length e → Settled (m.receive s c b) (m.receive s c e)
    pub replied_bits : (s : m.State) (p slice : List ℕ) (n : ℕ) (b : List ℕ) → AlikeTo n p slice → m.replied s p n b ≡ m.replied s slice n b
    pub send_bits : (s : m.State) (c : Message) (slice b : List ℕ) → AlikeTo c.count c.payload slice → m.send s c b ≡ m.send s (message_with c slice) b
    pub receive_bits : (s : m.State) (c : Message) (slice b : List ℕ) → AlikeTo c.count c.payload slice
        → m.receive s c b ≡ m.receive s (message_with c slice) b

-- the three together
pub record Demand1Reader (m : ReaderMachine) : Type 0 where
  pub closed : m.State
  pub answers : ReaderAnswers m closed
  pub stands : ReaderStands m closed
  pub forgets : ReaderForgets m
