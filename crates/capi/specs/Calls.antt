-- What a call over lent bytes gives (include/kusarehyon.h). Assumes nothing.
use Rattle.std.specs.Prelude as Std
use Rattle.std.specs.Prelude.{Bool, cond, not, List, [], ◌∷◌, ◌≡◌, ℕ, Ok, Err, eqb, length}
use Rattle.std.specs.Borrow.{MutBor}
use Rattle.bits.specs.Bytes.{bits_of_bytes}
use Rattle.bits.specs.Area.{shown}
use Rattle.book.specs.Book as Book
use Rattle.frames.specs.declared.Frame.{Frame}
use Rattle.counts.specs.declared.Refusal.{Refusal}
use Rattle.counts.specs.Refusal as Counts
use Rattle.rules.specs.declared.Answer.TheVariants.{Done, BadBook, SmallBuffer, UnknownKey, BadState}
use Rattle.rules.specs.Answers.{number_of}
use Rattle.rules.specs.Calls.{Command, Message, Begin, small_room}
use Rattle.rules.specs.Results.{Result, Gives}
use Rattle.states.specs.ReaderStates.{ReaderState}
use Rattle.states.specs.TagStates.{TagState, closed_tag}
use Rattle.machines.specs.TagWork.{reset_of, command_of, response_of, error_type_of}
use Rattle.machines.specs.ReaderWork.{reader_reset, begin_of, replied_of, sending_of, receiving_of}
use Rattle.suite.specs.declared.Step.{Step}
use Rattle.suite.specs.Steps.{step_of}
use Rattle.blocks.specs.Blocks.{Blocks, spells_tag, tag_in, tag_block, tag_blocks, reader_blocks}

-- the block after a call, the number answered, the reply
pub record Called : Type 0 where
  pub block : List ℕ
  pub answer : ℕ
  pub reply : List Bool

-- the answer and the reply's bit count are handed back; block and buffer are as the call says
pub record Leaves (x : Called) (answer bits : ℕ) (block before after : List ℕ) : Type 0 where
  pub answered : answer ≡ x.answer
  pub counted : bits ≡ length x.reply
  pub stored : block ≡ x.block
  pub replied : after ≡ shown x.reply before

-- refused: the block is kept, and the reply has no bits
abbrev pub kept_with : ℕ → List ℕ → Called
kept_with answer block = record { block = block; answer = answer; reply = [] }

-- ---- a call over a block, of either machine

-- "ANSWERS, by number", and the block of the next state
abbrev pub gave : {S : Type 0} → Blocks S → Result S → Called
gave b r = record { block = b.block_of r.next; answer = number_of r.answer; reply = r.reply }

-- a block that "spells no state": "It is answered 8 and kept"
unfoldable pub called : {S : Type 0} → Blocks S → List ℕ → (S → Result S) → Called
called b block call = cond (b.spells block) (gave b (call (b.state_in block))) (kept_with (number_of BadState) block)

-- a reset takes any bytes, and asks only for the block's length
unfoldable pub reset_called : {S : Type 0} → Blocks S → List ℕ → Result S → Called
reset_called b block reset = cond (eqb (length block) b.bytes) (gave b reset) (kept_with (number_of BadState) block)

-- a call, by what it says of the buffer it is lent, its step and the buffer it leaves, does a machine's work in a buffer that holds
-- `before`
abbrev pub Does : {S : Type 0} → Result S → List ℕ → (MutBor (List ℕ) → Step S → MutBor (List ℕ) → Type 0) → Type 0
Does {S} work before post = (p q : MutBor (List ℕ)) (s : Step S) → p.now ≡ before → post p s q → Gives step_of work s before q.now

-- ---- the tag

-- `kusarehyon_tag_reset`
abbrev pub tag_reset_called : List ℕ → Called
tag_reset_called block = reset_called tag_blocks block reset_of

-- `kusarehyon_tag_command`
abbrev pub command_called : List ℕ → Command → ℕ → Called
command_called block command room = called tag_blocks block (λ (t : TagState). command_of t command room)

-- `kusarehyon_tag_response`
abbrev pub response_called : List ℕ → Message → ℕ → Called
response_called block response room = called tag_blocks block (λ (t : TagState). response_of t response room)

-- `kusarehyon_tag_close`: "Answers 0, or 8"
unfoldable pub close_answer : List ℕ → ℕ
close_answer block = cond (spells_tag block) (number_of Done) (number_of BadState)

-- "The tag closed, whatever its state: only a reset opens it"
unfoldable pub closed_block : List ℕ → List ℕ
closed_block block = cond (spells_tag block) (tag_block (closed_tag (tag_in block))) block

-- `kusarehyon_tag_error_type`: a block "that spells none is answered 8"
unfoldable pub error_type_called : List ℕ → ℕ
error_type_called block = cond (spells_tag block) (error_type_of (tag_in block)) (number_of BadState)

-- ---- the reader

-- `kusarehyon_reader_reset`
abbrev pub reader_reset_called : List ℕ → Called
reader_reset_called block = reset_called reader_blocks block reader_reset

-- `kusarehyon_reader_begin`
abbrev pub begin_called : List ℕ → Begin → ℕ → Called
begin_called block begin room = called reader_blocks block (λ (r : ReaderState). begin_of r begin room)

-- `kusarehyon_reader_replied`
abbrev pub replied_called : List ℕ → List ℕ → ℕ → ℕ → Called
replied_called block payload count room = called reader_blocks block (λ (r : ReaderState). replied_of r payload count room)

-- `kusarehyon_reader_send`
abbrev pub send_called : List ℕ → Message → ℕ → Called
send_called block message room = called reader_blocks block (λ (r : ReaderState). sending_of r message room)

-- `kusarehyon_reader_receive`
abbrev pub receive_called : List ℕ → Message → ℕ → Called
receive_called block message room = called reader_blocks block (λ (r : ReaderState). receiving_of r message room)

-- ---- the key book: a call with no block

-- "The key under a KeyID, as a reply of 128 bits"
abbrev pub key_given : List ℕ → Called
key_given key = record { block = []; answer = number_of Done; reply = bits_of_bytes key }

-- in document 01's order: 2, 1, 5
unfoldable pub find_called : List ℕ → ℕ → ℕ → Called
find_called book keyid room =
    cond (small_room room) (kept_with (number_of SmallBuffer) [])
    (cond (not (Book.sound_of book)) (kept_with (number_of BadBook) [])
    (cond (not (Book.known_of keyid book)) (kept_with (number_of UnknownKey) []) (key_given (Book.key_of keyid book))))

-- ---- host frames: answer, kind, count, start, end; and answer, next place

-- "Refused with 20 to 23, and then the four numbers are 0"
unfoldable pub scanned_numbers : Std.Result Frame Refusal → List ℕ
scanned_numbers (Err why) = Counts.number_of why ∷ 0 ∷ 0 ∷ 0 ∷ 0 ∷ []
scanned_numbers (Ok frame) = 0 ∷ frame.kind ∷ frame.count ∷ frame.start ∷ frame.end ∷ []

-- "Refused with 20 to 24: then out is as it was, and *next is 0"
unfoldable pub written_numbers : Std.Result ℕ Refusal → List ℕ
written_numbers (Err why) = Counts.number_of why ∷ 0 ∷ []
written_numbers (Ok next) = 0 ∷ next ∷ []
