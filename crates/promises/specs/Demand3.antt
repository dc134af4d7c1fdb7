-- Demand 3, silence: "two tags run from reset alike in all public parts answer alike while their comparisons come out alike, and
-- once a comparison fails their replies and whole stored states are equal until the next reset." Assumes nothing.
use Rattle.std.specs.Prelude.{Bool, true, false, cond, ◌&&◌, ◌||◌, List, [], ◌≡◌, ℕ, ◌-◌, ◌+◌, ◌≤◌, ◌<◌, eqb, length, take, drop}
use Rattle.bits.specs.Bytes.{bits_of_bytes, field_of}
use Rattle.book.specs.Book as Book
use Rattle.faces.specs.declared.Face.{Face}
use Rattle.faces.specs.declared.Name.{Name}
use Rattle.faces.specs.declared.Name.TheVariants.{CsReset, Ta1, Ia1, Ia2, Ma1, Ma2}
use Rattle.rules.specs.Calls.{Command, Message}
use Rattle.promises.specs.Machines.{Given, TagMachine}
use Rattle.promises.specs.Order.{first_of}
use Rattle.promises.specs.TagTable.{command_checks}
use Rattle.promises.specs.Silence.{Runs, Silence}

-- a call of a run, with the buffer that it is lent; `close` and the error type are lent none
pub data Call : Type 0 where
  reset : List ℕ → Call
  command : Command → List ℕ → Call
  response : Message → List ℕ → Call
  close error_type : Call

-- ---- "Demand 3's public parts are call kinds, bit counts, slice and buffer lengths, features, random numbers, the book's KeyIDs,
-- every authentication bit outside the 64 keystream bits, and the eight zero bits"

-- the public bits of an authentication command: the 64 keystream bits are the last of a step 1 command's 80
abbrev pub public_bits : ℕ → ℕ
public_bits count = cond (eqb count 80) 16 count

-- a message, kind 1 or 2: only it has the eight zero bits
abbrev pub message_kind : ℕ → Bool
message_kind kind = eqb kind 1 || eqb kind 2

-- the eight bits before a MAC of w bits
abbrev pub eight_bits : ℕ → Command → ℕ
eight_bits w c = field_of (c.count - (8 + w)) 8 (bits_of_bytes c.payload)

-- data, MACs, keys and the 64 keystream bits may differ; the eight bits are there where the tag shows a width and the count has room
pub record AlikeCommands (w : ℕ) (c d : Command) (b e : List ℕ) : Type 0 where
  pub kind : c.kind ≡ d.kind
  pub count : c.count ≡ d.count
  pub size : length c.payload ≡ length d.payload
  pub room : length b ≡ length e
  pub features : c.features ≡ d.features
  pub number : c.number ≡ d.number
  pub book_size : length c.book ≡ length d.book
  pub key_ids : Book.ids_of c.book ≡ Book.ids_of d.book
  pub authentication : c.kind ≡ 0 → take (public_bits c.count) (bits_of_bytes c.payload) ≡ take (public_bits c.count) (bits_of_bytes d.payload)
  pub zeros : message_kind c.kind ≡ true → 0 < w → 8 + w ≤ c.count → eight_bits w c ≡ eight_bits w d

-- "call kinds, bit counts, slice and buffer lengths": the data may differ
pub record AlikeResponses (c d : Message) (b e : List ℕ) : Type 0 where
  pub kind : c.kind ≡ d.kind
  pub count : c.count ≡ d.count
  pub size : length c.payload ≡ length d.payload
  pub room : length b ≡ length e

-- two calls alike, where the tags show the width w
pub data Alike (w : ℕ) : Call → Call → Type 0 where
  resets : {b e : List ℕ} → length b ≡ length e → Alike w (reset b) (reset e)
  commands : {c d : Command} {b e : List ℕ} → AlikeCommands w c d b e → Alike w (command c b) (command d e)
  responses : {c d : Message} {b e : List ℕ} → AlikeResponses c d b e → Alike w (response c b) (response d e)
  closes : Alike w close close
  error_types : Alike w error_type error_type

-- the public bits of an authentication response: the 64 keystream bits are the last of TA's 120 and of MA's 65
abbrev pub public_answer : ℕ → ℕ
public_answer count = cond (eqb count 120 || eqb count 65) (count - 64) count

-- the same of a reply, from a tag that shows f: a received message's is data, a message to send has the eight bits before its MAC
abbrev pub public_reply : Face → Call → List Bool → List Bool
public_reply f (reset b) l = []
public_reply f (command c b) l = cond (eqb c.kind 0) (take (public_answer (length l)) l) []
public_reply f (response m b) l = take 8 (drop (length l - (8 + f.width)) l)
public_reply f close l = []
public_reply f error_type l = []

-- ---- "their comparisons"

-- step 1's "first 64 keystream bits" in IA.1 and MA.1, and the MAC of a message in IA.2 and MA.2: by the state's name and the kind
abbrev pub compares_at : Name → ℕ → Bool
compares_at CsReset kind = false
compares_at Ta1 kind = false
compares_at Ia1 kind = eqb kind 0
compares_at Ia2 kind = eqb kind 1
compares_at Ma1 kind = eqb kind 0
compares_at Ma2 kind = message_kind kind

-- "Order: .. comparison (10)" is the last: what is refused before, ERROR set or a wrong length, is not compared
abbrev pub compares : Face → Call → Bool
compares f (reset b) = false
compares f (command c b) = compares_at f.name c.kind && eqb (first_of (command_checks true f c (length b))) 0
compares f (response m b) = false
compares f close = false
compares f error_type = false

-- ---- a tag's runs

-- equality after a failed comparison lasts until a reset
abbrev pub is_reset : Call → Bool
is_reset (reset b) = true
is_reset (command c b) = false
is_reset (response m b) = false
is_reset close = false
is_reset error_type = false

-- a reset is the same from any state; the error type is an answer, and changes nothing
abbrev pub give : (M : TagMachine) → M.State → Call → Given M.State
give M s (reset b) = M.reset b
give M s (command c b) = M.command s c b
give M s (response m b) = M.response s m b
give M s close = record { next = M.close s; answer = 0; bits = 0; buffer = [] }
give M s error_type = record { next = s; answer = M.error_type s; bits = 0; buffer = [] }

-- a tag as its runs see it: it shows its face
abbrev pub tag_runs : TagMachine → Runs
tag_runs M = record {
  State = M.State;
  Call = Call;
  Shown = Face;
  give = give M;
  seen = M.face;
  is_reset = is_reset;
  Alike = λ f c d. Alike f.width c d;
  compares = compares;
  public_reply = public_reply;
}

-- from reset
abbrev pub Demand3 : TagMachine → Type 0
Demand3 M = Silence (tag_runs M)
