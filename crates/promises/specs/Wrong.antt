-- Wrong tags, each made from ours by changing one thing: `proofs/Refuted`, `Comparing`, `Copied` and `Zeros` show that demand 2 fails
-- of each, with any reader. Assumes nothing.
use Rattle.std.specs.Prelude.{Bool, true, not, cond, ◌&&◌, ◌||◌, List, [], ◌∷◌, ◌++◌, ℕ, ◌+◌, ◌-◌, ◌/◌, ◌^◌, eqb, take}
use Rattle.bits.specs.Area.{shown}
use Rattle.bits.specs.Bits.{bits_of}
use Rattle.bits.specs.Bytes.{bits_of_bytes}
use Rattle.grain.specs.declared.Session.{Session}
use Rattle.grain.specs.Stored.{width_of}
use Rattle.payloads.specs.Payloads.{options_in, reader_keystream_in, data_bits}
use Rattle.faces.specs.TagFaces.{mutually}
use Rattle.rules.specs.Calls.{Command, Message}
use Rattle.rules.specs.Results.{Result, done_by, said}
use Rattle.states.specs.Sessions.{chosen_width, stored_width, filled_session, next_keystream, after_message, data_of}
use Rattle.states.specs.TagStates.{TagState, face_of, secrets_of, with_session}
use Rattle.machines.specs.TagWork.{proved_by}
use Rattle.promises.specs.Machines.{Given, TagMachine}
use Rattle.promises.specs.Ours.{given, our_tag}

-- ours, but for its commands and responses
abbrev pub with_calls : (TagState → Command → List ℕ → Given TagState) → (TagState → Message → List ℕ → Given TagState) → TagMachine
with_calls command response = record {
  State = TagState;
  reset = our_tag.reset;
  command = command;
  response = response;
  close = our_tag.close;
  error_type = our_tag.error_type;
  face = our_tag.face;
  session = our_tag.session;
  sound = our_tag.sound;
}

-- ours, but for its commands
abbrev pub with_command : (TagState → Command → List ℕ → Given TagState) → TagMachine
with_command command = with_calls command our_tag.response

-- ---- answers and counts

-- another next state
abbrev pub moved_to : {S T : Type 0} → T → Given S → Given T
moved_to next g = record { next = next; answer = g.answer; bits = g.bits; buffer = g.buffer }

-- an answer with no bits
abbrev pub bare : TagState → ℕ → List ℕ → Given TagState
bare t answer buffer = record { next = t; answer = answer; bits = 0; buffer = shown [] buffer }

-- refuses every command and response with 6
abbrev pub refuses_all : TagMachine
refuses_all = with_calls (λ t c buffer. bare t 6 buffer) (λ t m buffer. bare t 6 buffer)

-- gives every command and response what reset gives
abbrev pub one_answer : TagMachine
one_answer = with_calls (λ t c buffer. our_tag.reset buffer) (λ t m buffer. our_tag.reset buffer)

-- 0, and the state and the buffer as found
abbrev pub idle : TagState → List ℕ → Given TagState
idle t buffer = record { next = t; answer = 0; bits = 0; buffer = buffer }

-- answers 0 to every command and response, and does nothing
abbrev pub does_nothing : TagMachine
does_nothing = with_calls (λ t c buffer. idle t buffer) (λ t m buffer. idle t buffer)

-- a reply said to be one bit longer than it is
abbrev pub longer : Given TagState → Given TagState
longer g = record { next = g.next; answer = g.answer; bits = g.bits + 1; buffer = g.buffer }

-- counts one bit too many in every reply
abbrev pub wrong_count : TagMachine
wrong_count = with_calls (λ t c buffer. longer (our_tag.command t c buffer)) (λ t m buffer. longer (our_tag.response t m buffer))

-- what it does is ours, but for the buffer
abbrev pub unwritten : Given TagState → List ℕ → Given TagState
unwritten g buffer = record { next = g.next; answer = g.answer; bits = g.bits; buffer = buffer }

-- counts its replies and writes none
abbrev pub writes_nothing : TagMachine
writes_nothing =
    with_calls (λ t c buffer. unwritten (our_tag.command t c buffer) buffer) (λ t m buffer. unwritten (our_tag.response t m buffer) buffer)

-- what it does is ours, and what it answers is n
abbrev pub answering : ℕ → Given TagState → Given TagState
answering n g = record { next = g.next; answer = n; bits = g.bits; buffer = g.buffer }

-- answers n to every command, whatever comes
abbrev pub answers_always : ℕ → TagMachine
answers_always n = with_command (λ t c buffer. answering n (our_tag.command t c buffer))

-- ---- comparisons

-- all checks have passed, as 0 or 10 is answered: "comparison (10)" is the order's last
abbrev pub passes : {S : Type 0} → Given S → Bool
passes g = eqb g.answer 0 || eqb g.answer 10

-- the session that a step 1 command fills
abbrev pub session_at : TagState → Command → Session
session_at t c = filled_session (chosen_width (options_in (bits_of_bytes c.payload))) (secrets_of t).engine

-- step 1 at a tag that compares the word that it expects with the one that came by `same`
abbrev pub proved_with : (ℕ → ℕ → Bool) → TagState → Command → Result TagState
proved_with same t c =
    let l = bits_of_bytes c.payload in
    let next = next_keystream (session_at t c).engine in
    said (proved_by (mutually (face_of t)) (same next.word (reader_keystream_in l)) (face_of t).keyid (options_in l) next.engine (session_at t c))

-- "Step 1 command, 80 bits": ours compares by `eqb`
abbrev pub compares_by : (ℕ → ℕ → Bool) → TagMachine
compares_by same =
    with_command (λ t c buffer.
    let g = our_tag.command t c buffer in
    cond (eqb c.kind 0 && (eqb c.count 80 && passes g)) (given (proved_with same t c) buffer) g)

-- no bit is compared
abbrev pub any_word : ℕ → ℕ → Bool
any_word word guess = true

-- takes every guess of the 64 keystream bits
abbrev pub takes_any : TagMachine
takes_any = compares_by any_word

-- the first 32 of the 64 bits
abbrev pub same_half : ℕ → ℕ → Bool
same_half word guess = eqb (word / 2 ^ 32) (guess / 2 ^ 32)

-- compares no more of them
abbrev pub compares_half : TagMachine
compares_half = compares_by same_half

-- a reply whose last 64 bits are zeros
abbrev pub zeroed : {S : Type 0} → Given S → List ℕ → Given S
zeroed g buffer = record {
  next = g.next;
  answer = g.answer;
  bits = g.bits;
  buffer = shown (take (g.bits - 64) (bits_of_bytes g.buffer) ++ bits_of 64 0) buffer;
}

-- the comparison of a machine whose keystream is zeros
abbrev pub is_zero : ℕ → ℕ → Bool
is_zero word guess = eqb 0 guess

-- the keystream bits of its authentications are zeros, those that it says, in 120 bits or 65, and those that it compares with
abbrev pub zero_tag : TagMachine
zero_tag =
    with_command (λ t c buffer.
    let g = (compares_by is_zero).command t c buffer in
    cond (eqb c.kind 0 && (eqb g.bits 120 || eqb g.bits 65)) (zeroed g buffer) g)

-- a message taken as it came, its MAC not looked at
abbrev pub taken_anyway : TagState → Command → Result TagState
taken_anyway t c =
    let v = stored_width (face_of t).width in
    let cs = take (data_bits (width_of v) c.count) (bits_of_bytes c.payload) in
    done_by (with_session t (after_message v cs (secrets_of t))) (data_of v (eqb c.kind 2) cs (secrets_of t))

-- takes a message with any MAC
abbrev pub takes_any_mac : TagMachine
takes_any_mac =
    with_command (λ t c buffer.
    let g = our_tag.command t c buffer in
    cond (not (eqb c.kind 0) && passes g) (given (taken_anyway t c) buffer) g)

-- ---- MACs

-- "The MAC is the accumulator": it is left at zero
abbrev pub emptied : Session → Session
emptied x = record { engine = x.engine; acc = 0; reg = x.reg }

-- the next state changed, where the call is done
abbrev pub after_done : {S : Type 0} → (S → S) → Given S → Given S
after_done change g = record { next = cond (eqb g.answer 0) (change g.next) g.next; answer = g.answer; bits = g.bits; buffer = g.buffer }

-- a tag's state with its accumulator emptied
abbrev pub emptied_tag : TagState → TagState
emptied_tag t = with_session t (emptied (secrets_of t))

-- begins the accumulator anew with every message, against "It is not started again: the next message goes on from it"
abbrev pub anew_tag : TagMachine
anew_tag =
    with_calls (λ t c buffer. cond (eqb c.kind 0) (our_tag.command t c buffer) (after_done emptied_tag (our_tag.command t c buffer)))
    (λ t m buffer. after_done emptied_tag (our_tag.response t m buffer))

-- ours, with the MAC of its first message once it has spoken
pub record Copier : Type 0 where
  pub tag : TagState
  pub macs : List ℕ

-- the first MAC, where there is one, and else this one
abbrev pub mac_or : List ℕ → ℕ → ℕ
mac_or [] mac = mac
mac_or (first ∷ macs) mac = first

-- what our tag gives, handed on unchanged
abbrev pub holding : List ℕ → Given TagState → Given Copier
holding macs g = record { next = record { tag = g.next; macs = macs }; answer = g.answer; bits = g.bits; buffer = g.buffer }

-- a message with this MAC in the place of its own, which is the last field of the width
abbrev pub copied : ℕ → ℕ → Given TagState → List ℕ → Given Copier
copied w mac g buffer = record {
  next = record { tag = g.next; macs = mac ∷ [] };
  answer = g.answer;
  bits = g.bits;
  buffer = shown (take (g.bits - w) (bits_of_bytes g.buffer) ++ bits_of w mac) buffer;
}

-- a response answered 0 has the first MAC, and a refusal is ours
abbrev pub spoken : Copier → Given TagState → List ℕ → Given Copier
spoken c g buffer =
    cond (eqb g.answer 0) (copied (face_of c.tag).width (mac_or c.macs (secrets_of g.next).acc) g buffer) (holding c.macs g)

-- computes the MAC of its first message, and copies it into all others
abbrev pub copies_mac : TagMachine
copies_mac = record {
  State = Copier;
  reset = λ buffer. holding [] (our_tag.reset buffer);
  command = λ c i buffer. holding c.macs (our_tag.command c.tag i buffer);
  response = λ c m buffer. spoken c (our_tag.response c.tag m buffer) buffer;
  close = λ c. record { tag = our_tag.close c.tag; macs = c.macs };
  error_type = λ c. our_tag.error_type c.tag;
  face = λ c. our_tag.face c.tag;
  session = λ c. our_tag.session c.tag;
  sound = λ c. our_tag.sound c.tag;
}
