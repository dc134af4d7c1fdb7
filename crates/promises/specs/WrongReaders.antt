-- Wrong readers, each made from ours by changing one thing: `proofs/Comparing` shows that demand 2 fails of each, with any tag. And the
-- readers that understand two wrong tags: `proofs/Copied` and `Zeros` show that each pair talks, and that demand 2 fails of it.
-- Assumes nothing.
use Rattle.std.specs.Prelude.{Bool, true, cond, ◌&&◌, List, [], ℕ, eqb, take}
use Rattle.bits.specs.Bytes.{bits_of_bytes}
use Rattle.grain.specs.Stored.{width_of}
use Rattle.payloads.specs.Payloads.{tag_keystream_in, mutual_keystream_in, data_bits}
use Rattle.rules.specs.Calls.{Message}
use Rattle.rules.specs.Results.{Result, done_by, said}
use Rattle.states.specs.Sessions.{stored_width, next_keystream, with_engine, after_message, data_of}
use Rattle.states.specs.ReaderStates.{ReaderState, reader_face_of, reader_secrets_of, filled_reader, opened_reader, with_reader_session}
use Rattle.machines.specs.ReaderWork.{answer_session, matched}
use Rattle.promises.specs.Machines.{Given, ReaderMachine}
use Rattle.promises.specs.Ours.{given, our_reader}
use Rattle.promises.specs.Wrong.{passes, any_word, is_zero, zeroed, emptied, after_done}

-- ours, but for the authentication responses that come to it, and its messages both ways
abbrev pub with_taken : (ReaderState → List ℕ → ℕ → List ℕ → Given ReaderState) → (ReaderState → Message → List ℕ → Given ReaderState)
    → (ReaderState → Message → List ℕ → Given ReaderState) → ReaderMachine
with_taken replied send receive = record {
  State = ReaderState;
  reset = our_reader.reset;
  begin = our_reader.begin;
  replied = replied;
  send = send;
  receive = receive;
  face = our_reader.face;
  session = our_reader.session;
  sound = our_reader.sound;
}

-- ours, but for the authentication responses that come to it
abbrev pub with_replied : (ReaderState → List ℕ → ℕ → List ℕ → Given ReaderState) → ReaderMachine
with_replied replied = with_taken replied our_reader.send our_reader.receive

-- TA's response at a reader that compares by `same`
abbrev pub ta_with : (ℕ → ℕ → Bool) → ReaderState → List Bool → Result ReaderState
ta_with same r l =
    let x = answer_session r l in
    let next = next_keystream x.engine in
    said (matched (same next.word (tag_keystream_in l)) (filled_reader true r (with_engine x next.engine)))

-- MA's response at such a reader
abbrev pub ma_with : (ℕ → ℕ → Bool) → ReaderState → List Bool → Result ReaderState
ma_with same r l =
    let next = next_keystream (reader_secrets_of r).engine in
    said (matched (same next.word (mutual_keystream_in l)) (opened_reader r (with_engine (reader_secrets_of r) next.engine)))

-- "TA 120 bits"; "MA step 1, bit 0 and keystream bits 64..127": 65
abbrev pub replies_by : (ℕ → ℕ → Bool) → (ℕ → ℕ → Bool) → ReaderState → List ℕ → ℕ → List ℕ → Given ReaderState
replies_by ta ma r payload count buffer =
    let g = our_reader.replied r payload count buffer in
    cond (passes g)
    (cond (eqb count 120) (given (ta_with ta r (bits_of_bytes payload)) buffer)
    (cond (eqb count 65) (given (ma_with ma r (bits_of_bytes payload)) buffer)
    g))
    g

-- takes every TA response
abbrev pub believes : ReaderMachine
believes = with_taken (replies_by any_word eqb) our_reader.send our_reader.receive

-- takes every MA response
abbrev pub believes_last : ReaderMachine
believes_last = with_taken (replies_by eqb any_word) our_reader.send our_reader.receive

-- takes the tag's failure, "the single bit 1", as IA's status 0
abbrev pub believes_failure : ReaderMachine
believes_failure =
    with_taken (λ r payload count buffer.
    let g = our_reader.replied r payload count buffer in
    cond (eqb count 1 && passes g) (given (done_by (opened_reader r (reader_secrets_of r)) []) buffer) g) our_reader.send our_reader.receive

-- a message taken as it came, its MAC not looked at
abbrev pub received_anyway : ReaderState → Message → Result ReaderState
received_anyway r m =
    let v = stored_width (reader_face_of r).width in
    let cs = take (data_bits (width_of v) m.count) (bits_of_bytes m.payload) in
    done_by (with_reader_session r (after_message v cs (reader_secrets_of r))) (data_of v (eqb m.kind 2) cs (reader_secrets_of r))

-- takes a message with any MAC
abbrev pub believes_macs : ReaderMachine
believes_macs =
    with_taken our_reader.replied our_reader.send
    (λ r m buffer. cond (passes (our_reader.receive r m buffer)) (given (received_anyway r m) buffer) (our_reader.receive r m buffer))

-- ---- the partners of wrong tags

-- `zero_tag`'s: it says zeros in step 1's 80 bits, and compares with zeros
abbrev pub zero_reader : ReaderMachine
zero_reader =
    with_taken (λ r payload count buffer.
    let g = replies_by is_zero is_zero r payload count buffer in cond (eqb g.bits 80) (zeroed g buffer) g) our_reader.send our_reader.receive

-- a reader's state with its accumulator emptied
abbrev pub emptied_reader : ReaderState → ReaderState
emptied_reader r = with_reader_session r (emptied (reader_secrets_of r))

-- `anew_tag`'s: it begins the accumulator anew with every message
abbrev pub anew_reader : ReaderMachine
anew_reader =
    with_taken our_reader.replied (λ r m buffer. after_done emptied_reader (our_reader.send r m buffer))
    (λ r m buffer. after_done emptied_reader (our_reader.receive r m buffer))
