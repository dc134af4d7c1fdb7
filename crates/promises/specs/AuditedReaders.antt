-- More wrong readers, each made from ours by changing one thing: `proofs/AuditedReaders` shows that demand 1 or demand 2 fails of each.
-- And the readers that understand two wrong tags: `proofs/AuditedPair` and `AuditedNumbers` show that each pair talks, and that demand 2
-- fails of it. Assumes nothing.
use Rattle.std.specs.Prelude.{Bool, true, false, not, cond, ◌&&◌, List, [], ◌++◌, ℕ, ◌-◌, eqb, take, get_or}
use Rattle.bits.specs.Area.{shown}
use Rattle.bits.specs.Bits.{bits_of}
use Rattle.bits.specs.Bytes.{bits_of_bytes}
use Rattle.grain.specs.declared.Session.{Session}
use Rattle.payloads.specs.declared.Payload.TheVariants.{StepOne}
use Rattle.payloads.specs.Payloads.{features_in, tag_number_in, tag_keystream_in, has_bit}
use Rattle.faces.specs.declared.Stage.TheVariants.{Idle}
use Rattle.faces.specs.ReaderFaces.{stage_row}
use Rattle.rules.specs.Calls.{Begin}
use Rattle.rules.specs.Results.{done_by, said, reached}
use Rattle.states.specs.Sessions.{chosen_width, begun_engine, filled_session, next_keystream, with_engine, empty_session}
use Rattle.states.specs.ReaderStates.{ReaderState, reader_face_of, reader_secrets_of, reader_of, closed_reader, filled_reader, opened_reader}
use Rattle.machines.specs.ReaderWork.{matched}
use Rattle.promises.specs.Machines.{Given, ReaderMachine}
use Rattle.promises.specs.Order.{closes}
use Rattle.promises.specs.Ours.{given, our_reader}
use Rattle.promises.specs.Demand1.{message_with}
use Rattle.promises.specs.Wrong.{moved_to, passes, any_word}
use Rattle.promises.specs.WrongReaders.{with_replied, ta_with, with_taken}
use Rattle.promises.specs.Audited.{said_turned, read_turned}

-- ---- features: the reader holds them against the options and its method, and against nothing else

-- takes any word in a TA response whose features lack IA's bit
abbrev pub blind_without_ia : ReaderMachine
blind_without_ia =
    with_replied (λ r payload count buffer.
    let g = our_reader.replied r payload count buffer in
    let l = bits_of_bytes payload in
    cond (not (has_bit 1 (features_in l)) && (eqb count 120 && passes g)) (given (ta_with any_word r l) buffer) g)

-- a step 1 command whose last 64 bits are this word
abbrev pub worded : ℕ → Given ReaderState → List ℕ → Given ReaderState
worded word g buffer = record {
  next = g.next;
  answer = g.answer;
  bits = g.bits;
  buffer = shown (take (g.bits - 64) (bits_of_bytes g.buffer) ++ bits_of 64 word) buffer;
}

-- says 64 bits of the key for IA's "first 64 keystream bits", where the features that it hears lack TA's bit
abbrev pub key_spills : ReaderMachine
key_spills =
    with_replied (λ r payload count buffer.
    let g = our_reader.replied r payload count buffer in
    cond (eqb (reader_face_of r).method 1 && (eqb g.bits 80 && not (has_bit 0 (features_in (bits_of_bytes payload)))))
    (worded (reader_secrets_of r).engine.b.first g buffer) g)

-- ---- refusals

-- ours, but for reset and begin
abbrev pub with_begin : (List ℕ → Given ReaderState) → (ReaderState → Begin → List ℕ → Given ReaderState) → ReaderMachine
with_begin reset begin = record {
  State = ReaderState;
  reset = reset;
  begin = begin;
  replied = our_reader.replied;
  send = our_reader.send;
  receive = our_reader.receive;
  face = our_reader.face;
  session = our_reader.session;
  sound = our_reader.sound;
}

-- a refused begin closes as the table says of other calls, against "closed (begin: kept)"
abbrev pub closes_begin : ReaderMachine
closes_begin = with_begin our_reader.reset (λ r i buffer. let g = our_reader.begin r i buffer in cond (closes g.answer) (moved_to closed_reader g) g)

-- opens in MA by one bit, against "In MA a one-bit answer with status 0 .. is 6": no other answer of one bit is 6 there
abbrev pub takes_one_bit : ReaderMachine
takes_one_bit =
    with_replied (λ r payload count buffer.
    let g = our_reader.replied r payload count buffer in
    let f = reader_face_of r in
    cond ((stage_row f.stage).proving && (eqb f.method 2 && (eqb count 1 && eqb g.answer 6)))
    (given (done_by (opened_reader r (reader_secrets_of r)) []) buffer) g)

-- answers IA's status 1 with 10, and is open
abbrev pub status_opens : ReaderMachine
status_opens =
    with_replied (λ r payload count buffer.
    let g = our_reader.replied r payload count buffer in
    cond (eqb (reader_face_of r).method 1 && eqb g.answer 10) (moved_to (opened_reader r (reader_secrets_of r)) g) g)

-- ---- reset

-- takes the buffer's first byte for its number, against "Reset makes it idle"
abbrev pub reset_keeps : ReaderMachine
reset_keeps =
    with_begin (λ buffer. given (done_by (reader_of
    (record { stage = Idle; method = 0; options = 0; keyid = 0; number = get_or buffer 0 0; width = 0 }) empty_session) []) buffer) our_reader.begin

-- ---- the other halves of two pairs

-- `ones_tag`'s: the "eight zero bits" of its messages are ones
abbrev pub ones_reader : ReaderMachine
ones_reader =
    with_taken our_reader.replied (λ r m buffer. said_turned (reader_face_of r).width (our_reader.send r m buffer) buffer)
    (λ r m buffer. our_reader.receive r (message_with m (read_turned (reader_face_of r).width m.count m.payload)) buffer)

-- `exchanged_tag`'s: the cipher is started with the two numbers exchanged
abbrev pub exchanged_session : ReaderState → List Bool → Session
exchanged_session r l =
    let f = reader_face_of r in
    filled_session (chosen_width f.options) (begun_engine (reader_secrets_of r).engine.b f.method (tag_number_in l) f.number)

-- TA's response is compared so, and step 1 said so
abbrev pub exchanged_reader : ReaderMachine
exchanged_reader =
    with_replied (λ r payload count buffer.
    let g = our_reader.replied r payload count buffer in
    let f = reader_face_of r in
    let l = bits_of_bytes payload in
    let x = exchanged_session r l in
    let next = next_keystream x.engine in
    let filled : Bool → ReaderState = λ opens. filled_reader opens r (with_engine x next.engine) in
    cond ((stage_row f.stage).asked && passes g)
    (given (said (cond (eqb f.method 0) (matched (eqb next.word (tag_keystream_in l)) (filled true))
    (reached (filled false) (StepOne f.method f.options f.keyid next.word)))) buffer) g)
