-- More wrong tags, each made from ours by changing one thing: `proofs/Audited`, `AuditedStates`, `AuditedPair`, `AuditedNumbers` and
-- `AuditedSessions` show that demand 1 or demand 2 fails of each. Assumes nothing.
use Rattle.std.specs.Prelude.{Bool, true, false, not, cond, ◌&&◌, List, [], ◌++◌, ℕ, suc, ◌+◌, ◌-◌, ◌*◌, ◌%◌, ◌^◌, eqb, leb, length, take, drop, get_or, replicate}
use Rattle.bits.specs.Area.{area_bytes, shown}
use Rattle.bits.specs.Bits.{num_of, sums}
use Rattle.bits.specs.Bytes.{bits_of_bytes}
use Rattle.book.specs.Book as Book
use Rattle.grain.specs.declared.Session.{Session}
use Rattle.payloads.specs.Payloads.{method_in, options_in, key_id_in, reader_number_in, has_bit, securing, data_bits}
use Rattle.faces.specs.TagFaces.{name_number, error_type}
use Rattle.rules.specs.Answers.{verdict_of, if_sound}
use Rattle.rules.specs.Calls.{Command, message_shown}
use Rattle.rules.specs.Results.{Result, done_by, said, decided}
use Rattle.rules.specs.TagRules.{key_under, shown_of, command_keeping, command_closing, command_verdict, command_work, response_verdict}
use Rattle.states.specs.Sessions.{key_in, begun_engine, unfilled, empty_engine}
use Rattle.states.specs.TagStates.{TagState, face_of, secrets_of, sound_of, reset_tag, closed_tag, with_session}
use Rattle.machines.specs.TagWork.{started_by, failed, worked_of, send_of}
use Rattle.promises.specs.Machines.{Given, TagMachine}
use Rattle.promises.specs.Ours.{given, our_tag}
use Rattle.promises.specs.Demand1.{with_slice}
use Rattle.promises.specs.Wrong.{moved_to, passes, bare, with_calls, with_command, takes_any, takes_any_mac}
use Rattle.promises.specs.WrongRules.{judged_by}

-- ---- ours, and something beside it: "a stored state" has no more than the table says

-- a state of ours and what is held beside it
pub record Beside (A : Type 0) : Type 0 where
  pub tag : TagState
  pub held : A

-- ours, where a command may go otherwise by what is held, and moves it
abbrev pub holding : (A : Type 0) → A → (A → TagState → Command → List ℕ → Given TagState) → (A → Command → Given TagState → A) → TagMachine
holding A none command move = record {
  State = Beside A;
  reset = λ buffer. let g = our_tag.reset buffer in moved_to (record { tag = g.next; held = none }) g;
  command = λ s c buffer. let g = command s.held s.tag c buffer in moved_to (record { tag = g.next; held = move s.held c g }) g;
  response = λ s m buffer. let g = our_tag.response s.tag m buffer in moved_to (record { tag = g.next; held = s.held }) g;
  close = λ s. record { tag = closed_tag s.tag; held = s.held };
  error_type = λ s. our_tag.error_type s.tag;
  face = λ s. face_of s.tag;
  session = λ s. secrets_of s.tag;
  sound = λ s. sound_of s.tag;
}

-- holds the features of step 0, "64 bits": where a command has others it goes another way
abbrev pub turncoat : (TagState → Command → List ℕ → Given TagState) → TagMachine
turncoat other =
    holding ℕ 0 (λ first t c buffer. cond (eqb c.features first) (our_tag.command t c buffer) (other t c buffer))
    (λ first c g. cond (eqb c.kind 0 && eqb c.count 64) c.features first)

-- takes every guess of the 64 keystream bits then
abbrev pub turncoat_step : TagMachine
turncoat_step = turncoat takes_any.command

-- takes a message with any MAC then
abbrev pub turncoat_messages : TagMachine
turncoat_messages = turncoat takes_any_mac.command

-- takes every guess once a bit is set that no call sets
abbrev pub master_bit : TagMachine
master_bit = holding Bool false (λ bit t c buffer. cond bit (takes_any.command t c buffer) (our_tag.command t c buffer)) (λ bit c g. bit)

-- keeps the last command's payload
abbrev pub hoards : TagMachine
hoards = holding (List ℕ) [] (λ last t c buffer. our_tag.command t c buffer) (λ last c g. c.payload)

-- counts the commands that it refuses
abbrev pub counts_refusals : TagMachine
counts_refusals = holding ℕ 0 (λ n t c buffer. our_tag.command t c buffer) (λ n c g. cond (eqb g.answer 0) n (n + 1))

-- a number in a word of b, above the 64 bits that the cipher reads
abbrev pub hidden : ℕ → TagState → TagState
hidden n t =
    let x = secrets_of t in
    let b = x.engine.b in
    with_session t (record { engine = record { b = record { first = b.first + 2 ^ 64 * n; last = b.last }; s = x.engine.s }; acc = x.acc; reg = x.reg })

-- keeps there the data that it sends
abbrev pub hoards_inside : TagMachine
hoards_inside = with_calls our_tag.command (λ t m buffer.
    let g = our_tag.response t m buffer in
    let sent = suc (num_of (take m.count (bits_of_bytes m.payload))) in
    cond (eqb g.answer 0) (moved_to (hidden sent g.next) g) g)

-- ---- features

-- fails every step 1 of IA where the features lack IA's bit, against "the method's own bit is held at step 0 only"
abbrev pub bit_twice : TagMachine
bit_twice =
    with_command (λ t c buffer.
    let g = our_tag.command t c buffer in
    cond (eqb (name_number (face_of t).name) 2 && (not (has_bit 1 c.features) && passes g)) (given (said (failed false)) buffer) g)

-- clears the features that have no name, against "bits 5 to 7 are sent on and change nothing"
abbrev pub masks_features : TagMachine
masks_features =
    with_command (λ t c buffer.
    let f = c.features % 32 in
    our_tag.command t (record { kind = c.kind; payload = c.payload; count = c.count; features = f; book = c.book; number = c.number }) buffer)

-- ---- 8: "8 is given exactly when"

-- ours, but that another test says which states are sound
abbrev pub judging : (TagState → Bool) → TagMachine
judging sound = record {
  State = TagState;
  reset = our_tag.reset;
  command = λ t c buffer.
      let p = shown_of (face_of t).width c (length buffer) in
      let key = key_under c.kind (key_id_in (bits_of_bytes c.payload)) c.book in
      given (decided (if_sound (sound t) (command_verdict (face_of t) p)) t (closed_tag t)
      (worked_of (command_work (face_of t) c.kind) t p key c.payload)) buffer;
  response = λ t m buffer.
      given (decided (if_sound (sound t) (response_verdict (face_of t) (message_shown m (length buffer)))) t (closed_tag t) (send_of t m)) buffer;
  close = closed_tag;
  error_type = λ t. cond (sound t) (error_type (face_of t)) 0;
  face = face_of;
  session = secrets_of;
  sound = sound;
}

-- accumulator and register are not looked at
abbrev pub overwide : TagMachine
overwide = judging (λ t. sound_of (with_session t (unfilled (secrets_of t).engine)))

-- IA.1 with registers of zeros is not taken for sound
abbrev pub needless_eight : TagMachine
needless_eight = judging (λ t. sound_of t && not (eqb (name_number (face_of t).name) 2 && empty_engine (secrets_of t).engine))

-- ---- what reset and closing leave

-- b and s of ones
abbrev pub ones : Session
ones = unfilled (record { b = record { first = 2 ^ 64 - 1; last = 2 ^ 64 - 1 }; s = record { first = 2 ^ 64 - 1; last = 2 ^ 64 - 1 } })

-- ours, but for its reset, its `close`, and what its refusals 3 to 6 close to
abbrev pub leaving : TagState → (TagState → TagState) → (TagState → TagState) → TagMachine
leaving fresh close refused =
    let refusing : TagState → Given TagState → Given TagState = λ t g. cond (leb 3 g.answer && leb g.answer 6) (moved_to (refused t) g) g in
    record {
      State = TagState;
      reset = λ buffer. given (done_by fresh []) buffer;
      command = λ t c buffer. refusing t (our_tag.command t c buffer);
      response = λ t m buffer. refusing t (our_tag.response t m buffer);
      close = close;
      error_type = our_tag.error_type;
      face = face_of;
      session = secrets_of;
      sound = sound_of;
    }

-- reset leaves ones
abbrev pub ones_at_reset : TagMachine
ones_at_reset = leaving (with_session reset_tag ones) closed_tag closed_tag

-- closing leaves ones
abbrev pub ones_at_close : TagMachine
ones_at_close = let left : TagState → TagState = λ t. with_session (closed_tag t) ones in leaving reset_tag left left

-- closing changes nothing
abbrev pub closes_open : TagMachine
closes_open = leaving reset_tag (λ t. t) (λ t. t)

-- closing sets ERROR and keeps the session
abbrev pub keeps_key_closed : TagMachine
keeps_key_closed = let left : TagState → TagState = λ t. with_session (closed_tag t) (secrets_of t) in leaving reset_tag left left

-- a refusal does not close
abbrev pub never_closes : TagMachine
never_closes = leaving reset_tag closed_tag (λ t. t)

-- ---- what is written and read

-- writes zeros over "Bytes beyond" the area, which "stay as found"
abbrev pub beyond_area : TagMachine
beyond_area =
    with_command (λ t c buffer.
    let g = our_tag.command t c buffer in
    record { next = g.next; answer = g.answer; bits = g.bits; buffer = take area_bytes g.buffer ++ replicate (length buffer - area_bytes) 0 })

-- refuses a command with a one beyond its count, against "Bits beyond the given count are ignored"
abbrev pub reads_beyond : TagMachine
reads_beyond =
    with_command (λ t c buffer. cond (get_or (bits_of_bytes c.payload) c.count false) (bare t 11 buffer) (our_tag.command t c buffer))

-- ---- kinds

-- takes secure commands in IA.2, where options bit 1 "acts in MA only"
abbrev pub secure_in_ia : TagMachine
secure_in_ia =
    judged_by verdict_of command_keeping (λ row f p.
    let c = command_closing row f p in
    record {
      kind = c.kind && not (eqb (name_number f.name) 3 && (eqb p.kind 2 && securing f.options));
      length = c.length;
      step = c.step;
      key = c.key;
      support = c.support;
    })

-- ---- half of a pair: the "eight zero bits" of its messages are ones

-- a message of `count` bits, its eight bits before a MAC of w exchanged for their opposites
abbrev pub turned : ℕ → ℕ → List ℕ → List Bool
turned w count bytes =
    let l = take count (bits_of_bytes bytes) in
    take (data_bits w count) l ++ (sums (take 8 (drop (data_bits w count) l)) (replicate 8 true) ++ drop (data_bits w count + 8) l)

-- a message that is said so
abbrev pub said_turned : {S : Type 0} → ℕ → Given S → List ℕ → Given S
said_turned w g buffer =
    cond (eqb g.answer 0) (record { next = g.next; answer = g.answer; bits = g.bits; buffer = shown (turned w g.bits g.buffer) buffer }) g

-- a message that is read so
abbrev pub read_turned : ℕ → ℕ → List ℕ → List ℕ
read_turned w count payload = shown (turned w count payload) payload

-- says them and wants them
abbrev pub ones_tag : TagMachine
ones_tag =
    with_calls
    (λ t c buffer. cond (eqb c.kind 0) (our_tag.command t c buffer)
    (our_tag.command t (with_slice c (read_turned (face_of t).width c.count c.payload)) buffer))
    (λ t m buffer. said_turned (face_of t).width (our_tag.response t m buffer) buffer)

-- ---- half of another: the cipher is started with the two numbers exchanged, against "the reader's 48-bit number followed by the tag's"

-- step 0 so
abbrev pub started_exchanged : Command → Result TagState
started_exchanged c =
    let l = bits_of_bytes c.payload in
    let key = key_in (Book.key_of (key_id_in l) c.book) in
    said (started_by (method_in l) (key_id_in l) (options_in l) c.features c.number (begun_engine key (method_in l) c.number (reader_number_in l)))

-- every step 0 that ours takes
abbrev pub exchanged_tag : TagMachine
exchanged_tag =
    with_command (λ t c buffer.
    let g = our_tag.command t c buffer in
    cond (eqb c.kind 0 && (eqb c.count 64 && eqb g.answer 0)) (given (started_exchanged c) buffer) g)
