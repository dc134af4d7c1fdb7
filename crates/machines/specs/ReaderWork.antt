-- Document 01, "Reader machine": what a call does to the state, and its reply. Assumes nothing.
use Rattle.std.specs.Prelude.{Bool, true, false, cond, List, [], ℕ, eqb, take}
use Rattle.bits.specs.Bytes.{bits_of_bytes}
use Rattle.book.specs.Book as Book
use Rattle.grain.specs.declared.Session.{Session}
use Rattle.payloads.specs.declared.Payload.TheVariants.{StepZero, StepOne, Nothing}
use Rattle.payloads.specs.Payloads.{tag_number_in, tag_keystream_in, status_in, mutual_keystream_in, zeros_of}
use Rattle.rules.specs.declared.ReplyWork.{ReplyWork}
use Rattle.rules.specs.declared.ReplyWork.TheVariants.{Compare, Answer, Fail, Accept, Confirm}
use Rattle.rules.specs.Results.{Result, Outcome, done_by, said, reached, differed, decided}
use Rattle.rules.specs.declared.ShownBegin.{ShownBegin}
use Rattle.rules.specs.declared.ShownReply.{ShownReply}
use Rattle.rules.specs.Answers.{Verdict, if_sound}
use Rattle.rules.specs.Calls.{Begin, Message, message_shown}
use Rattle.rules.specs.ReaderRules.{begin_shown, begin_verdict, reply_shown, reply_verdict, reply_work, send_verdict, receive_verdict}
use Rattle.states.specs.Sessions.{chosen_width, stored_width, key_in, begun_engine, filled_session, next_keystream, with_engine}
use Rattle.states.specs.ReaderStates.{ReaderState, reader_face_of, reader_secrets_of, reader_sound, reset_reader, closed_reader, begun_reader, filled_reader, opened_reader, with_reader_session}
use Rattle.machines.specs.Messages.{sent, received}

-- ---- begin

-- "Options are 0000 for IA and MA"
abbrev pub begin_options : ℕ → ℕ → ℕ
begin_options method options = cond (eqb method 0) options 0

-- "gives the step 0 command and stores the first four until closed or reset"
abbrev pub begun_by : ℕ → ℕ → ℕ → ℕ → List ℕ → Outcome ReaderState
begun_by method options keyid number key =
    reached (begun_reader method options keyid number (key_in key)) (StepZero method (begin_options method options) keyid number)

-- what a begin is refused for: 8 before what the rules say of the face
abbrev pub begin_judged : ReaderState → ShownBegin → Verdict
begin_judged r p = if_sound (reader_sound r) (begin_verdict (reader_face_of r) p)

-- "Begin (only when idle, else 9): method, options, KeyID, number, book"
unfoldable pub begin_of : ReaderState → Begin → ℕ → Result ReaderState
begin_of r i room =
    decided (begin_judged r (begin_shown i room)) r closed_reader
    (said (begun_by i.method i.options i.keyid i.number (Book.key_of i.keyid i.book)))

-- ---- the authentication response

-- the session that the tag's number starts
unfoldable pub answer_session : ReaderState → List Bool → Session
answer_session r l =
    filled_session (chosen_width (reader_face_of r).options) (begun_engine (reader_secrets_of r).engine.b (reader_face_of r).method (reader_face_of r).number (tag_number_in l))

-- 10 closes, and "the last authentication response, accepted by the reader, has a reply of no bits"
unfoldable pub matched : Bool → ReaderState → Outcome ReaderState
matched same next = cond same (reached next Nothing) (differed closed_reader Nothing)

-- "TA and MA compare the tag's 64 bits": those of TA's response
unfoldable pub compare_of : ReaderState → List Bool → Outcome ReaderState
compare_of r l =
    let x = answer_session r l in
    matched (eqb (next_keystream x.engine).word (tag_keystream_in l)) (filled_reader true r (with_engine x (next_keystream x.engine).engine))

-- "in IA and MA the step 1 command is then the reply", with the "first 64 keystream bits"
unfoldable pub answer_of : ReaderState → List Bool → Outcome ReaderState
answer_of r l =
    let x = answer_session r l in
    reached (filled_reader false r (with_engine x (next_keystream x.engine).engine))
    (StepOne (reader_face_of r).method (reader_face_of r).options (reader_face_of r).keyid (next_keystream x.engine).word)

-- "IA accepts status 0"
abbrev pub accept_of : ReaderState → Outcome ReaderState
accept_of r = reached (opened_reader r (reader_secrets_of r)) Nothing

-- "TA and MA compare the tag's 64 bits": "keystream bits 64..127" in MA
unfoldable pub confirm_of : ReaderState → List Bool → Outcome ReaderState
confirm_of r l =
    let ks = next_keystream (reader_secrets_of r).engine in
    matched (eqb ks.word (mutual_keystream_in l)) (opened_reader r (with_engine (reader_secrets_of r) ks.engine))

-- the work stands behind all checks, as "comparison (10)" is the order's last
unfoldable pub answered_by : ReplyWork → ReaderState → List Bool → Outcome ReaderState
answered_by Compare r l = compare_of r l
answered_by Answer r l = answer_of r l
answered_by Fail r l = differed closed_reader Nothing
answered_by Accept r l = accept_of r
answered_by Confirm r l = confirm_of r l

-- what an authentication response is refused for
abbrev pub reply_judged : ReaderState → ShownReply → Verdict
reply_judged r p = if_sound (reader_sound r) (reply_verdict (reader_face_of r) p)

-- "Then it takes the response"
unfoldable pub replied_of : ReaderState → List ℕ → ℕ → ℕ → Result ReaderState
replied_of r payload count room =
    let l = bits_of_bytes payload in
    decided (reply_judged r (reply_shown payload count room)) r closed_reader
    (said (answered_by (reply_work (reader_face_of r) (status_in l)) r l))

-- ---- messages; kind 2 is secure

unfoldable pub sent_by : ReaderState → Message → Result ReaderState
sent_by r m =
    sent (with_reader_session r) (stored_width (reader_face_of r).width) (eqb m.kind 2) (take m.count (bits_of_bytes m.payload)) (reader_secrets_of r)

-- what a message to send is refused for
abbrev pub send_judged : ReaderState → Message → ℕ → Verdict
send_judged r m room = if_sound (reader_sound r) (send_verdict (reader_face_of r) (message_shown m room))

-- "it sends in IA and MA"
unfoldable pub sending_of : ReaderState → Message → ℕ → Result ReaderState
sending_of r m room = decided (send_judged r m room) r closed_reader (sent_by r m)

unfoldable pub received_by : ReaderState → Message → Result ReaderState
received_by r m =
    received (with_reader_session r) closed_reader (stored_width (reader_face_of r).width) (eqb m.kind 2) m.count (bits_of_bytes m.payload) (reader_secrets_of r)

-- what a message that came is refused for: its zero bits are shown, too
abbrev pub receive_judged : ReaderState → Message → ℕ → Verdict
receive_judged r m room =
    let zeros = zeros_of (reader_face_of r).width m.count (bits_of_bytes m.payload) in
    if_sound (reader_sound r) (receive_verdict (reader_face_of r) (message_shown m room) zeros)

-- "receives in TA and MA"
unfoldable pub receiving_of : ReaderState → Message → ℕ → Result ReaderState
receiving_of r m room = decided (receive_judged r m room) r closed_reader (received_by r m)

-- "Reset is never refused: it answers 0 with no bits"
abbrev pub reader_reset : Result ReaderState
reader_reset = done_by reset_reader []
