-- Document 01, "Tag machine": what a call does to the state, and its reply. Assumes nothing.
use Rattle.std.specs.Prelude.{Bool, not, cond, List, [], ℕ, eqb, take}
use Rattle.bits.specs.Bytes.{bits_of_bytes}
use Rattle.grain.specs.declared.Engine.{Engine}
use Rattle.grain.specs.declared.Session.{Session}
use Rattle.grain.specs.declared.Method.TheVariants.{Ta, Ia, Ma}
use Rattle.payloads.specs.declared.Payload.TheVariants.{TagProof, TagChallenge, Status, MutualProof}
use Rattle.payloads.specs.Payloads.{key_id_in, reader_number_in, reader_keystream_in}
use Rattle.rules.specs.declared.Shown.{Shown}
use Rattle.rules.specs.declared.Work.{Work}
use Rattle.rules.specs.declared.Work.TheVariants.{Start, Prove, Receive}
use Rattle.rules.specs.Results.{Result, Outcome, done_by, said, reached, differed, decided}
use Rattle.rules.specs.Answers.{Verdict, if_sound}
use Rattle.rules.specs.Calls.{Command, Message, message_shown}
use Rattle.faces.specs.TagFaces.{mutually, error_type}
use Rattle.rules.specs.TagRules.{key_under, shown_of, command_verdict, command_work, response_verdict}
use Rattle.states.specs.Sessions.{chosen_width, stored_width, key_in, begun_engine, filled_session, next_keystream, with_engine}
use Rattle.states.specs.TagStates.{TagState, face_of, secrets_of, sound_of, reset_tag, closed_tag, failed_tag, begun_tag, open_tag, with_session}
use Rattle.machines.specs.Messages.{sent, received}

-- ---- step 0

-- to TA.1, with "TA 120 bits (features 8, tag's number 48, 64 keystream bits)"
abbrev pub ta_started : ℕ → ℕ → ℕ → ℕ → Session → Outcome TagState
ta_started keyid options features number x =
    reached (open_tag Ta keyid options (with_engine x (next_keystream x.engine).engine)) (TagProof features number (next_keystream x.engine).word)

-- to IA.1, or to MA.1 where `both` says so, with "IA and MA step 0, 56 bits"
abbrev pub challenged : Bool → ℕ → ℕ → ℕ → Engine → Outcome TagState
challenged both keyid features number e = reached (begun_tag both keyid e) (TagChallenge features number)

-- "CS-Init is passed within the call";
-- "In IA and MA the width is known only at step 1, so accumulator and register are filled then"
unfoldable pub started_by : ℕ → ℕ → ℕ → ℕ → ℕ → Engine → Outcome TagState
started_by method keyid options features number e =
    cond (eqb method 0) (ta_started keyid options features number (filled_session (chosen_width options) e)) (challenged (not (eqb method 1)) keyid features number e)

-- "KeyID is stored from step 0": the book's key under it starts the cipher
unfoldable pub start_of : Shown → List ℕ → List ℕ → Outcome TagState
start_of p key payload =
    started_by p.fields.method p.fields.keyid p.fields.options p.features p.number
    (begun_engine (key_in key) p.fields.method (reader_number_in (bits_of_bytes payload)) p.number)

-- ---- step 1

-- "A failed comparison in step 1 leads to IA.2 or MA.2"; the reply is the single bit 1
abbrev pub failed : Bool → Outcome TagState
failed both = differed (failed_tag both) (Status 1)

-- to IA.2, with "IA step 1, one bit"
abbrev pub interrogator_proved : ℕ → ℕ → Engine → Session → Outcome TagState
interrogator_proved keyid options e x = reached (open_tag Ia keyid options (with_engine x e)) (Status 0)

-- to MA.2, with "MA step 1, bit 0 and keystream bits 64..127"
abbrev pub mutually_proved : ℕ → ℕ → Engine → Session → Outcome TagState
mutually_proved keyid options e x = reached (open_tag Ma keyid options (with_engine x (next_keystream e).engine)) (MutualProof (next_keystream e).word)

-- "10.4.5 decides over table A.6: step 1 leads to MA.2"; the comparison is of all 64 bits; e is the engine after the first 64 pairs
unfoldable pub proved_by : Bool → Bool → ℕ → ℕ → Engine → Session → Outcome TagState
proved_by both same keyid options e x = cond same (cond both (mutually_proved keyid options e x) (interrogator_proved keyid options e x)) (failed both)

-- "IKeystream 64 (first 64 keystream bits)"; "accumulator and register are filled then"; the state says whose step 1 it is:
-- `step_wanted` has held the command's method against it
unfoldable pub prove_of : TagState → Shown → List ℕ → Outcome TagState
prove_of t p payload =
    let x = filled_session (chosen_width p.fields.options) (secrets_of t).engine in
    proved_by (mutually (face_of t)) (eqb (next_keystream x.engine).word (reader_keystream_in (bits_of_bytes payload)))
    (face_of t).keyid p.fields.options (next_keystream x.engine).engine x

-- ---- messages

-- kind 2 is secure
unfoldable pub receive_of : TagState → Shown → List ℕ → Result TagState
receive_of t p payload =
    received (with_session t) (closed_tag t) (stored_width (face_of t).width) (eqb p.kind 2) p.count (bits_of_bytes payload) (secrets_of t)

-- kind 5 is secure
unfoldable pub send_of : TagState → Message → Result TagState
send_of t m =
    sent (with_session t) (stored_width (face_of t).width) (eqb m.kind 5) (take m.count (bits_of_bytes m.payload)) (secrets_of t)

-- ---- the calls

-- the work stands behind all checks, as "comparison (10)" is the order's last
unfoldable pub worked_of : Work → TagState → Shown → List ℕ → List ℕ → Result TagState
worked_of Start t p key payload = said (start_of p key payload)
worked_of Prove t p key payload = said (prove_of t p payload)
worked_of Receive t p key payload = receive_of t p payload

-- what a command is refused for: 8 before what the rules say of the face
abbrev pub command_judged : TagState → Shown → Verdict
command_judged t p = if_sound (sound_of t) (command_verdict (face_of t) p)

-- a command, by what it shows, its key and its payload; "a payload error stays in MA.1", as closing keeps the name
unfoldable pub carried_of : TagState → Shown → List ℕ → List ℕ → Result TagState
carried_of t p key payload =
    decided (command_judged t p) t (closed_tag t) (worked_of (command_work (face_of t) p.kind) t p key payload)

-- "A command call takes kind, bits, features, book and the tag's number"
unfoldable pub command_of : TagState → Command → ℕ → Result TagState
command_of t c room =
    carried_of t (shown_of (face_of t).width c room) (key_under c.kind (key_id_in (bits_of_bytes c.payload)) c.book) c.payload

-- what a response is refused for: 8 before what the rules say of the face
abbrev pub response_judged : TagState → Message → ℕ → Verdict
response_judged t m room = if_sound (sound_of t) (response_verdict (face_of t) (message_shown m room))

-- "a response call takes kind and data"; "Responses wanted"
unfoldable pub response_of : TagState → Message → ℕ → Result TagState
response_of t m room = decided (response_judged t m room) t (closed_tag t) (send_of t m)

-- "Reset is never refused: it answers 0 with no bits"
abbrev pub reset_of : Result TagState
reset_of = done_by reset_tag []

-- "The error type is by Annex B's table .. 0 when ERROR is false or the state earns 8"
unfoldable pub error_type_of : TagState → ℕ
error_type_of t = cond (sound_of t) (error_type (face_of t)) 0
