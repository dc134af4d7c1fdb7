-- Machines that go by a wrong rule, each made from ours by changing one: `proofs/RefutedRules` shows that demand 1 fails of each.
-- Assumes nothing.
use Rattle.std.specs.Prelude.{Bool, true, false, not, cond, ◌&&◌, ◌||◌, ℕ, eqb, length}
use Rattle.bits.specs.Bytes.{bits_of_bytes}
use Rattle.payloads.specs.Payloads.{key_id_in, length_fits, status_in, has_bit, supports, offers}
use Rattle.faces.specs.declared.Face.{Face}
use Rattle.faces.specs.declared.ReaderFace.{ReaderFace}
use Rattle.faces.specs.declared.Row.{Row}
use Rattle.faces.specs.declared.StageRow.{StageRow}
use Rattle.faces.specs.TagFaces.{row_of, fresh}
use Rattle.faces.specs.ReaderFaces.{stage_row}
use Rattle.rules.specs.declared.Answer.TheVariants.{BadArgument}
use Rattle.rules.specs.declared.Closing.{Closing}
use Rattle.rules.specs.declared.Keeping.{Keeping}
use Rattle.rules.specs.declared.Shown.{Shown}
use Rattle.rules.specs.declared.ShownReply.{ShownReply}
use Rattle.rules.specs.Answers.{Verdict, keep, verdict_of, if_sound}
use Rattle.rules.specs.Results.{decided, said}
use Rattle.rules.specs.TagRules.{key_under, shown_of, command_keeping, command_closing, command_work}
use Rattle.rules.specs.ReaderRules.{reply_shown, reply_keeping, reply_closing, reply_work}
use Rattle.states.specs.TagStates.{TagState, face_of, sound_of, closed_tag}
use Rattle.states.specs.ReaderStates.{reader_face_of, reader_sound, closed_reader}
use Rattle.machines.specs.TagWork.{worked_of}
use Rattle.machines.specs.ReaderWork.{answered_by}
use Rattle.promises.specs.Machines.{TagMachine, ReaderMachine}
use Rattle.promises.specs.Ours.{given, our_tag}
use Rattle.promises.specs.Wrong.{moved_to, with_command}
use Rattle.promises.specs.WrongReaders.{with_replied}

-- ---- the tag's checks

-- ours, but that a command is judged by another order, or by other checks
abbrev pub judged_by : (Keeping → Closing → Verdict) → (Row → Face → Shown → Keeping) → (Row → Face → Shown → Closing) → TagMachine
judged_by order keeping closing = with_command (λ t c buffer.
    let f = face_of t in
    let p = shown_of f.width c (length buffer) in
    let key = key_under c.kind (key_id_in (bits_of_bytes c.payload)) c.book in
    given (decided (if_sound (sound_of t) (order (keeping (row_of f.name) f p) (closing (row_of f.name) f p))) t (closed_tag t)
    (worked_of (command_work f c.kind) t p key c.payload)) buffer)

-- 11 before 2
abbrev pub argument_first : TagMachine
argument_first = judged_by (λ k c. cond k.argument (keep BadArgument) (verdict_of k c)) command_keeping command_closing

-- a comm command in TA.1 closes: it is 3, not 9
abbrev pub comm_closes : TagMachine
comm_closes = judged_by verdict_of (λ row f p. let k = command_keeping row f p in
    record { buffer = k.buffer; argument = k.argument; book = k.book; error = k.error; work = false }) command_closing

-- closing checks with another length
abbrev pub with_length : Bool → Closing → Closing
with_length wrong c = record { kind = c.kind; length = wrong; step = c.step; key = c.key; support = c.support }

-- the same of the KeyID
abbrev pub with_key : Bool → Closing → Closing
with_key wrong c = record { kind = c.kind; length = c.length; step = c.step; key = wrong; support = c.support }

-- the eight zero bits are not looked at
abbrev pub zeros_unread : TagMachine
zeros_unread = judged_by verdict_of command_keeping (λ row f p.
    with_length ((eqb p.kind 0 && not (eqb p.count row.bits)) || (not (eqb p.kind 0) && not (length_fits f.width p.count))) (command_closing row f p))

-- the KeyID is not held at step 1
abbrev pub any_key_id : TagMachine
any_key_id = judged_by verdict_of command_keeping (λ row f p. with_key (eqb p.kind 0 && (fresh row && not p.known)) (command_closing row f p))

-- ---- what the tag leaves

-- ours, but for its error type
abbrev pub with_error_type : (TagState → ℕ) → TagMachine
with_error_type error_type = record {
  State = TagState;
  reset = our_tag.reset;
  command = our_tag.command;
  response = our_tag.response;
  close = our_tag.close;
  error_type = error_type;
  face = our_tag.face;
  session = our_tag.session;
  sound = our_tag.sound;
}

-- error types 2 and 3 exchanged
abbrev pub errors_exchanged : TagMachine
errors_exchanged = with_error_type (λ t. let n = our_tag.error_type t in cond (eqb n 2) 3 (cond (eqb n 3) 2 n))

-- a failed step 1 stays in IA.1 or MA.1
abbrev pub failed_stays : TagMachine
failed_stays = with_command (λ t c buffer.
    let g = our_tag.command t c buffer in
    cond (eqb g.answer 10) (moved_to (closed_tag t) g) g)

-- ---- the reader's checks

-- ours, but that an authentication response is judged by other checks
abbrev pub replies_judged_by : (StageRow → ReaderFace → ShownReply → Closing) → ReaderMachine
replies_judged_by closing = with_replied (λ r payload count buffer.
    let f = reader_face_of r in
    let p = reply_shown payload count (length buffer) in
    let l = bits_of_bytes payload in
    given (decided (if_sound (reader_sound r) (verdict_of (reply_keeping (stage_row f.stage) p) (closing (stage_row f.stage) f p))) r closed_reader
    (said (answered_by (reply_work f (status_in l)) r l))) buffer)

-- closing checks with another check of the features
abbrev pub with_support : Bool → Closing → Closing
with_support wrong c = record { kind = c.kind; length = c.length; step = c.step; key = c.key; support = wrong }

-- ours, but that the features of step 0's response are held by another rule
abbrev pub held_by : (ReaderFace → ℕ → Bool) → ReaderMachine
held_by right = replies_judged_by (λ row f p. with_support (row.asked && not (right f p.features)) (reply_closing row f p))

-- not at all
abbrev pub any_features : ReaderFace → ℕ → Bool
any_features f features = true

-- the features that it receives are not held
abbrev pub features_unheld : ReaderMachine
features_unheld = held_by any_features

-- Req 01: "Document 01 holds received features against the options only"
abbrev pub options_only : ReaderFace → ℕ → Bool
options_only f features = supports features f.options

-- ours without Req 01: the method is not held
abbrev pub method_unheld : ReaderMachine
method_unheld = held_by options_only

-- IA's bit is asked of TA
abbrev pub ia_bit_of_ta : ReaderFace → ℕ → Bool
ia_bit_of_ta f features = (has_bit 1 features || eqb f.method 2) && supports features f.options

-- the reader that does
abbrev pub ta_by_ia_bit : ReaderMachine
ta_by_ia_bit = held_by ia_bit_of_ta

-- TA's bit is asked of MA
abbrev pub ta_bit_of_ma : ReaderFace → ℕ → Bool
ta_bit_of_ma f features = offers features f.method && (has_bit 0 features || not (eqb f.method 2)) && supports features f.options

-- the reader that does
abbrev pub ma_by_ta_bit : ReaderMachine
ma_by_ta_bit = held_by ta_bit_of_ma
