-- Document 01, "Reader machine", line by line, with what document 02's requests amend: for each call of the reader which check refuses,
-- and where a call leads. It is said of what the reader shows, and apart from the tables of `faces` and `rules` that the code is proved
-- by; the payload rules and the book are shared. Assumes nothing.
use Rattle.std.specs.Prelude.{Bool, true, false, not, cond, ◌&&◌, ◌||◌, List, [], ◌++◌, ℕ, ◌*◌, ◌^◌, ltb, leb, eqb, length}
use Rattle.bits.specs.Bits.{bits_of}
use Rattle.bits.specs.Bytes.{bits_of_bytes, field_of}
use Rattle.book.specs.Book as Book
use Rattle.grain.specs.declared.Session.{Session}
use Rattle.faces.specs.declared.ReaderFace.{ReaderFace}
use Rattle.faces.specs.declared.Stage.{Stage}
use Rattle.faces.specs.declared.Stage.TheVariants.{Idle, Step0Sent, Step1Sent, Open, Closed}
use Rattle.payloads.specs.Payloads.{step_zero, features_in, status_in, mac_bits, securing, supports, offers}
use Rattle.rules.specs.Calls.{Message, Begin}
use Rattle.promises.specs.Order.{Checks, Leads, message_right, send_argument}

-- ---- the faces

-- "Reset makes it idle"; "A closed reader keeps nothing but that it is closed"
abbrev pub bare_face : Stage → ReaderFace
bare_face stage = record { stage = stage; method = 0; options = 0; keyid = 0; number = 0; width = 0 }

-- "stores the first four until closed or reset"
abbrev pub begun_face : Begin → ReaderFace
begun_face i = record { stage = Step0Sent; method = i.method; options = i.options; keyid = i.keyid; number = i.number; width = 0 }

-- step 1 sent, or open: the width is known
abbrev pub later_face : Stage → ReaderFace → ReaderFace
later_face stage f = record { stage = stage; method = f.method; options = f.options; keyid = f.keyid; number = f.number; width = mac_bits f.options }

-- ---- "At the reader": what the face of a sound state is

-- "the width being 0 before step 1 sent or open"
abbrev pub width_at : Stage → ℕ → ℕ
width_at Idle options = 0
width_at Step0Sent options = 0
width_at Step1Sent options = mac_bits options
width_at Open options = mac_bits options
width_at Closed options = 0

-- not "step 1 sent under TA"; not "idle or closed with anything but zeros"
abbrev pub stage_fits : Stage → ReaderFace → Bool
stage_fits Idle f = eqb f.method 0 && eqb f.options 0 && eqb f.keyid 0 && eqb f.number 0
stage_fits Step0Sent f = true
stage_fits Step1Sent f = not (eqb f.method 0)
stage_fits Open f = true
stage_fits Closed f = eqb f.method 0 && eqb f.options 0 && eqb f.keyid 0 && eqb f.number 0

-- not "options are 4 or more; width ..; method above 2; number at or above 2^48"
abbrev pub reader_face_fits : ReaderFace → Bool
reader_face_fits f =
    ltb f.options 4 && eqb f.width (width_at f.stage f.options) && ltb f.method 3 && ltb f.number (2 ^ 48) && stage_fits f.stage f

-- "idle or closed"
abbrev pub bare_stage : Stage → Bool
bare_stage Idle = true
bare_stage Step0Sent = false
bare_stage Step1Sent = false
bare_stage Open = false
bare_stage Closed = true

-- ---- begin

-- "only when idle, else 9"
abbrev pub is_idle : Stage → Bool
is_idle Idle = true
is_idle Step0Sent = false
is_idle Step1Sent = false
is_idle Open = false
is_idle Closed = false

-- "number at or above 2^48"; "A method of 3 or more, or options of 4 or more, is 4"
abbrev pub begin_checks : Bool → ReaderFace → Begin → ℕ → Checks
begin_checks sound f i room = record {
  state = not sound;
  buffer = ltb room 265;
  argument = leb (2 ^ 48) i.number;
  book = not (Book.sound_of i.book);
  error = false;
  work = not (is_idle f.stage);
  kind = false;
  length = false;
  step = false;
  key = not (Book.known_of i.keyid i.book);
  support = leb 3 i.method || leb 4 i.options;
  status = false;
}

-- "with the key as b and s zero": the key's 128 bits are two words
abbrev pub key_session : List ℕ → Session
key_session key =
    let l = bits_of_bytes key in
    record { engine = record { b = record { first = field_of 0 64 l; last = field_of 64 64 l }; s = record { first = 0; last = 0 } }; acc = 0; reg = 0 }

-- "gives the step 0 command": "Options are 0000 for IA and MA"
abbrev pub begin_leads : Begin → Leads ReaderFace
begin_leads i = record {
  compares = false;
  done = begun_face i;
  says = step_zero i.method (cond (eqb i.method 0) i.options 0) i.keyid i.number;
  secret = 0;
  zeros = 0;
  mac = 0;
  failed = bare_face Closed;
  mismatch = [];
}

-- ---- the authentication response

-- "step 0 sent, step 1 sent": the stages that wait for one
abbrev pub waits : Stage → Bool
waits Idle = false
waits Step0Sent = true
waits Step1Sent = true
waits Open = false
waits Closed = false

-- "TA 120 bits"; "IA and MA step 0, 56 bits"; "IA step 1, one bit"; "In MA a one-bit answer with status 0, or a 65-bit one with
-- status 1, is 6"
abbrev pub reply_right : Stage → ℕ → ℕ → ℕ → Bool
reply_right Idle method count status = false
reply_right Step0Sent method count status = eqb count (cond (eqb method 0) 120 56)
reply_right Step1Sent method count status = cond (eqb method 1) (eqb count 1) ((eqb count 1 && eqb status 1) || (eqb count 65 && eqb status 0))
reply_right Open method count status = false
reply_right Closed method count status = false

-- "Received features must support the chosen options, else 4"; Req 01: "The reader is to hold them against the method too"
abbrev pub features_right : Stage → ℕ → ℕ → ℕ → Bool
features_right Idle features method options = true
features_right Step0Sent features method options = offers features method && supports features options
features_right Step1Sent features method options = true
features_right Open features method options = true
features_right Closed features method options = true

-- "Status 1 or unequal bits are 10"
abbrev pub status_right : Stage → ℕ → Bool
status_right Idle status = true
status_right Step0Sent status = true
status_right Step1Sent status = not (eqb status 1)
status_right Open status = true
status_right Closed status = true

-- every refusal of a response but that of unequal bits
abbrev pub reply_checks : Bool → ReaderFace → List ℕ → ℕ → ℕ → Checks
reply_checks sound f payload count room =
    let l = bits_of_bytes payload in
    record {
      state = not sound;
      buffer = ltb room 265;
      argument = ltb (8 * length payload) count;
      book = false;
      error = false;
      work = not (waits f.stage);
      kind = false;
      length = not (reply_right f.stage f.method count (status_in l));
      step = false;
      key = false;
      support = not (features_right f.stage (features_in l) f.method f.options);
      status = not (status_right f.stage (status_in l));
    }

-- "TA and MA compare the tag's 64 bits", and are then open; "the last authentication response .. has a reply of no bits"
abbrev pub open_leads : Bool → ReaderFace → Leads ReaderFace
open_leads compares f = record { compares = compares; done = later_face Open f; says = []; secret = 0; zeros = 0; mac = 0; failed = bare_face Closed; mismatch = [] }

-- "in IA and MA the step 1 command is then the reply": "method, step 01, options, KeyID, IKeystream 64"
abbrev pub step_one_leads : ReaderFace → Leads ReaderFace
step_one_leads f = record {
  compares = false;
  done = later_face Step1Sent f;
  says = bits_of 2 f.method ++ (bits_of 2 1 ++ (bits_of 4 f.options ++ bits_of 8 f.keyid));
  secret = 64;
  zeros = 0;
  mac = 0;
  failed = bare_face Closed;
  mismatch = [];
}

-- by the stage; where none is waited for, no response gets so far
abbrev pub reply_leads : Stage → ReaderFace → Leads ReaderFace
reply_leads Idle f = open_leads false f
reply_leads Step0Sent f = cond (eqb f.method 0) (open_leads true f) (step_one_leads f)
reply_leads Step1Sent f = open_leads (not (eqb f.method 1)) f
reply_leads Open f = open_leads false f
reply_leads Closed f = open_leads false f

-- ---- messages

-- "Afterwards": open
abbrev pub is_open : Stage → Bool
is_open Idle = false
is_open Step0Sent = false
is_open Step1Sent = false
is_open Open = true
is_open Closed = false

-- "it sends in IA and MA, receives in TA and MA": not in the method `silent`; "secure in MA only and if enabled; other calls are 9"
abbrev pub may_talk : ReaderFace → ℕ → ℕ → Bool
may_talk f silent kind = is_open f.stage && not (eqb f.method silent) && (not (eqb kind 2) || (eqb f.method 2 && securing f.options))

-- "reader's messages, sent or received: not 1 or 2"; TA (0) does not send
abbrev pub send_checks : Bool → ReaderFace → Message → ℕ → Checks
send_checks sound f m room = record {
  state = not sound;
  buffer = ltb room 265;
  argument = send_argument 1 2 m;
  book = false;
  error = false;
  work = not (may_talk f 0 m.kind);
  kind = false;
  length = false;
  step = false;
  key = false;
  support = false;
  status = false;
}

-- IA (1) does not receive; "data to send" alone has a limit of 11: a received message that is too long is 6
abbrev pub receive_checks : Bool → ReaderFace → Message → ℕ → Checks
receive_checks sound f m room = record {
  state = not sound;
  buffer = ltb room 265;
  argument = ltb (8 * length m.payload) m.count || not (eqb m.kind 1 || eqb m.kind 2);
  book = false;
  error = false;
  work = not (may_talk f 1 m.kind);
  kind = false;
  length = not (message_right f.width m);
  step = false;
  key = false;
  support = false;
  status = false;
}
