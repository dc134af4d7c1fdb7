-- Document 01, "Tag machine", line by line: for each call of the tag which check refuses, and where a call leads. It is said of what
-- the tag shows, and apart from the tables of `faces` and `rules` that the code is proved by; the payload rules and the book are
-- shared. Assumes nothing.
use Rattle.std.specs.Prelude.{Bool, true, false, not, cond, ◌&&◌, ◌||◌, List, [], ◌∷◌, ◌++◌, ℕ, ◌*◌, ◌^◌, ltb, leb, eqb, length}
use Rattle.std.specs.Bool.{beq}
use Rattle.bits.specs.Bits.{bits_of}
use Rattle.bits.specs.Bytes.{bits_of_bytes}
use Rattle.book.specs.Book as Book
use Rattle.faces.specs.declared.Face.{Face}
use Rattle.faces.specs.declared.Name.{Name}
use Rattle.faces.specs.declared.Name.TheVariants.{CsReset, Ta1, Ia1, Ia2, Ma1, Ma2}
use Rattle.payloads.specs.Payloads.{method_in, step_in, options_in, key_id_in, mac_bits, securing, supports, supports_start}
use Rattle.rules.specs.Calls.{Command, Message}
use Rattle.promises.specs.Order.{Checks, Leads, message_right, send_argument, received_leads}

-- ---- the faces

-- "Reset gives CS-Reset with everything false and zero"
abbrev pub cs_reset : Face
cs_reset = record { name = CsReset; init = false; ta = false; ia = false; error = false; keyid = 0; options = 0; width = 0 }

-- "Closing sets ERROR, keeps state name and other flags, and zeroes .. width, KeyID and options"
abbrev pub closing : Face → Face
closing f = record { name = f.name; init = f.init; ta = f.ta; ia = f.ia; error = true; keyid = 0; options = 0; width = 0 }

-- IA.1 or MA.1, "INIT": "KeyID is stored from step 0"
abbrev pub waiting : Name → ℕ → Face
waiting name keyid = record { name = name; init = true; ta = false; ia = false; error = false; keyid = keyid; options = 0; width = 0 }

-- TA.1, IA.2 or MA.2: "options with the width"
abbrev pub opening : Name → Bool → Bool → ℕ → ℕ → Face
opening name ta ia keyid options = record { name = name; init = true; ta = ta; ia = ia; error = false; keyid = keyid; options = options; width = mac_bits options }

-- "A failed comparison in step 1 leads to IA.2 or MA.2, TA and IA false"
abbrev pub failing : Name → Face
failing name = record { name = name; init = true; ta = false; ia = false; error = true; keyid = 0; options = 0; width = 0 }

-- ---- "8 is given exactly when": what the face of a sound state is

-- a row's flags; "IA.2 and MA.2, when closed, may also have TA and IA both false"
abbrev pub flags : Bool → Bool → Bool → Bool → Face → Bool
flags init ta ia also f =
    beq f.init init && ((beq f.ta ta && beq f.ia ia) || (also && f.error && not f.ta && not f.ia))

-- "Open flags": none; INIT, TA; INIT; INIT, IA; INIT; INIT, TA, IA
abbrev pub flags_fit : Name → Face → Bool
flags_fit CsReset f = flags false false false false f
flags_fit Ta1 f = flags true true false false f
flags_fit Ia1 f = flags true false false false f
flags_fit Ia2 f = flags true false true true f
flags_fit Ma1 f = flags true false false false f
flags_fit Ma2 f = flags true true true true f

-- TA.1, IA.2 and MA.2: the states whose accumulator and register are filled
abbrev pub opened : Name → Bool
opened CsReset = false
opened Ta1 = true
opened Ia1 = false
opened Ia2 = true
opened Ma1 = false
opened Ma2 = true

-- not "the width isn't 0 in CS-Reset, IA.1, MA.1 and closed, or elsewhere 32 or 64 as options bit 0 says"
abbrev pub width_fits : Name → Face → Bool
width_fits name f = eqb f.width (cond (opened name && not f.error) (mac_bits f.options) 0)

-- not "options are 4 or more, or not 0 in IA.1 or MA.1"
abbrev pub options_fit : Name → Face → Bool
options_fit name f = ltb f.options 4 && (opened name || eqb f.options 0)

-- "CS-Reset or closed": nothing is held "beside name and flags"
abbrev pub holds_nothing : Name → Face → Bool
holds_nothing CsReset f = true
holds_nothing Ta1 f = f.error
holds_nothing Ia1 f = f.error
holds_nothing Ia2 f = f.error
holds_nothing Ma1 f = f.error
holds_nothing Ma2 f = f.error

-- every rule that the face can show
abbrev pub face_fits : Face → Bool
face_fits f =
    flags_fit f.name f && width_fits f.name f && options_fit f.name f && (not (holds_nothing f.name f) || (eqb f.keyid 0 && eqb f.options 0))

-- ---- "The error type is by Annex B's table, not its text, from state and flags: 0 when ERROR is false"

-- an error in CS-Reset is type 1; a failed comparison in step 1, which leaves TA and IA false in IA.2 or MA.2, type 2; every other 3
abbrev pub error_type : Name → Face → ℕ
error_type CsReset f = cond f.error 1 0
error_type Ta1 f = cond f.error 3 0
error_type Ia1 f = cond f.error 3 0
error_type Ia2 f = cond f.error (cond (f.ta || f.ia) 3 2) 0
error_type Ma1 f = cond f.error 3 0
error_type Ma2 f = cond f.error (cond (f.ta || f.ia) 3 2) 0

-- ---- a command

-- "Commands": the kinds that a state takes: "secure if enabled, else 3; others 3"
abbrev pub takes : Name → ℕ → ℕ → Bool
takes CsReset options kind = eqb kind 0
takes Ta1 options kind = false
takes Ia1 options kind = eqb kind 0
takes Ia2 options kind = eqb kind 1
takes Ma1 options kind = eqb kind 0
takes Ma2 options kind = eqb kind 1 || (eqb kind 2 && securing options)

-- "comm 9"
abbrev pub no_work : Name → ℕ → Bool
no_work CsReset kind = false
no_work Ta1 kind = eqb kind 1
no_work Ia1 kind = false
no_work Ia2 kind = false
no_work Ma1 kind = false
no_work Ma2 kind = false

-- "Step 0 command, 64 bits"; "Step 1 command, 80 bits"
abbrev pub command_bits : Name → ℕ
command_bits CsReset = 64
command_bits Ta1 = 0
command_bits Ia1 = 80
command_bits Ia2 = 0
command_bits Ma1 = 80
command_bits Ma2 = 0

-- "auth step 0" of the methods 0, 1 and 2, as "Method 11 is 3 at the tag"; "auth step 1" of the state's own method
abbrev pub step_right : Name → List Bool → Bool
step_right CsReset l = eqb (step_in l) 0 && not (eqb (method_in l) 3)
step_right Ta1 l = false
step_right Ia1 l = eqb (step_in l) 1 && eqb (method_in l) 1
step_right Ia2 l = false
step_right Ma1 l = eqb (step_in l) 1 && eqb (method_in l) 2
step_right Ma2 l = false

-- "KeyID not in the book (step 0, begin), or not step 0's (step 1)"
abbrev pub key_right : Name → ℕ → List Bool → List ℕ → Bool
key_right CsReset keyid l book = Book.known_of (key_id_in l) book
key_right Ta1 keyid l book = false
key_right Ia1 keyid l book = eqb (key_id_in l) keyid
key_right Ia2 keyid l book = false
key_right Ma1 keyid l book = eqb (key_id_in l) keyid
key_right Ma2 keyid l book = false

-- "This is held at step 0 in TA, at step 1 in IA and MA, whose step 0 asks only for 0000; the method's own bit is held at step 0 only"
abbrev pub support_right : Name → ℕ → List Bool → Bool
support_right CsReset features l = supports_start features (method_in l) (options_in l)
support_right Ta1 features l = false
support_right Ia1 features l = supports features (options_in l)
support_right Ia2 features l = false
support_right Ma1 features l = supports features (options_in l)
support_right Ma2 features l = false

-- a command's part of a message
abbrev pub message_in : Command → Message
message_in c = record { kind = c.kind; payload = c.payload; count = c.count }

-- the twelve checks of a command to a state of the face f
abbrev pub command_checks : Bool → Face → Command → ℕ → Checks
command_checks sound f c room =
    let l = bits_of_bytes c.payload in
    let auth = eqb c.kind 0 in
    record {
      state = not sound;
      -- "buffer under 265 bytes"
      buffer = ltb room 265;
      -- "bit count beyond the lent slice, number at or above 2^48, kind above 3"
      argument = ltb (8 * length c.payload) c.count || leb (2 ^ 48) c.number || ltb 3 c.kind;
      -- "book not whole 17-byte records, over 16, or KeyIDs not rising"
      book = not (Book.sound_of c.book);
      -- "ERROR already set (tag)"
      error = f.error;
      work = no_work f.name c.kind;
      kind = not (takes f.name f.options c.kind);
      -- "length wrong, or the eight bits not zero"
      length = not (cond auth (eqb c.count (command_bits f.name)) (message_right f.width (message_in c)));
      step = auth && not (step_right f.name l);
      key = auth && not (key_right f.name f.keyid l c.book);
      support = auth && not (support_right f.name c.features l);
      status = false;
    }

-- step 0: to TA.1, IA.1 or MA.1, with "features 8, tag's number 48", and in TA 64 keystream bits; nothing is compared
abbrev pub step_zero_leads : Face → Command → Leads Face
step_zero_leads f c =
    let l = bits_of_bytes c.payload in
    record {
      compares = false;
      done =
          cond (eqb (method_in l) 0) (opening Ta1 true false (key_id_in l) (options_in l)) (waiting (cond (eqb (method_in l) 1) Ia1 Ma1) (key_id_in l));
      says = bits_of 8 c.features ++ bits_of 48 c.number;
      secret = cond (eqb (method_in l) 0) 64 0;
      zeros = 0;
      mac = 0;
      failed = closing f;
      mismatch = [];
    }

-- step 1: to IA.2, with the bit 0, or where `both` says so to MA.2, with the bit 0 and 64 keystream bits; "or the single bit 1 on
-- failure"
abbrev pub step_one_leads : Bool → Face → Command → Leads Face
step_one_leads both f c =
    let options = options_in (bits_of_bytes c.payload) in
    record {
      compares = true;
      done = cond both (opening Ma2 true true f.keyid options) (opening Ia2 false true f.keyid options);
      says = false ∷ [];
      secret = cond both 64 0;
      zeros = 0;
      mac = 0;
      failed = failing (cond both Ma2 Ia2);
      mismatch = true ∷ [];
    }

-- by the state's name; in TA.1 no command gets so far
abbrev pub command_leads : Name → Face → Command → Leads Face
command_leads CsReset f c = step_zero_leads f c
command_leads Ta1 f c = received_leads f (closing f) f.width (message_in c)
command_leads Ia1 f c = step_one_leads false f c
command_leads Ia2 f c = received_leads f (closing f) f.width (message_in c)
command_leads Ma1 f c = step_one_leads true f c
command_leads Ma2 f c = received_leads f (closing f) f.width (message_in c)

-- ---- a response that is wanted

-- "Responses wanted": in TA.1 and MA.2, and else 9
abbrev pub responds : Name → Bool
responds CsReset = false
responds Ta1 = true
responds Ia1 = false
responds Ia2 = false
responds Ma1 = false
responds Ma2 = true

-- "comm; secure 3"; "comm; secure if enabled, else 3"
abbrev pub secures : Name → ℕ → Bool
secures CsReset options = false
secures Ta1 options = false
secures Ia1 options = false
secures Ia2 options = false
secures Ma1 options = false
secures Ma2 options = securing options

-- "response calls: not 4 or 5"
abbrev pub response_checks : Bool → Face → Message → ℕ → Checks
response_checks sound f m room = record {
  state = not sound;
  buffer = ltb room 265;
  argument = send_argument 4 5 m;
  book = false;
  error = f.error;
  work = not (responds f.name);
  kind = eqb m.kind 5 && not (secures f.name f.options);
  length = false;
  step = false;
  key = false;
  support = false;
  status = false;
}
