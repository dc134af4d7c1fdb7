-- Document 01, "Replies and refusals", of any machine: the one order of the checks, and what a call then gives. Assumes nothing.
use Rattle.std.specs.Prelude.{Bool, true, false, not, cond, ◌&&◌, ◌||◌, List, [], ◌++◌, ◌≡◌, ℕ, ◌+◌, ◌-◌, ◌*◌, ◌^◌, ◌≤◌, eqb, ltb, leb, length, take, replicate}
use Rattle.bits.specs.Area.{area_of, shown}
use Rattle.bits.specs.Bytes.{bits_of_bytes, field_of}
use Rattle.grain.specs.declared.Engine.{Engine}
use Rattle.grain.specs.declared.Session.{Session}
use Rattle.rules.specs.Calls.{Message}
use Rattle.promises.specs.Machines.{Given}

-- ---- what document 01 says of a call, on its public parts

-- "Order: 8, 2, 11, 1, 7, 9, kind (3), length and zero bits (6), method and step (3), KeyID (5), method and options support (4),
-- comparison (10)": each is true where it refuses. `status` is IA's and MA's status 1, which is a 10 without a comparison
pub record Checks : Type 0 where
  pub state : Bool
  pub buffer : Bool
  pub argument : Bool
  pub book : Bool
  pub error : Bool
  pub work : Bool
  pub kind : Bool
  pub length : Bool
  pub step : Bool
  pub key : Bool
  pub support : Bool
  pub status : Bool

-- the number of the first check that refuses, or 0
unfoldable pub first_of : Checks → ℕ
first_of c =
    cond c.state 8
    (cond c.buffer 2
    (cond c.argument 11
    (cond c.book 1
    (cond c.error 7
    (cond c.work 9
    (cond c.kind 3
    (cond c.length 6
    (cond c.step 3
    (cond c.key 5
    (cond c.support 4
    (cond c.status 10
    0)))))))))))

-- the numbers that the table marks "closed": 3, 4, 5, 6 and 10; the others are "kept"
abbrev pub closes : ℕ → Bool
closes n = eqb n 3 || eqb n 4 || eqb n 5 || eqb n 6 || eqb n 10

-- where no check refuses: whether something is compared; the face that a done call leads to, and its reply: bits that are public, so
-- many secret bits, so many zeros, and a MAC of so many; the face that a failed comparison leads to, and its reply, which are not looked
-- at where nothing is compared
pub record Leads (F : Type 0) : Type 0 where
  pub compares : Bool
  pub done : F
  pub says : List Bool
  pub secret : ℕ
  pub zeros : ℕ
  pub mac : ℕ
  pub failed : F
  pub mismatch : List Bool

-- ---- messages, at either machine

-- a message that came: "0 to 2,048 data bits, eight zero bits, MAC of w bits", and the eight bits are zero
abbrev pub message_right : ℕ → Message → Bool
message_right w m =
    leb (8 + w) m.count && leb m.count (2048 + 8 + w) && eqb (field_of (m.count - (8 + w)) 8 (bits_of_bytes m.payload)) 0

-- a message that came: "A received message that is accepted, at either end, has its plain data bits as reply"
abbrev pub received_leads : {F : Type 0} → F → F → ℕ → Message → Leads F
received_leads f closed width m = record {
  compares = true;
  done = f;
  says = cond (eqb m.kind 2) [] (take (m.count - (8 + width)) (bits_of_bytes m.payload));
  secret = cond (eqb m.kind 2) (m.count - (8 + width)) 0;
  zeros = 0;
  mac = 0;
  failed = closed;
  mismatch = [];
}

-- the checks of data that is to be sent: "data to send over 2,048 bits"; of the kinds `plain` and `secure` alone
abbrev pub send_argument : ℕ → ℕ → Message → Bool
send_argument plain secure m =
    ltb (8 * length m.payload) m.count || not (eqb m.kind plain || eqb m.kind secure) || ltb 2048 m.count

-- a message that is sent: its data as it is or encrypted, "eight zero bits, MAC of w bits"; nothing is compared
abbrev pub sent_leads : {F : Type 0} → F → F → ℕ → ℕ → Message → Leads F
sent_leads f closed width secure m = record {
  compares = false;
  done = f;
  says = cond (eqb m.kind secure) [] (take m.count (bits_of_bytes m.payload));
  secret = cond (eqb m.kind secure) m.count 0;
  zeros = 8;
  mac = width;
  failed = closed;
  mismatch = [];
}

-- ---- 8, "a stored state against the rules": the session's part

-- "everything false and zero", "zeroes registers, accumulator, register"
abbrev pub no_session : Session
no_session = record { engine = record { b = record { first = 0; last = 0 }; s = record { first = 0; last = 0 } }; acc = 0; reg = 0 }

-- b and s are zero
abbrev pub no_engine : Engine → Bool
no_engine e = eqb e.b.first 0 && eqb e.b.last 0 && eqb e.s.first 0 && eqb e.s.last 0

-- not "accumulator or register is 2^w or more", nor, where `bare` says that the state holds nothing, "anything but zeros"
abbrev pub session_right : Bool → ℕ → Session → Bool
session_right bare w x = ltb x.acc (2 ^ w) && ltb x.reg (2 ^ w) && (not bare || no_engine x.engine)

-- ---- what a call gives

-- "Replies to refusals have no bits"; the state is kept, or closed, as the table says
pub record Refused {S : Type 0} (number : ℕ) (s closed : S) (g : Given S) (reply : List Bool) : Type 0 where
  pub answer : g.answer ≡ number
  pub next : g.next ≡ cond (closes number) closed s
  pub none : reply ≡ []

module _ {S F : Type 0} (face : S → F) (is_sound : S → Bool) (p : Leads F) (g : Given S) (reply : List Bool) where
  -- "0: done, next"
  pub record Done : Type 0 where
    pub answer : g.answer ≡ 0
    pub next : face g.next ≡ p.done
    pub sound : is_sound g.next ≡ true
    pub secret : List Bool
    pub secret_bits : length secret ≡ p.secret
    pub mac : List Bool
    pub mac_bits : length mac ≡ p.mac
    pub said : reply ≡ p.says ++ (secret ++ (replicate p.zeros false ++ mac))

  -- "10: comparison failed, closed": a comparison fails where something is compared and nowhere else
  pub record Failed : Type 0 where
    pub compared : p.compares ≡ true
    pub answer : g.answer ≡ 10
    pub next : face g.next ≡ p.failed
    pub sound : is_sound g.next ≡ true
    pub said : reply ≡ p.mismatch

  -- one of the two
  pub data Worked : Type 0 where
    done : Done → Worked
    failed : Failed → Worked

-- what a call gives, from a state s that the table's "closed" makes `closed`, with the buffer as it was found
pub record Answered {S F : Type 0} (face : S → F) (is_sound : S → Bool) (checks : Checks) (p : Leads F) (s closed : S) (before : List ℕ) (g : Given S) : Type 0 where
  pub reply : List Bool
  pub count : g.bits ≡ length reply
  -- the area has room for the whole reply
  pub fits : g.bits ≤ 8 * area_of before
  -- "Every call writes all of it: the reply's bits, then zeros. Bytes beyond stay as found"
  pub area : g.buffer ≡ shown reply before
  pub refused : (first_of checks ≡ 0 → ⊥) → Refused (first_of checks) s closed g reply
  pub worked : first_of checks ≡ 0 → Worked face is_sound p g reply

-- "Reset is never refused: it answers 0 with no bits, whatever the buffer's length"
pub record Fresh {S : Type 0} (before : List ℕ) (g : Given S) : Type 0 where
  pub answer : g.answer ≡ 0
  pub bits : g.bits ≡ 0
  pub area : g.buffer ≡ shown [] before

-- nothing of an earlier board: but for the bytes beyond the area, what a call gives depends on the buffer by its length alone
pub record Settled {S : Type 0} (g h : Given S) : Type 0 where
  pub next : g.next ≡ h.next
  pub answer : g.answer ≡ h.answer
  pub bits : g.bits ≡ h.bits
  pub area : take 265 g.buffer ≡ take 265 h.buffer
