-- Document 01, "Cipher (Annex C)" as both machines use it: how it is started from a key, what sending and receiving a message do to a
-- session, and what a stored session must be. Assumes nothing.
use Rattle.std.specs.Prelude.{Bool, not, cond, ◌&&◌, ◌||◌, List, ℕ, ◌+◌, ◌^◌, ltb, eqb, take}
use Rattle.bits.specs.Bytes.{bits_of_bytes, field_of}
use Rattle.grain.specs.declared.Register.{Register}
use Rattle.grain.specs.declared.Engine.{Engine}
use Rattle.grain.specs.declared.Session.{Session}
use Rattle.grain.specs.declared.Outputs.{Outputs}
use Rattle.grain.specs.declared.Method.{Method}
use Rattle.grain.specs.declared.Method.TheVariants.{Ta, Ia, Ma}
use Rattle.grain.specs.declared.Width.{Width}
use Rattle.grain.specs.declared.Width.TheVariants.{Mac32, Mac64}
use Rattle.grain.specs.Start.{loaded, started}
use Rattle.grain.specs.Mac.{filled, authenticated, encrypted, decrypted}
use Rattle.grain.specs.Stored.{width_of, bits_r, state_of, engine_of, mac_of, session_of, keystream_of}
use Rattle.payloads.specs.Payloads.{message, mac64, data_bits}

-- ---- the cipher's promise, as the machines use it

-- methods 0, 1, 2 of Table 2
abbrev pub method_of : ℕ → Method
method_of m = cond (eqb m 0) Ta (cond (eqb m 1) Ia Ma)

-- "bit 0 chooses MAC64"
abbrev pub chosen_width : ℕ → Width
chosen_width options = cond (mac64 options) Mac64 Mac32

-- "w is 32 or 64": the stored width says which
abbrev pub stored_width : ℕ → Width
stored_width width = cond (eqb width 64) Mac64 Mac32

-- "b = key", which in the book is "a 16-byte key"
abbrev pub key_in : List ℕ → Register
key_in key = record { first = field_of 0 64 (bits_of_bytes key); last = field_of 64 64 (bits_of_bytes key) }

-- "b = key", and the two numbers in s; "Then 256 clocks with y added into both new bits"
unfoldable pub begun_engine : Register → ℕ → ℕ → ℕ → Engine
begun_engine key method reader tag = engine_of (started (state_of (engine_of (loaded (method_of method) (bits_r key) reader tag))))

-- "The next w outputs are the accumulator, the next w the shift register"
unfoldable pub filled_session : Width → Engine → Session
filled_session v e = session_of (filled (width_of v) (state_of e))

-- the next 64 keystream bits, and the engine after their pairs: "the MAC bits are thrown away"
unfoldable pub next_keystream : Engine → Outputs
next_keystream e = keystream_of 64 (state_of e)

-- "the register doesn't move", nor the accumulator
abbrev pub with_engine : Session → Engine → Session
with_engine x e = record { engine = e; acc = x.acc; reg = x.reg }

-- "It is not started again: the next message goes on from it"
unfoldable pub after_message : Width → List Bool → Session → Session
after_message v body x = session_of (authenticated body (mac_of (width_of v) x))

-- the bits that go out for data: "Secure messages add the keystream bit to each data bit"
unfoldable pub body_of : Width → Bool → List Bool → Session → List Bool
body_of v secure ms x = cond secure (encrypted ms (mac_of (width_of v) x)) ms

-- the data of bits that came in: the same keystream bit added again
unfoldable pub data_of : Width → Bool → List Bool → Session → List Bool
data_of v secure cs x = cond secure (decrypted cs (mac_of (width_of v) x)) cs

-- ---- a message is sent

-- "the MAC is over the encrypted bits"
unfoldable pub sent_session : Width → Bool → List Bool → Session → Session
sent_session v secure ms x = after_message v (body_of v secure ms x) x

-- "eight zero bits, MAC of w bits": "The MAC is the accumulator"
unfoldable pub sent_bits : Width → Bool → List Bool → Session → List Bool
sent_bits v secure ms x = message (body_of v secure ms x) (width_of v) (sent_session v secure ms x).acc

-- ---- a message of `count` bits has come

-- its MAC is the one that the receiver computes, in all its w bits
unfoldable pub same_mac : Width → List Bool → ℕ → Session → Bool
same_mac v l count x =
    eqb (after_message v (take (data_bits (width_of v) count) l) x).acc (field_of (data_bits (width_of v) count + 8) (width_of v) l)

-- ---- stored sessions

-- "zeroes registers"
abbrev pub empty_register : Register
empty_register = record { first = 0; last = 0 }

-- before accumulator and register are filled
abbrev pub unfilled : Engine → Session
unfilled e = record { engine = e; acc = 0; reg = 0 }

-- "zeroes registers, accumulator, register"
abbrev pub empty_session : Session
empty_session = unfilled (record { b = empty_register; s = empty_register })

-- b and s, where a state may not hold "anything but zeros"
abbrev pub empty_engine : Engine → Bool
empty_engine e = eqb e.b.first 0 && eqb e.b.last 0 && eqb e.s.first 0 && eqb e.s.last 0

-- "accumulator or register is 2^w or more"
abbrev pub words_fit : ℕ → Session → Bool
words_fit w x = ltb x.acc (2 ^ w) && ltb x.reg (2 ^ w)

-- what a session must be, in a state of the width w: empty where the state may hold nothing
unfoldable pub session_fits : Bool → ℕ → Session → Bool
session_fits bare w x = words_fit w x && (not bare || empty_engine x.engine)
