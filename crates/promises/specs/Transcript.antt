-- What document 01 has said on the honest way, on lists of bits: the cipher's session, and the bits of each payload. Assumes nothing.
use Rattle.std.specs.Prelude.{Bool, cond, List, ℕ, eqb, take}
use Rattle.bits.specs.Bits.{num_of}
use Rattle.bits.specs.Bytes.{bits_of_bytes}
use Rattle.book.specs.Book as Book
use Rattle.grain.specs.declared.Method.{Method}
use Rattle.grain.specs.declared.Method.TheVariants.{Ta, Ia, Ma}
use Rattle.grain.specs.Generator.{State}
use Rattle.grain.specs.Start.{loaded, started}
use Rattle.grain.specs.Mac.{Mac, keystream, pairs, filled, authenticated, encrypted}
use Rattle.payloads.specs.Payloads.{step_zero, step_one, tag_proof, tag_challenge, status, mutual_proof, message, mac_bits}
use Rattle.promises.specs.Settings.{Setting, Talk}

-- methods 0, 1 and 2 are TA, IA and MA
abbrev pub method_by : ℕ → Method
method_by m = cond (eqb m 0) Ta (cond (eqb m 1) Ia Ma)

module _ (s : Setting) where
  -- ---- the cipher

  -- "b = key": the one key
  abbrev pub key_bits : List Bool
  key_bits = bits_of_bytes (Book.key_of s.keyid s.reader_book)

  -- "Start (clause 9)"; "Then 256 clocks with y added into both new bits"
  unfoldable pub begun : State
  begun = started (loaded (method_by s.method) key_bits s.reader_number s.tag_number)

  -- "After that w is 32 or 64"
  abbrev pub width : ℕ
  width = mac_bits s.options

  -- "The next w outputs are the accumulator, the next w the shift register"
  unfoldable pub begun_mac : Mac
  begun_mac = filled width begun

  -- "first 64 keystream bits": of the step 1 command, and of TA's response
  unfoldable pub first_word : ℕ
  first_word = num_of (keystream 64 begun_mac.st)

  -- "keystream bits 64..127": of MA's response
  unfoldable pub second_word : ℕ
  second_word = num_of (keystream 64 (pairs 64 begun_mac.st))

  -- "During authentication the MAC bits are thrown away and the register doesn't move": the first 64 pairs are used
  abbrev pub proved_mac : Mac
  proved_mac = record { st = pairs 64 begun_mac.st; acc = begun_mac.acc; reg = begun_mac.reg }

  -- the session when the pair is open: 64 pairs are used, and in MA 128
  unfoldable pub open_mac : Mac
  open_mac = record {
    st = cond (eqb s.method 2) (pairs 64 (pairs 64 begun_mac.st)) (pairs 64 begun_mac.st);
    acc = begun_mac.acc;
    reg = begun_mac.reg;
  }

  -- ---- the authentication

  -- "Options are 0000 for IA and MA"
  abbrev pub step_zero_bits : List Bool
  step_zero_bits = step_zero s.method (cond (eqb s.method 0) s.options 0) s.keyid s.reader_number

  -- "TA 120 bits (features 8, tag's number 48, 64 keystream bits)"
  abbrev pub tag_proof_bits : ℕ → List Bool
  tag_proof_bits word = tag_proof s.features s.tag_number word

  -- "IA and MA step 0, 56 bits"
  abbrev pub challenge_bits : List Bool
  challenge_bits = tag_challenge s.features s.tag_number

  -- "method, step 01, options, KeyID, IKeystream 64"
  abbrev pub step_one_bits : ℕ → List Bool
  step_one_bits word = step_one s.method s.options s.keyid word

  -- "IA step 1, one bit; MA step 1, bit 0 and keystream bits 64..127"
  abbrev pub last_bits : List Bool
  last_bits = cond (eqb s.method 2) (mutual_proof second_word) (status 0)

  -- ---- a message, from the session x

  -- its data
  abbrev pub data_in : Talk → List Bool
  data_in m = take m.count (bits_of_bytes m.payload)

  -- "Secure messages add the keystream bit to each data bit"
  abbrev pub body_in : Talk → Mac → List Bool
  body_in m x = cond m.secure (encrypted (data_in m) x) (data_in m)

  -- "the MAC is over the encrypted bits"; "The MAC is the accumulator"
  abbrev pub mac_in : List Bool → Mac → ℕ
  mac_in body x = num_of (authenticated body x).acc

  -- "0 to 2,048 data bits, eight zero bits, MAC of w bits"
  abbrev pub message_bits : Talk → Mac → List Bool
  message_bits m x = message (body_in m x) width (mac_in (body_in m x) x)

  -- "It is not started again: the next message goes on from it"
  abbrev pub next_mac : Talk → Mac → Mac
  next_mac m x = authenticated (body_in m x) x
