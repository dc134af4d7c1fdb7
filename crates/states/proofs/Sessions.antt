-- The laws of sessions: their widths, and how long what they send and receive is. Assumes nothing.
use mathlib.Core.Path.{◌≡◌, refl, ap, ◌∙◌}
use mathlib.Core.Bool.{Bool, true, false, cond, ◌&&◌}
use mathlib.Core.List.{List}
use Prim.Native.Nat.{ℕ, ◌+◌, ◌*◌, ◌≤◌}
use native.Mathlib.Omega.{arith}
use lib.Bits.{bit_or, bit_and, or_add_and, and_le_l, and_le_r}
use lib.Dec.{eqb}
use lib.ListN.{length, take}
use borrow.Author.Tests.{lt-ltb, eqb-true, eqb-false, ne_eqb}
use Rattle.bits.specs.Bytes.{bits_of_bytes}
use Rattle.bits.proofs.Replies.{length_first}
use Rattle.grain.specs.declared.Engine.{Engine}
use Rattle.grain.specs.declared.Session.{Session}
use Rattle.grain.specs.declared.Width.{Width}
use Rattle.grain.specs.declared.Width.TheVariants.{Mac32, Mac64}
use Rattle.grain.specs.Stored.{width_of, mac_of}
use Rattle.grain.proofs.Messages.{length-encrypted, length-decrypted}
use Rattle.grain.proofs.Widths as Widths
use Rattle.payloads.specs.Payloads.{mac64, mac_bits, data_bits}
use Rattle.payloads.proofs.Layouts.{length-message}
use Rattle.states.specs.Sessions.{chosen_width, stored_width, filled_session, after_message, body_of, data_of, sent_bits, words_fit}

-- ---- widths

pub width_chosen : (options : ℕ) → width_of (chosen_width options) ≡ mac_bits options
width_chosen options = at (mac64 options)
  where
    at : (b : Bool) → width_of (cond b Mac64 Mac32) ≡ cond b 64 32
    at true = refl
    at false = refl

-- a stored width of 32 or 64 is the size that it names
pub width-stored : (w : ℕ) (b : Bool) → w ≡ cond b 64 32 → width_of (stored_width w) ≡ w
width-stored w true e = rw e
width-stored w false e = rw e

pub stored_chosen : (options : ℕ) → stored_width (mac_bits options) ≡ chosen_width options
stored_chosen options = at (mac64 options)
  where
    at : (b : Bool) → stored_width (cond b 64 32) ≡ cond b Mac64 Mac32
    at true = refl
    at false = refl

-- ---- accumulator and register keep their bits

fits_are : (w : ℕ) (x : Session) → Widths.Fits w x → words_fit w x ≡ true
fits_are w x h = rw (lt-ltb _ _ h.acc, lt-ltb _ _ h.reg)

pub filled-fits : (v : Width) (e : Engine) → words_fit (width_of v) (filled_session v e) ≡ true
unfolding filled_session
filled-fits v e = fits_are _ _ (Widths.filled-fits v _)

pub message-fits : (v : Width) (ms : List Bool) (x : Session) → words_fit (width_of v) (after_message v ms x) ≡ true
unfolding after_message
message-fits v ms x = fits_are _ _ (Widths.message-fits v ms x)

-- ---- the bits that go out for data, and the data of bits that came in, are as many

pub length-body_of : (v : Width) (secure : Bool) (ms : List Bool) (x : Session) → length (body_of v secure ms x) ≡ length ms
unfolding body_of
length-body_of v true ms x = length-encrypted ms (mac_of (width_of v) x)
length-body_of v false ms x = refl

pub length-data_of : (v : Width) (secure : Bool) (cs : List Bool) (x : Session) → length (data_of v secure cs x) ≡ length cs
unfolding data_of
length-data_of v true cs x = length-decrypted cs (mac_of (width_of v) x)
length-data_of v false cs x = refl

-- the bit counts of a message sent and of one received

pub sent_bits_lem : (v : Width) (secure : Bool) (n : ℕ) (xs : List ℕ) (x : Session) → n ≤ 8 * length xs
    → length (sent_bits v secure (take n (bits_of_bytes xs)) x) ≡ n + 8 + width_of v
unfolding sent_bits
sent_bits_lem v secure n xs x h =
    length-message _ _ _ ∙ ap (λ (k : ℕ). k + 8 + width_of v) (length-body_of v secure (take n (bits_of_bytes xs)) x ∙ length_first n xs h)

pub received_bits : (v : Width) (secure : Bool) (count : ℕ) (xs : List ℕ) (x : Session) → count ≤ 8 * length xs
    → length (data_of v secure (take (data_bits (width_of v) count) (bits_of_bytes xs)) x) ≡ data_bits (width_of v) count
received_bits v secure count xs x h = length-data_of v secure _ x ∙ length_first (data_bits (width_of v) count) xs (omega arith)

-- ---- words that must be zero

-- two words joined are zero exactly where both are
pub both_zero : (a b : ℕ) → eqb (bit_or a b) 0 ≡ (eqb a 0 && eqb b 0)
both_zero a b = at (eqb a 0) (eqb b 0) refl refl
  where
    sum : bit_or a b + bit_and a b ≡ a + b
    sum = or_add_and a b

    at : (x y : Bool) → eqb a 0 ≡ x → eqb b 0 ≡ y → eqb (bit_or a b) 0 ≡ (x && y)
    at true true p q = rw (eqb-true a 0 p, eqb-true b 0 q) refl
    at true false p q = ne_eqb (bit_or a b) 0 (λ (z : bit_or a b ≡ 0). eqb-false b 0 q (omega (arith, sum, z, and_le_l a b)))
    at false y p q = ne_eqb (bit_or a b) 0 (λ (z : bit_or a b ≡ 0). eqb-false a 0 p (omega (arith, sum, z, and_le_r a b)))
