-- Document 01, "Host frames", lines of `tagrun`: numbers and bytes as ASCII text, and what writing a text leaves. Assumes nothing.
use Rattle.std.specs.Prelude.{cond, List, [], ◌∷◌, ◌++◌, ◌≡◌, ℕ, ◌+◌, ◌-◌, ◌/◌, ◌%◌, min, ltb, eqb, length, take, map}
use Rattle.std.specs.List.{flat_map}
use Rattle.std.specs.Int.Digits.{digits_of}
use Rattle.std.proofs.lemmas.List.Edits.{sets}
use Rattle.text.specs.declared.Line.{Line}

-- a digit below 16: `0` to `9`, then `A` to `F`
abbrev pub digit : ℕ → ℕ
digit d = cond (ltb d 10) (48 + d) (55 + d)

-- a number in decimal, with no zero in front: 0 itself has its one digit
unfoldable pub decimal_of : ℕ → List ℕ
decimal_of n = cond (eqb n 0) (digit 0 ∷ []) (map digit (digits_of 10 n))

-- a byte in two hexadecimal digits
abbrev pub hex_byte : ℕ → List ℕ
hex_byte b = digit (b / 16) ∷ digit (b % 16) ∷ []

-- bytes, one after the other
unfoldable pub hex_of : List ℕ → List ℕ
hex_of bs = flat_map hex_byte bs

-- a number, and the space behind it
unfoldable pub spaced_of : ℕ → List ℕ
spaced_of n = decimal_of n ++ (32 ∷ [])

-- a reply's bits, in hexadecimal in whole bytes: `-` where it has none
unfoldable pub reply_of : ℕ → List ℕ → List ℕ
reply_of count bytes = cond (eqb count 0) (45 ∷ []) (hex_of (take ((count + 7) / 8) bytes))

-- a text written from a place of a buffer on, and the place behind it: what has no room is dropped
pub record Writes (text before : List ℕ) (at : ℕ) (after : List ℕ) (next : ℕ) : Type 0 where
  pub bytes : after ≡ sets before at text
  pub place : next ≡ at + min (length text) (length before - at)

-- the same of a line, behind what is written of it
abbrev pub Appends : {n : ℕ} → List ℕ → Line n → Line n → Type 0
Appends text before after = Writes text before.bytes before.at after.bytes after.at
