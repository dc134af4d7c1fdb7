-- A payload of so many bits, in bytes (document 01, "Host frames"), for any limit. Assumes nothing.
use Rattle.std.specs.Prelude.{ℕ, ◌+◌, ◌/◌, cond, List, Result, Ok, Err, eqb, ltb, length, take, drop}
use Rattle.bits.specs.Bits.{num_of}
use Rattle.bits.specs.Bytes.{bits_of_bytes}
use Rattle.counts.specs.declared.Refusal.{Refusal}
use Rattle.counts.specs.declared.Refusal.TheVariants.{Short, Count, Unused}

-- the bytes that hold so many bits
abbrev pub size_of : ℕ → ℕ
size_of count = (count + 7) / 8

-- the unused bits, behind the count in a payload's bytes, as a number
unfoldable pub unused_of : ℕ → List ℕ → ℕ
unused_of count payload = num_of (drop count (bits_of_bytes (take (size_of count) payload)))

-- what reading and writing refuse alike: 21 count over its limit; 20 the slice ends too soon, or the payload is shorter than its
-- count; 22 unused bits not zero
unfoldable pub check_of : ℕ → ℕ → List ℕ → Result (Unit {0}) Refusal
check_of limit count payload =
    cond (ltb limit count) (Err Count)
    (cond (ltb (length payload) (size_of count)) (Err Short)
    (cond (eqb (unused_of count payload) 0) (Ok tt) (Err Unused)))
