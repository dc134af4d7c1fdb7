-- Document 01, "How firm each promise stands", (d), as one table: what is computed, and the number, of so many bits, that it must
-- be. Assumes nothing.
use Rattle.std.specs.Prelude.{Bool, List, [], ◌∷◌, map, ◌≡◌, ℕ, zero, suc}
use Rattle.bits.specs.Bits.{bits_of}
use Rattle.bits.specs.Bytes.{bits_of_bytes}
use Rattle.grain.specs.declared.Method.TheVariants.{Ma}
use Rattle.grain.specs.Start.{loaded}
use Rattle.grain.specs.Generator.{State}
use Rattle.grain.specs.Mac.{Mac, mac_bit, paired, authenticated, encrypted, keystream}
use Rattle.counts.specs.Count.{count_bytes}
use Rattle.payloads.specs.Payloads.{step_zero, step_one, tag_challenge, mutual_proof, message}

-- the bits are counted, as a number alone drops zeros in front
pub record Row : Type 0 where
  pub computed : List Bool
  pub bits : ℕ
  pub number : ℕ

-- sets 3 and 5 before their command, lines 17 to 20: b, s, shift register, accumulator
abbrev pub before : Mac
before = record {
  st = record { b = bits_of 128 0x2F0E190C3F28FF2587E726F0CB3FA13B; s = bits_of 128 0xA429A0136DE6D4075E4DE180E34E5209 };
  reg = bits_of 32 0x19BD90E3;
  acc = bits_of 32 0x564B3622;
}

-- line 15
abbrev pub command : List Bool
command = bits_of 40 0x12345678AB

-- the MAC bits of n pairs
abbrev pub mac_bits_of : ℕ → State → List Bool
mac_bits_of zero st = []
mac_bits_of (suc n) st = mac_bit st ∷ mac_bits_of n (paired st)

-- "Proved together as one table"
abbrev pub table : List Row
table =
    -- the four frame counts
    record { computed = bits_of_bytes (count_bytes 80); bits = 8; number = 0x50 }
    ∷ record { computed = bits_of_bytes (count_bytes 127); bits = 8; number = 0x7F }
    ∷ record { computed = bits_of_bytes (count_bytes 128); bits = 16; number = 0x8001 }
    ∷ record { computed = bits_of_bytes (count_bytes 2120); bits = 16; number = 0xC810 }
    -- set 6's start of s
    ∷ record { computed = (loaded Ma [] 0x112233445566 0x778899AABBCC).s; bits = 128; number = 0x912233445566778899AABBCCFFFFFFFE }
    -- the listing's three payloads, and its first two replies
    ∷ record { computed = step_zero 2 0 0x05 0x112233445566; bits = 64; number = 0x8005112233445566 }
    ∷ record { computed = step_one 2 2 0x05 0x3E775C194D6D4FD8; bits = 80; number = 0x92053E775C194D6D4FD8 }
    ∷ record { computed = message (bits_of 40 0x4587E627C4) 32 0xD495799A; bits = 80; number = 0x4587E627C400D495799A }
    ∷ record { computed = tag_challenge 0x1F 0x778899AABBCC; bits = 56; number = 0x1F778899AABBCC }
    ∷ record { computed = mutual_proof 0x894F88320DD89991; bits = 65; number = 0x894F88320DD89991 }
    -- set 3's MAC bits and MAC
    ∷ record { computed = mac_bits_of 41 before.st; bits = 41; number = 0xB1480BD57F }
    ∷ record { computed = (authenticated command before).acc; bits = 32; number = 0xD594AD7D }
    -- set 5's keystream bits and encryption
    ∷ record { computed = keystream 40 before.st; bits = 40; number = 0xA18C3D64D7 }
    ∷ record { computed = encrypted command before; bits = 40; number = 0xB3B86B1C7C }
    ∷ []

-- every row at once
abbrev pub TableHolds : Type 0
TableHolds = map (λ (r : Row). r.computed) table ≡ map (λ (r : Row). bits_of r.bits r.number) table
