-- The table of worked examples holds, all rows in one proof: both sides are computed. Assumes nothing.
use mathlib.Core.Path.{refl}
use Rattle.bits.specs.Bits.{digit, bits_of, sums}
use Rattle.bits.specs.Bytes.{bits_of_bytes}
use Rattle.grain.specs.Generator.{product, value, output, next_s, next_b, push, out, clock, run}
use Rattle.grain.specs.Start.{iv, loaded}
use Rattle.grain.specs.Mac.{key_bit, mac_bit, paired, keystream, taken, absorbed, authenticated, encrypted}
use Rattle.counts.specs.Count.{groups_of, count_bytes}
use Rattle.payloads.specs.Payloads.{step_zero, step_one, tag_challenge, mutual_proof, message}
use Rattle.determined.specs.Table.{TableHolds}

pub table-holds : TableHolds
unfolding
    digit bits_of sums bits_of_bytes product value output next_s next_b push out clock run iv loaded key_bit mac_bit paired keystream taken absorbed authenticated encrypted groups_of count_bytes step_zero step_one tag_challenge mutual_proof message
table-holds = refl
