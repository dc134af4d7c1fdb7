-- The first keystream bit that TA has with a key of zeros and two numbers, and with them exchanged, by running the cipher (some seconds).
-- Assumes nothing.
use mathlib.Core.Path.{◌≡◌, refl}
use mathlib.Core.Bool.{true, false}
use Prim.Native.Nat.{ℕ}
use Rattle.bits.specs.Bits.{bits_of, digit}
use Rattle.bits.specs.Bytes.{bits_of_bytes}
use Rattle.book.specs.Book as Book
use Rattle.grain.specs.Generator as Generator
use Rattle.grain.specs.Start as Start
use Rattle.grain.specs.Mac as Mac
use Rattle.promises.specs.Settings.{Setting}
use Rattle.promises.specs.Transcript.{begun, begun_mac}
use Rattle.promises.proofs.Sessions.{setting_with}
use Rattle.promises.proofs.Refuted.{book}

-- the reader's number and the tag's
abbrev pub numbered : ℕ → ℕ → Setting
numbered reader tag = setting_with 0 0 reader tag book

pub first_bit : Mac.key_bit (begun_mac (numbered 2 0)).st ≡ true
unfolding begun begun_mac bits_of_bytes bits_of digit Mac.filled Mac.key_bit Start.started Start.starts Start.loaded Start.iv
    Book.key_of Book.known_of Book.ids_of Book.key_ids Book.place_in
    Generator.clock Generator.out Generator.run Generator.runs Generator.outs Generator.push Generator.value Generator.product
    Generator.output Generator.next_b Generator.next_s
first_bit = refl

pub exchanged_bit : Mac.key_bit (begun_mac (numbered 0 2)).st ≡ false
unfolding begun begun_mac bits_of_bytes bits_of digit Mac.filled Mac.key_bit Start.started Start.starts Start.loaded Start.iv
    Book.key_of Book.known_of Book.ids_of Book.key_ids Book.place_in
    Generator.clock Generator.out Generator.run Generator.runs Generator.outs Generator.push Generator.value Generator.product
    Generator.output Generator.next_b Generator.next_s
exchanged_bit = refl
