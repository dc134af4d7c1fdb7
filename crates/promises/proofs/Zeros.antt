-- Demand 2 has force over the keystream: whatever the reader, it holds of no tag whose keystream bits are zeros, though one whose
-- keystream bits are zeros too takes them. Assumes nothing.
use mathlib.Core.Path.{◌≡◌, refl, sym, ap, ◌∙◌}
use mathlib.Core.Bool.{Bool, false, true≢false}
use mathlib.Core.List.{List, ◌++◌, append_assoc}
use Prim.Native.Nat.{ℕ}
use native.Mathlib.Omega.{arith}
use lib.ListN.{length, take, get_or}
use lib.Seq.{take_at, take-take}
use borrow.Author.Tests.{ne_eqb}
use Rattle.bits.specs.Bits.{bits_of}
use Rattle.bits.specs.Bytes.{bits_of_bytes}
use Rattle.bits.proofs.Fields.{field-of}
use Rattle.bits.proofs.Numbers.{bits_of-zero}
use Rattle.grain.specs.Mac.{keystream}
use Rattle.grain.proofs.Back.{word_back}
use Rattle.grain.proofs.Runs.{length-keystream}
use Rattle.payloads.specs.Payloads.{tag_proof, tag_challenge, tag_keystream_in, layout_of}
use Rattle.payloads.proofs.Layouts.{length-zero, length_proof, length-challenge}
use Rattle.payloads.proofs.Reading.{proof_keystream}
use Rattle.rules.specs.Results.{compared_by}
use Rattle.states.specs.TagStates.{TagState, reset_tag}
use Rattle.machines.specs.ReaderWork.{matched}
use Rattle.promises.specs.Machines.{Given, ReaderMachine}
use Rattle.promises.specs.Transcript.{begun_mac, first_word, step_zero_bits, tag_proof_bits}
use Rattle.promises.specs.Demand2.{Demand2}
use Rattle.promises.specs.Wrong.{zero_tag}
use Rattle.promises.specs.WrongReaders.{zero_reader}
use Rattle.promises.proofs.Transcripts.{first_is, first_small}
use Rattle.promises.proofs.Opening.{asking, compares}
use Rattle.promises.proofs.Refuted.{book, setting, honest, buffer, payload, slice_of, carried, ours, tag-says}
use Rattle.promises.proofs.Computed.{key_first}

-- the first word begins with a 1
word_not-zero : 0 ≡ first_word setting → ⊥
unfolding keystream
word_not-zero e =
    let st = (begun_mac setting).st in
    let back = sym (bits_of-zero 64) ∙ ap (bits_of 64) (e ∙ first_is setting) ∙ word_back 64 (keystream 64 st) (length-keystream 64 st) in
    true≢false (sym (ap (λ (l : List Bool). get_or l 0 false) back ∙ key_first))

-- ---- what the tag says

abbrev said : Given TagState
said =
    zero_tag.command reset_tag
    (record { kind = 0; payload = payload; count = length (step_zero_bits setting); features = 31; book = book; number = 0 }) buffer

-- TA's response is that of the other methods and its word
parts : (k : ℕ) → tag_proof 31 0 k ≡ tag_challenge 31 0 ++ bits_of 64 k
unfolding tag_proof tag_challenge
parts k = sym (append_assoc (bits_of 8 31) (bits_of 48 0) (bits_of 64 k))

proof_carried : (k : ℕ) → take 120 (bits_of_bytes (slice_of (tag_proof_bits setting k))) ≡ tag_proof_bits setting k
proof_carried k = rw length_proof at (carried (tag_proof_bits setting k) (rw length_proof (omega arith))).same

front : (k : ℕ) → take 56 (bits_of_bytes (slice_of (tag_proof_bits setting k))) ≡ tag_challenge 31 0
front k =
    sym (take-take 56 120 (bits_of_bytes (slice_of (tag_proof_bits setting k))) (omega arith)) ∙ ap (take 56) (proof_carried k ∙ parts k)
    ∙ take_at (tag_challenge 31 0) (bits_of 64 k) 56 (length-challenge 31 0)

zeros-said : said.buffer ≡ slice_of (tag_proof_bits setting 0)
zeros-said = rw (ours, length-zero, length_proof, front (first_word setting), ← parts 0) refl

pub says-zeros : (R : ReaderMachine) → Demand2 R zero_tag → ⊥
says-zeros R d =
    let same = sym (proof_carried 0) ∙ (rw (zeros-said, length_proof) at (tag-says R zero_tag d).same) in
    word_not-zero
    (sym (proof_keystream 31 0 0 (omega arith)) ∙ ap (λ (l : List Bool). tag_keystream_in l) same
    ∙ proof_keystream 31 0 (first_word setting) (first_small setting))

-- ---- the pair whose keystream bits are zeros

pub zero-pair : Demand2 zero_reader zero_tag → ⊥
zero-pair = says-zeros zero_reader

-- what the tag says is taken, though the standard's reader would not
pub zeros_talk : (zero_reader.replied (asking setting honest) said.buffer 120 buffer).answer ≡ 0
unfolding matched compared_by layout_of
zeros_talk =
    let l = tag_proof_bits setting 0 in
    let c = carried l (rw length_proof (omega arith)) in
    let ten = rw length_proof at (compares setting honest (slice_of l) 265 (omega arith) refl 0 (omega arith) c) in
    let word = field-of 56 64 120 (bits_of_bytes (slice_of l)) _ (proof_carried 0) (omega arith) ∙ proof_keystream 31 0 0 (omega arith) in
    rw (zeros-said, ten, ne_eqb (first_word setting) 0 (λ e. word_not-zero (sym e)), word) refl
