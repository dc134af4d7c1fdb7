-- Demand 2 has force over the start: whatever the reader, it holds of no tag that starts the cipher with the two numbers exchanged, though
-- one that does so too takes what it says. Assumes nothing.
use mathlib.Core.Path.{◌≡◌, refl, sym, ap, ◌∙◌}
use mathlib.Core.Bool.{Bool, false, true≢false}
use mathlib.Core.List.{List, []}
use Prim.Native.Nat.{ℕ}
use native.Mathlib.Omega.{arith}
use lib.ListN.{take, get_or}
use borrow.Author.Tests.{eq-eqb, ne_eqb}
use Rattle.bits.specs.Bits.{bits_of}
use Rattle.bits.specs.Bytes.{bits_of_bytes}
use Rattle.bits.proofs.Fields.{field-of}
use Rattle.grain.specs.Mac.{keystream}
use Rattle.grain.proofs.Back.{word_back}
use Rattle.grain.proofs.Runs.{length-keystream}
use Rattle.payloads.specs.Payloads.{tag_proof, tag_keystream_in, layout_of}
use Rattle.payloads.proofs.Layouts.{length-zero, length_proof}
use Rattle.payloads.proofs.Reading.{zero_fields, proof_number, proof_keystream}
use Rattle.rules.specs.Calls.{Command}
use Rattle.rules.specs.Results.{done_by, compared_by}
use Rattle.states.specs.TagStates.{reset_tag}
use Rattle.states.proofs.ReaderStates.{face_asked, secrets_asked}
use Rattle.machines.specs.TagWork.{command_of, started_by}
use Rattle.machines.specs.ReaderWork.{matched}
use Rattle.promises.specs.Machines.{ReaderMachine}
use Rattle.promises.specs.Settings.{Setting, Honest}
use Rattle.promises.specs.Transcript.{begun_mac, first_word, open_mac, step_zero_bits, tag_proof_bits}
use Rattle.promises.specs.Demand2.{Says, Demand2}
use Rattle.promises.specs.Audited.{started_exchanged, exchanged_tag}
use Rattle.promises.specs.AuditedReaders.{exchanged_reader}
use Rattle.promises.proofs.Sessions.{met_with}
use Rattle.promises.proofs.Transcripts.{first_is, first_small, word_stored, begun-whole, filled_is}
use Rattle.promises.proofs.Talking.{tag_at}
use Rattle.promises.proofs.Opening.{asking, starts, starts_ta, compares}
use Rattle.promises.proofs.Delivery.{zero_short}
use Rattle.promises.proofs.Refuted.{book, book-sound, book_knows, buffer, slice_of, carried, answered}
use Rattle.promises.proofs.ComputedNumbers.{numbered, first_bit, exchanged_bit}

-- the reader's number is 2, and the tag's 0; and exchanged
abbrev own : Setting
own = numbered 2 0

abbrev other : Setting
other = numbered 0 2

pub own_honest : Honest own
own_honest = met_with 0 0 2 0 book book-sound book_knows (omega arith) (omega arith) (omega arith) (omega arith)

other_honest : Honest other
other_honest = met_with 0 0 0 2 book book-sound book_knows (omega arith) (omega arith) (omega arith) (omega arith)

first_of_lem : (s : Setting) → bits_of 64 (first_word s) ≡ keystream 64 (begun_mac s).st
first_of_lem s = ap (bits_of 64) (first_is s) ∙ word_back 64 (keystream 64 (begun_mac s).st) (length-keystream 64 (begun_mac s).st)

-- their first words differ in the first bit
words_differ : first_word other ≡ first_word own → ⊥
unfolding keystream
words_differ e =
    let same = sym (first_of_lem own) ∙ ap (bits_of 64) (sym e) ∙ first_of_lem other in
    true≢false (sym first_bit ∙ ap (λ (l : List Bool). get_or l 0 false) same ∙ exchanged_bit)

-- ---- what the tag says

abbrev command : Command
command = record { kind = 0; payload = slice_of (step_zero_bits own); count = 64; features = 31; book = book; number = 0 }

-- ours takes it
taken : command_of reset_tag command 265 ≡ done_by (tag_at own (open_mac own)) (tag_proof_bits own (first_word own))
taken =
    let e = starts own own_honest (slice_of (step_zero_bits own)) 265 (omega arith) (carried _ (zero_short own)) in
    rw length-zero at (e ∙ starts_ta own own_honest refl)

exchanged : (started_exchanged command).reply ≡ tag_proof 31 0 (first_word other)
unfolding started_by layout_of
exchanged =
    let l = bits_of_bytes (slice_of (step_zero_bits own)) in
    let came = rw length-zero at (carried (step_zero_bits own) (zero_short own)).same in
    let f = zero_fields 0 0 5 2 l came (omega arith) (omega arith) (omega arith) (omega arith) in
    let w = begun-whole other other_honest in
    rw (f.method, f.options, f.keyid, f.last, first_is other, filled_is other other_honest, word_stored (begun_mac other) w.0) refl

proof_carried : (k : ℕ) → take 120 (bits_of_bytes (slice_of (tag_proof 31 0 k))) ≡ tag_proof 31 0 k
proof_carried k = rw length_proof at (carried (tag_proof 31 0 k) (rw length_proof (omega arith))).same

pub exchanges_numbers : (R : ReaderMachine) → Demand2 R exchanged_tag → ⊥
exchanges_numbers R d =
    let said : Says (answered R exchanged_tag own) (tag_proof_bits own (first_word own))
    = ((d own own_honest [] []).step buffer buffer (slice_of (step_zero_bits own)) (omega arith) (omega arith) (carried _ (zero_short own))).0 in
    let same = sym (proof_carried (first_word other)) ∙ (rw (length-zero, taken, exchanged, length_proof) at said.same) in
    words_differ
    (sym (proof_keystream 31 0 (first_word other) (first_small other)) ∙ ap (λ (l : List Bool). tag_keystream_in l) same
    ∙ proof_keystream 31 0 (first_word own) (first_small own))

-- ---- the pair

pub exchanged_pair : Demand2 exchanged_reader exchanged_tag → ⊥
exchanged_pair = exchanges_numbers exchanged_reader

-- what the tag says is taken, though the standard's reader would not
pub exchanged_talk : (exchanged_reader.replied (asking own own_honest) (exchanged_tag.command reset_tag command buffer).buffer 120 buffer).answer ≡ 0
unfolding matched compared_by
exchanged_talk =
    let k = first_word other in
    let p = slice_of (tag_proof 31 0 k) in
    let l = bits_of_bytes p in
    let c = carried (tag_proof 31 0 k) (rw length_proof (omega arith)) in
    let ten = rw length_proof at (compares own own_honest p 265 (omega arith) refl k (first_small other) c) in
    let number = field-of 8 48 120 l _ (proof_carried k) (omega arith) ∙ proof_number 31 0 k (omega arith) in
    let word = field-of 56 64 120 l _ (proof_carried k) (omega arith) ∙ proof_keystream 31 0 k (first_small other) in
    let w = begun-whole other other_honest in
    let stored = word_stored (begun_mac other) w.0 ∙ sym (first_is other) in
    let filled = filled_is other other_honest in
    rw (
      taken,
      exchanged,
      ten,
      ne_eqb (first_word own) k (λ e. words_differ (sym e)),
      face_asked,
      secrets_asked,
      number,
      word,
      filled,
      stored,
      eq-eqb k k refl,
    )
    refl
