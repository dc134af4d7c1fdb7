-- Demand 2 has force over the eight zero bits: whatever the reader, it holds of no tag whose messages have ones there, though one that
-- wants ones takes them. Assumes nothing.
use mathlib.Core.Path.{◌≡◌, refl, sym, ap, ◌∙◌}
use mathlib.Core.Bool.{Bool, true, false, true≢false}
use mathlib.Core.List.{List, [], ◌∷◌, ◌++◌}
use Prim.Native.Nat.{ℕ}
use native.Mathlib.Omega.{arith}
use lib.ListN.{length, take, get_or, replicate}
use Rattle.bits.specs.Bits.{bits_of, sums}
use Rattle.bits.specs.Bytes.{bits_of_bytes}
use Rattle.bits.proofs.Area.{shown-shown}
use Rattle.bits.proofs.Numbers.{length-bits_of}
use Rattle.grain.specs.Mac.{Mac}
use Rattle.grain.proofs.Back.{Whole}
use Rattle.payloads.specs.Payloads.{message}
use Rattle.payloads.proofs.Layouts.{length-message}
use Rattle.states.specs.TagStates.{TagState}
use Rattle.states.specs.ReaderStates.{ReaderState}
use Rattle.states.proofs.ReaderStates.{reader-face-of}
use Rattle.states.proofs.TagStates.{face-open}
use Rattle.promises.specs.Machines.{Given, ReaderMachine}
use Rattle.promises.specs.Demand2.{Talks, Demand2}
use Rattle.promises.specs.Audited.{turned, ones_tag}
use Rattle.promises.specs.AuditedReaders.{ones_reader}
use Rattle.promises.proofs.Talking.{reader_at, tag_at, reader-takes}
use Rattle.promises.proofs.Talks.{right}
use Rattle.promises.proofs.Refuted.{setting, honest, buffer, slice_of, carried, ta_talks, ours}
use Rattle.promises.proofs.Comparing.{nothing, allowed}
use Rattle.promises.proofs.Copied.{start, next, mac_after, whole-start, whole-next, mac-small, sends}

-- a message of no data as the standard has it, and with ones for its zeros
abbrev zeros : ℕ → List Bool
zeros mac = message [] 32 mac

abbrev ones : ℕ → List Bool
ones mac = replicate 8 true ++ bits_of 32 mac

zeros-length : (mac : ℕ) → length (zeros mac) ≡ 40
zeros-length mac = length-message [] 32 mac

ones-length : (mac : ℕ) → length (ones mac) ≡ 40
ones-length mac = rw (length-bits_of 32 mac) refl

zeros_carried : (mac : ℕ) → take 40 (bits_of_bytes (slice_of (zeros mac))) ≡ zeros mac
zeros_carried mac = rw zeros-length at (carried (zeros mac) (rw zeros-length (omega arith))).same

ones_carried : (mac : ℕ) → take 40 (bits_of_bytes (slice_of (ones mac))) ≡ ones mac
ones_carried mac = rw (ones-length mac) at (carried (ones mac) (rw (ones-length mac) (omega arith))).same

zeros-turned : (mac : ℕ) → turned 32 40 (slice_of (zeros mac)) ≡ ones mac
unfolding message sums
zeros-turned mac = rw (zeros_carried mac) refl

ones-turned : (mac : ℕ) → turned 32 40 (slice_of (ones mac)) ≡ zeros mac
unfolding message sums
ones-turned mac = rw (ones_carried mac) refl

-- ---- what the tag says

module _ (y : Mac) (h : Whole 32 y) where
  abbrev says : Given TagState
  says = ones_tag.response (tag_at setting y) (record { kind = 4; payload = []; count = 0 }) buffer

  says-ones : says.buffer ≡ slice_of (ones (mac_after y))
  says-ones = rw (sends y h, face-open, zeros-length, zeros-turned (mac_after y)) refl

pub ones_for_zeros : (R : ReaderMachine) → Demand2 R ones_tag → ⊥
unfolding Talks message
ones_for_zeros R d =
    let said = ((ta_talks R ones_tag d (nothing false ∷ []) allowed).sends buffer (omega arith)).same in
    let mac = mac_after start in
    let same = rw (ours, says-ones start whole-start, zeros-length mac) at said in
    true≢false (ap (λ (l : List Bool). get_or l 0 false) (sym (ones_carried mac) ∙ same))

-- ---- the pair

pub ones-pair : Demand2 ones_reader ones_tag → ⊥
ones-pair = ones_for_zeros ones_reader

-- what the tag says is taken, though the standard's reader would not
module _ (y : Mac) (h : Whole 32 y) where
  abbrev takes : Given ReaderState
  takes = ones_reader.receive (reader_at setting y) (record { kind = 1; payload = (says y h).buffer; count = (says y h).bits }) buffer

  pub ones_talk : takes.answer ≡ 0
  ones_talk =
      let mac = mac_after y in
      let l = zeros mac in
      let e = reader-takes setting honest y h (nothing false) allowed [] mac (omega arith) (mac-small (next y) (whole-next y h)) (slice_of l)
      (carried l (rw zeros-length (omega arith))) 265 (omega arith) refl ∙ right _ _ _ mac in
      let back = shown-shown (zeros mac) (ones mac) buffer in
      rw (says-ones y h, sends y h, reader-face-of, zeros-length mac, ones-turned mac, back, rw zeros-length at e) refl
