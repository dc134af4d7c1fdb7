-- Demand 3 has force: a tag that leaves what it decrypted of a message with a wrong MAC is refuted. Assumes nothing.
use mathlib.Core.Path.{◌≡◌, refl, sym, ap, ◌∙◌}
use mathlib.Core.Bool.{Bool, not-not, true, false, not}
use mathlib.Core.List.{List, [], ◌∷◌}
use Prim.Native.Nat.{ℕ, ◌*◌, ◌^◌, ◌<◌}
use native.Mathlib.Omega.{arith}
use lib.ListN.{take, get_or, replicate}
use borrow.Author.Tests.{ne_eqb, eq-eqb, eqb-true}
use Rattle.std.specs.declared.result.Result.TheVariants.{Ok}
use Rattle.bits.specs.Area.{shown}
use Rattle.bits.specs.Bits.{bits_of, digit, num_of, num, ◌⊕◌}
use Rattle.bits.specs.Bytes.{bits_of_bytes, bytes_of, padded, field_of}
use Rattle.bits.proofs.Bytes.{bits_back}
use Rattle.bits.proofs.Fields.{field_skip, field-whole}
use Rattle.bits.proofs.Numbers.{length-bits_of, num_of-lt}
use Rattle.grain.specs.declared.Engine.{Engine}
use Rattle.grain.specs.declared.Method.TheVariants.{Ma}
use Rattle.grain.specs.declared.Session.{Session}
use Rattle.grain.specs.declared.Width.TheVariants.{Mac32}
use Rattle.grain.specs.Mac as Mac
use Rattle.grain.specs.Stored as Stored
use Rattle.grain.proofs.Runs.{length-keystream}
use Rattle.book.specs.Book as Book
use Rattle.payloads.specs.Payloads.{options_in, reader_keystream_in, zeros_of}
use Rattle.rules.specs.declared.Answer.TheVariants.{Mismatch}
use Rattle.rules.specs.Answers.{verdict_of, closing_of}
use Rattle.rules.specs.Calls.{Command}
use Rattle.rules.specs.Results.{said, decided, refused_by, compared_by}
use Rattle.rules.specs.TagRules.{shown_of, command_verdict, command_work}
use Rattle.rules.proofs.Verdicts.{soundly}
use Rattle.states.specs.Sessions.{filled_session, next_keystream, with_engine, after_message, data_of, same_mac}
use Rattle.states.specs.TagStates.{TagState, sound_of, begun_face, begun_tag, open_by, closed_tag, open_tag}
use Rattle.states.proofs.Sessions.{filled-fits}
use Rattle.states.proofs.TagStates.{face-begun, secrets_begun, face-open, secrets_open}
use Rattle.machines.specs.TagWork.{command_of, carried_of, worked_of, prove_of, proved_by, mutually_proved, receive_of}
use Rattle.machines.proofs.TagSound.{begun-sound, open-sound}
use Rattle.promises.specs.Silence.{Silent}
use Rattle.promises.specs.Demand3 as Demand3
use Rattle.promises.specs.Demand3.{AlikeCommands, commands, Demand3}
use Rattle.promises.specs.Leaky.{leaves_decrypted}
use Rattle.promises.proofs.Comparisons.{order_of}
use Rattle.promises.proofs.LeakRuns.{differ, buffer, called, call, alike_but, alike_keys, from_reset, opening, engine, opens}

-- ---- MA up to the open tag, with secure messages and a MAC of 32 bits

abbrev filled : Session
filled = filled_session Mac32 (engine Ma 0)

-- the keystream that is asked for: it is never computed here
abbrev word : ℕ
word = (next_keystream filled.engine).word

abbrev proof : Command
proof = called 31 0 0 (146 ∷ 5 ∷ bytes_of 8 (bits_of 64 word)) 80

abbrev asked : TagState
asked = begun_tag true 5 (engine Ma 0)

abbrev later : Engine
later = (next_keystream filled.engine).engine

-- the session of the open tag
abbrev spoken : Session
spoken = with_engine filled (next_keystream later).engine

abbrev ready : TagState
ready = open_tag Ma 5 2 spoken

proving : command_verdict (begun_face true 5) (shown_of 0 proof 265) ≡ Ok tt
unfolding command_verdict shown_of verdict_of closing_of Book.sound_of Book.ids_of Book.key_ids Book.rising
    bits_of_bytes bytes_of bits_of digit num_of padded field_of
proving = refl

secure-options : options_in (bits_of_bytes proof.payload) ≡ 2
unfolding bits_of_bytes bits_of digit num_of padded field_of
secure-options = refl

word_small : word < 2 ^ 64
unfolding next_keystream Stored.keystream_of
word_small = let h = num_of-lt (Mac.keystream 64 (Stored.state_of filled.engine)) in rw (length-keystream 64 (Stored.state_of filled.engine)) at h

word_asked : reader_keystream_in (bits_of_bytes proof.payload) ≡ word
unfolding bits_of_bytes
word_asked =
    field_skip 8 8 64 (bits_of 8 146) _ (length-bits_of 8 146) ∙ field_skip 8 0 64 (bits_of 8 5) _ (length-bits_of 8 5)
    ∙ ap (field_of 0 64) (bits_back 8 (bits_of 64 word) (length-bits_of 64 word)) ∙ field-whole 64 word word_small

compared : said (prove_of asked (shown_of 0 proof 265) proof.payload) ≡ said (mutually_proved 5 2 later filled)
unfolding prove_of proved_by shown_of
compared = rw (face-begun, secrets_begun, secure-options, word_asked, eq-eqb word word refl)

proves : command_of asked proof 265 ≡ said (mutually_proved 5 2 later filled)
unfolding command_of carried_of decided command_work worked_of shown_of
proves = rw (soundly (sound_of asked) _ (begun-sound true 5 (engine Ma 0)), face-begun, proving) compared

-- ---- secure messages of one data bit a, eight zeros, and a MAC whose first bit is m and whose others are 0

abbrev secret : Bool → Bool → Command
secret a m = called 31 0 2 (num a * 128 ∷ num m * 64 ∷ replicate 4 0) 41

abbrev bits : Bool → Bool → List Bool
bits a m = bits_of_bytes (secret a m).payload

zeros_are : (a m : Bool) → zeros_of 32 41 (bits a m) ≡ true
unfolding zeros_of bits_of_bytes bits_of digit num_of padded field_of
zeros_are true true = refl
zeros_are true false = refl
zeros_are false true = refl
zeros_are false false = refl

data_bit : (a m : Bool) → take 1 (bits a m) ≡ a ∷ []
unfolding bits_of_bytes bits_of digit
data_bit true m = refl
data_bit false m = refl

mac-bit : (a m : Bool) → digit 31 (field_of 9 32 (bits a m)) ≡ m
unfolding bits_of_bytes bits_of digit num_of padded field_of
mac-bit true true = refl
mac-bit true false = refl
mac-bit false true = refl
mac-bit false false = refl

ready_sound : sound_of ready ≡ true
ready_sound = open-sound 5 2 spoken refl (filled-fits Mac32 (engine Ma 0)) Ma

receiving : (a m : Bool) → command_verdict (open_by Ma 5 2) (shown_of 32 (secret a m) 265) ≡ Ok tt
unfolding command_verdict shown_of verdict_of closing_of Book.sound_of Book.ids_of Book.key_ids Book.rising
receiving a m = rw (zeros_are a m) refl

-- the right MAC of a
abbrev right : Bool → ℕ
right a = (after_message Mac32 (a ∷ []) spoken).acc

wrong_mac : (a m : Bool) → digit 31 (right a) ≡ not m → same_mac Mac32 (bits a m) 41 spoken ≡ false
unfolding same_mac
wrong_mac a m e = rw (data_bit a m) (ne_eqb _ _ (λ q. differ m (sym (sym e ∙ ap (digit 31) q ∙ mac-bit a m))))

mismatch : (a m : Bool) → digit 31 (right a) ≡ not m → command_of ready (secret a m) 265 ≡ refused_by (closed_tag ready) Mismatch
unfolding command_of carried_of decided command_work worked_of shown_of receive_of compared_by
mismatch a m e = rw (soundly (sound_of ready) _ ready_sound, face-open, receiving a m, secrets_open, wrong_mac a m e) refl

-- ---- two such messages are alike in all public parts: so what is left of them is the same

alike_secrets : (m n : Bool) → AlikeCommands 32 (secret false m) (secret true n) buffer buffer
unfolding zeros_of
alike_secrets m n =
    alike_but 32 31 0 0 2 _ _ 41 refl (λ k. absurd (omega (arith, k)))
    (λ k p q. eqb-true _ _ (zeros_are false m) ∙ sym (eqb-true _ _ (zeros_are true n)))

abbrev left : Bool → List ℕ
left a = shown (data_of Mac32 true (a ∷ []) spoken) buffer

both : Demand3 leaves_decrypted → (m n : Bool) → digit 31 (right false) ≡ not m → digit 31 (right true) ≡ not n
    → take 265 (left false) ≡ take 265 (left true)
unfolding Silent
both d m n u v =
    let calls : List (Demand3.Call × Demand3.Call)
    = (call (opening Ma 0), call (opening Ma 0)) ∷ (call proof, call proof) ∷ (call (secret false m), call (secret true n)) ∷ [] in
    let h = (from_reset leaves_decrypted d calls (commands (alike_keys _ 0 0 0 0 _ 64))).1 in
    let k = ((rw (opens Ma 0, face-begun) at h) (commands (alike_keys _ 31 0 0 0 _ 80))).1 in
    let p = ((rw (proves, face-open, secrets_open) at k) (commands (alike_secrets m n))).0 in
    let q = (rw (mismatch false m u, mismatch true n v, order_of (open_by Ma 5 2) (secret false m) 265 _ (receiving false m)) at p).1.area in
    rw (data_bit false m, data_bit true n) at q

-- they differ in their first bit, whatever was added to it
apart : take 265 (left false) ≡ take 265 (left true) → ⊥
unfolding data_of Mac.decrypted shown bytes_of padded num_of
apart e = at (Mac.key_bit (Stored.mac_of 32 spoken).st) (ap (λ (l : List ℕ). get_or l 0 0) e)
  where
    at : (k : Bool) → num_of (padded 8 ((false ⊕ k) ∷ [])) ≡ num_of (padded 8 ((true ⊕ k) ∷ [])) → ⊥
    at true h = omega (arith, h)
    at false h = omega (arith, h)

pub leaves_decrypted_lem : Demand3 leaves_decrypted → ⊥
leaves_decrypted_lem d = apart (both d (not (digit 31 (right false))) (not (digit 31 (right true))) (sym (not-not _)) (sym (not-not _)))
