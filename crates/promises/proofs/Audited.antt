-- Demand 2 has force: whatever the reader, it holds of no tag that goes otherwise where a later command has other features. Assumes
-- nothing.
use mathlib.Core.Path.{◌≡◌, refl, ◌∙◌}
use mathlib.Core.Bool.{Bool, true, false, cond}
use mathlib.Core.List.{[], ◌∷◌}
use Prim.Native.Nat.{ℕ}
use native.Mathlib.Omega.{arith}
use lib.Dec.{eqb}
use lib.ListN.{length}
use borrow.Author.Tests.{eq-eqb, eqb-false}
use Rattle.bits.proofs.Bools.{neither}
use Rattle.book.proofs.Laws.{empty-sound}
use Rattle.grain.specs.declared.Engine.{Engine}
use Rattle.grain.specs.declared.Session.{Session}
use Rattle.payloads.specs.Payloads.{message}
use Rattle.payloads.proofs.Layouts.{length-zero, length_one, length-message}
use Rattle.rules.specs.Answers.{number_of}
use Rattle.rules.specs.Calls.{Command}
use Rattle.rules.specs.Results.{done_by, said}
use Rattle.states.specs.TagStates.{TagState, reset_tag}
use Rattle.states.proofs.TagStates.{face-reset, face-begun}
use Rattle.machines.specs.TagWork.{failed, proved_by, command_of}
use Rattle.promises.specs.Machines.{Given, ReaderMachine}
use Rattle.promises.specs.Ours.{given, our_tag}
use Rattle.promises.specs.Settings.{Setting, Supporting, Talk, Allowed}
use Rattle.promises.specs.Transcript.{first_word, open_mac, step_zero_bits, challenge_bits, step_one_bits, last_bits, mac_in}
use Rattle.promises.specs.Demand2.{Talks, Demand2}
use Rattle.promises.specs.Wrong.{passes, any_word, proved_with, taken_anyway}
use Rattle.promises.specs.Audited.{turncoat_step, turncoat_messages, bit_twice}
use Rattle.promises.proofs.Transcripts.{first_small}
use Rattle.promises.proofs.Talking.{tag_at}
use Rattle.promises.proofs.Opening.{starts}
use Rattle.promises.proofs.Proving.{waiting, starts_later, proves}
use Rattle.promises.proofs.Delivery.{zero_short, one_short}
use Rattle.promises.proofs.Refuted.{book, one_for, later, later_honest, buffer, slice_of, carried, another, differs, both_prove, later_talks}
use Rattle.promises.proofs.Comparing.{taken}

-- IA, whose step 0 has the features 31
abbrev ia : Setting
ia = later false

-- the same without "secure", and without IA's own bit
supported : Supporting ia 15
supported = record { byte = omega arith; options = refl }

without : Supporting ia 29
without = record { byte = omega arith; options = refl }

-- ---- step 1 with another word, and other features than step 0's

proved-done : (both : Bool) (k o : ℕ) (e : Engine) (x : Session) → number_of (proved_by both true k o e x).answer ≡ 0
unfolding proved_by
proved-done true k o e x = refl
proved-done false k o e x = refl

-- step 0 is ours, and so is the state that it leads to
abbrev asked : TagState
asked = waiting ia (later_honest false) false refl

started : command_of reset_tag
    (record { kind = 0; payload = slice_of (step_zero_bits ia); count = 64; features = 31; book = book; number = 0 }) 265
    ≡ done_by asked (challenge_bits ia)
started =
    let e = starts ia (later_honest false) (slice_of (step_zero_bits ia)) 265 (omega arith) (carried _ (zero_short ia)) in
    rw length-zero at (e ∙ starts_later ia (later_honest false) false refl)

pub turncoat-step : (R : ReaderMachine) → Demand2 R turncoat_step → ⊥
turncoat-step R d =
    let guess = another (first_word ia) in
    let l = step_one_bits ia guess in
    let c : Command = record { kind = 0; payload = slice_of l; count = 80; features = 15; book = []; number = 0 } in
    let ten = ((both_prove R turncoat_step d false).tag_refuses 15 0 guess buffer (slice_of l) [] supported (omega arith)
    (differs 64 (first_word ia) (omega arith)) (omega arith) empty-sound (carried l (rw length_one (omega arith)))).0 in
    taken (our_tag.command asked c buffer) (given (proved_with any_word asked c) buffer) (proved-done _ _ _ _ _)
    (rw (length-zero, length_one, started) at ten)

-- ---- a message with another MAC, and other features than step 0's

abbrev nothing : Talk
nothing = record { to_tag = true; secure = false; payload = []; count = 0; features = 15; book = []; number = 0 }

allowed : Allowed ia nothing
allowed = record { direction = refl; secrecy = refl; limit = omega arith; within = omega arith; book = empty-sound; number = omega arith }

-- step 1 too is ours
opened : command_of asked
    (record { kind = 0; payload = slice_of (step_one_bits ia (first_word ia)); count = 80; features = 31; book = []; number = 0 }) 265
    ≡ done_by (tag_at ia (open_mac ia)) (last_bits ia)
opened =
    let l = step_one_bits ia (first_word ia) in
    let e = proves ia (later_honest false) false refl (first_word ia) (first_small ia) (slice_of l) (carried l (one_short ia)) 31 (one_for 1) [] 0 265
    empty-sound (omega arith) (omega arith) in
    rw (length_one, eq-eqb (first_word ia) (first_word ia) refl) at e

pub turncoat-messages : (R : ReaderMachine) → Demand2 R turncoat_messages → ⊥
unfolding Talks
turncoat-messages R d =
    let word = mac_in ia [] (open_mac ia) in
    let l = message [] 32 (another word) in
    let n : length l ≡ 40 = length-message [] 32 (another word) in
    let t = tag_at ia (open_mac ia) in
    let c : Command = record { kind = 1; payload = slice_of l; count = 40; features = 15; book = []; number = 0 } in
    let ten = ((later_talks R turncoat_messages d false (nothing ∷ []) allowed
    ).refuses [] (another word) buffer (slice_of l) (omega arith) (differs 32 word (omega arith)) (omega arith) (carried l (rw n (omega arith)))).0 in
    taken (our_tag.command t c buffer) (given (taken_anyway t c) buffer) refl (rw (length-zero, length_one, started, opened, n) at ten)

-- ---- step 1 with the right word, whose features lack IA's own bit

-- what is answered 10 wherever ours compares is never answered 0
refused : {S : Type 0} (g h : Given S) → h.answer ≡ 10 → (cond (passes g) h g).answer ≡ 0 → ⊥
refused g h e = at (passes g) refl
  where
    at : (b : Bool) → passes g ≡ b → (cond b h g).answer ≡ 0 → ⊥
    at true p t = omega (arith, e, t)
    at false p t = eqb-false g.answer 0 (neither (eqb g.answer 0) (eqb g.answer 10) p).0 t

pub bit_twice_lem : (R : ReaderMachine) → Demand2 R bit_twice → ⊥
bit_twice_lem R d =
    let l = step_one_bits ia (first_word ia) in
    let c : Command = record { kind = 0; payload = slice_of l; count = 80; features = 29; book = []; number = 0 } in
    let zero = ((both_prove R bit_twice d false
    ).takes 29 0 buffer (slice_of l) [] without (omega arith) (omega arith) empty-sound (carried l (one_short ia))).0.answer in
    refused (our_tag.command asked c buffer) (given (said (failed false)) buffer) refl
    (rw (length-zero, length_one, started, face-reset, face-begun) at zero)
