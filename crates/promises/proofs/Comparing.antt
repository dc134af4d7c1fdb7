-- Demand 2 has force: whatever its partner, it holds of no machine that takes another word than the one compared with. Assumes nothing.
use mathlib.Core.Path.{◌≡◌, refl, ap, ◌∙◌}
use mathlib.Core.Bool.{Bool, true, false, cond, not}
use mathlib.Core.List.{List, [], ◌∷◌}
use Prim.Native.Nat.{ℕ, ◌+◌, ◌-◌, ◌*◌, ◌/◌, ◌%◌, ◌^◌, ◌≤◌, ◌<◌}
use native.Mathlib.Omega.{arith}
use lib.Dec.{eqb}
use lib.ListN.{length}
use borrow.Author.Tests.{eq-eqb, eqb-false}
use Rattle.bits.specs.Bytes.{bits_of_bytes}
use Rattle.bits.proofs.Bools.{neither}
use Rattle.book.proofs.Laws.{empty-sound}
use Rattle.payloads.specs.Payloads.{status, mutual_proof, message}
use Rattle.payloads.proofs.Layouts.{length-zero, length_one, length_proof, length-status, length_mutual, length-message}
use Rattle.rules.specs.Answers.{number_of}
use Rattle.rules.specs.Calls.{Command, Message}
use Rattle.rules.specs.Results.{Result, done_by}
use Rattle.states.specs.TagStates.{TagState}
use Rattle.states.specs.ReaderStates.{ReaderState, reader_secrets_of, opened_reader}
use Rattle.machines.specs.ReaderWork.{matched}
use Rattle.promises.specs.Machines.{Given, TagMachine, ReaderMachine}
use Rattle.promises.specs.Ours.{given, our_tag, our_reader}
use Rattle.promises.specs.Settings.{Setting, Talk, Allowed}
use Rattle.promises.specs.Transcript.{first_word, second_word, open_mac, step_zero_bits, tag_proof_bits, challenge_bits, step_one_bits, mac_in}
use Rattle.promises.specs.Demand2.{Differs, Talks, Demand2}
use Rattle.promises.specs.Wrong.{passes, any_word, same_half, proved_with, taken_anyway, compares_by, takes_any, compares_half, takes_any_mac}
use Rattle.promises.specs.WrongReaders.{believes_failure, received_anyway, ta_with, ma_with, believes, believes_last, believes_macs}
use Rattle.promises.proofs.Transcripts.{first_small}
use Rattle.promises.proofs.Opening.{starts}
use Rattle.promises.proofs.Proving.{waiting, starts_later, proves_with}
use Rattle.promises.proofs.Delivery.{zero_short}
use Rattle.promises.proofs.Refuted.{setting, later, later_honest, buffer, slice_of, carried, another, differs, guessing, opened, asked, answered, challenged, proved, tag_proves_lem, ta_talks, both_prove, later_talks, tag-refuses}

-- what is answered 0 wherever ours compares is never answered 10
pub taken : {S : Type 0} (g h : Given S) → h.answer ≡ 0 → (cond (passes g) h g).answer ≡ 10 → ⊥
taken g h e = at (passes g) refl
  where
    at : (b : Bool) → passes g ≡ b → (cond b h g).answer ≡ 10 → ⊥
    at true p t = omega (arith, e, t)
    at false p t = eqb-false g.answer 10 (neither (eqb g.answer 0) (eqb g.answer 10) p).1 t

-- ---- the tag's comparison at step 1: a word that differs in the last bit alone

abbrev last_flipped : ℕ → ℕ
last_flipped word = word / 2 * 2 + (1 - word % 2)

eighty : (s : Setting) (guess : ℕ) → eqb (length (step_one_bits s guess)) 80 ≡ true
eighty s guess = rw length_one refl

flipped_differs : (word : ℕ) → word < 2 ^ 64 → Differs 64 word (last_flipped word)
flipped_differs word h = record { fits = omega arith; other = λ e. omega (arith, e) }

module _ (same : ℕ → ℕ → Bool) (careless : (word : ℕ) → word < 2 ^ 64 → same word (last_flipped word) ≡ true)
    (R : ReaderMachine) (d : Demand2 R (compares_by same)) where
  abbrev s : Setting
  s = later false

  abbrev guess : ℕ
  guess = last_flipped (first_word s)

  -- step 0 is ours
  started : answered R (compares_by same) s ≡ given (done_by (waiting s (later_honest false) false refl) (challenge_bits s)) buffer
  started =
      rw (
        starts s (later_honest false) (slice_of (step_zero_bits s)) 265 (omega arith) (carried _ (zero_short s))
            ∙ starts_later s (later_honest false) false refl,
        length-zero,
      )
      refl

  compares_wrongly : ⊥
  compares_wrongly =
      let other = flipped_differs (first_word s) (first_small s) in
      let t = waiting s (later_honest false) false refl in
      let c = guessing s guess in
      let ten = tag-refuses R (compares_by same) d false guess other in
      let delivered = carried (step_one_bits s guess) (rw length_one (omega arith)) in
      let e = proves_with s (later_honest false) false refl guess other.fits (slice_of (step_one_bits s guess)) delivered same in
      let done = ap (λ (q : Result TagState). number_of q.answer) (rw (careless (first_word s) (first_small s)) at e) in
      taken (our_tag.command t c buffer) (given (proved_with same t c) buffer) done (rw (started, eighty s guess) at ten)

pub takes_any_lem : (R : ReaderMachine) → Demand2 R takes_any → ⊥
takes_any_lem R d = compares_wrongly any_word (λ word h. refl) R d

pub compares_half_lem : (R : ReaderMachine) → Demand2 R compares_half → ⊥
compares_half_lem R d = compares_wrongly same_half (λ word h. eq-eqb (word / 2 ^ 32) (last_flipped word / 2 ^ 32) (omega arith)) R d

-- ---- the reader's

pub matched-done : (next : ReaderState) → number_of (matched true next).answer ≡ 0
unfolding matched
matched-done next = refl

pub believes_any : (T : TagMachine) → Demand2 believes T → ⊥
believes_any T d =
    let guess = another (first_word setting) in
    let p = slice_of (tag_proof_bits setting guess) in
    let other = differs 64 (first_word setting) (omega arith) in
    let ten = ((tag_proves_lem believes T d).refuses guess buffer p other (omega arith) (carried _ (rw length_proof (omega arith)))).0 in
    let r = (asked believes T setting).next in
    taken (our_reader.replied r p 120 buffer) (given (ta_with any_word r (bits_of_bytes p)) buffer) (matched-done _) (rw length_proof at ten)

pub believes_any_last : (T : TagMachine) → Demand2 believes_last T → ⊥
believes_any_last T d =
    let guess = another (second_word (later true)) in
    let p = slice_of (mutual_proof guess) in
    let other = differs 64 (second_word (later true)) (omega arith) in
    let ten = ((both_prove believes_last T d true).reader_refuses guess buffer p refl other (omega arith) (carried _ (rw length_mutual (omega arith)))).0 in
    let r = (challenged believes_last T (later true)).next in
    taken (our_reader.replied r p 65 buffer) (given (ma_with any_word r (bits_of_bytes p)) buffer) (matched-done _) (rw length_mutual at ten)

-- in IA
pub believes_failure_lem : (T : TagMachine) → Demand2 believes_failure T → ⊥
believes_failure_lem T d =
    let p = slice_of (status 1) in
    let ten = ((both_prove believes_failure T d false).status_refuses buffer p (omega arith) (carried _ (rw length-status (omega arith)))).0 in
    let r = (challenged believes_failure T (later false)).next in
    taken (our_reader.replied r p 1 buffer) (given (done_by (opened_reader r (reader_secrets_of r)) []) buffer) refl (rw length-status at ten)

-- ---- messages: one of no data, with another MAC

abbrev pub nothing : Bool → Talk
nothing to_tag = record { to_tag = to_tag; secure = false; payload = []; count = 0; features = 31; book = []; number = 0 }

nothing_allowed : (s : Setting) (to_tag : Bool) → cond to_tag (not (eqb s.method 0)) (not (eqb s.method 1)) ≡ true → Allowed s (nothing to_tag)
nothing_allowed s to_tag way = record {
  direction = way;
  secrecy = refl;
  limit = omega arith;
  within = omega arith;
  book = empty-sound;
  number = omega arith;
}

pub allowed : Allowed setting (nothing false)
allowed = nothing_allowed setting false refl

-- with a word for its MAC
abbrev forged : ℕ → List Bool
forged mac = message [] 32 mac

forged_short : (mac : ℕ) → length (forged mac) ≤ 2120
forged_short mac = rw length-message (omega arith)

pub takes_any_mac_lem : (R : ReaderMachine) → Demand2 R takes_any_mac → ⊥
unfolding Talks
takes_any_mac_lem R d =
    let word = mac_in (later false) [] (open_mac (later false)) in
    let l = forged (another word) in
    let t = (proved R takes_any_mac (later false)).next in
    let c : Command = record { kind = 1; payload = slice_of l; count = length l; features = 31; book = []; number = 0 } in
    let ten = ((later_talks R takes_any_mac d false (nothing true ∷ []) (nothing_allowed (later false) true refl)
    ).refuses [] (another word) buffer (slice_of l) (omega arith) (differs 32 word (omega arith)) (omega arith) (carried l (forged_short _))).0 in
    taken (our_tag.command t c buffer) (given (taken_anyway t c) buffer) refl ten

pub believes_any_mac : (T : TagMachine) → Demand2 believes_macs T → ⊥
unfolding Talks
believes_any_mac T d =
    let word = mac_in setting [] (open_mac setting) in
    let l = forged (another word) in
    let r = (opened believes_macs T setting).next in
    let m : Message = record { kind = 1; payload = slice_of l; count = length l } in
    let ten = ((ta_talks believes_macs T d (nothing false ∷ []) allowed
    ).refuses [] (another word) buffer (slice_of l) (omega arith) (differs 32 word (omega arith)) (omega arith) (carried l (forged_short _))).0 in
    taken (our_reader.receive r m buffer) (given (received_anyway r m) buffer) refl ten
