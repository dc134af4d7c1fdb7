-- Demand 1 has force: machines that go by a wrong rule are refuted. Assumes nothing.
use mathlib.Core.Path.{◌≡◌, refl, sym, ap, ◌∙◌}
use mathlib.Core.Bool.{Bool, true, false, true≢false, not, cond, ◌&&◌}
use mathlib.Core.List.{List, [], ◌∷◌}
use mathlib.Core.Logic.{◌⊎◌, inl, inr}
use Prim.Native.Nat.{ℕ, suc, ◌≤◌, ◌<◌}
use native.Mathlib.Omega.{arith}
use lib.Dec.{eqb}
use lib.ListN.{length, replicate, take, get_or}
use borrow.Author.Tests.{eqb-false, lt-ltb, le-ltb, eq-eqb}
use Rattle.std.specs.declared.result.Result.TheVariants.{Ok}
use Rattle.bits.specs.Area.{shown}
use Rattle.bits.specs.Bits.{bits_of, num_of, digit}
use Rattle.bits.specs.Bytes.{bits_of_bytes, bytes_of, padded, field_of}
use Rattle.bits.proofs.Bools.{never}
use Rattle.book.specs.Book as Book
use Rattle.grain.specs.declared.Engine.{Engine}
use Rattle.grain.specs.declared.Session.{Session}
use Rattle.grain.specs.declared.Method.TheVariants.{Ta, Ia, Ma}
use Rattle.payloads.specs.Payloads.{status_in, offers, supports, zeros_of, layout_of}
use Rattle.payloads.proofs.Layouts.{length-challenge}
use Rattle.faces.specs.declared.Face.{Face}
use Rattle.faces.specs.declared.ReaderFace.{ReaderFace}
use Rattle.faces.specs.TagFaces.{name_number, error_type}
use Rattle.faces.specs.ReaderFaces.{reader_fits}
use Rattle.rules.specs.declared.Answer.TheVariants.{Unsupported}
use Rattle.rules.specs.Answers.{number_of, close, verdict_of, closing_of, if_sound}
use Rattle.rules.specs.Calls.{Command}
use Rattle.rules.specs.Results.{Result, refused_by, compared_by, decided, said}
use Rattle.rules.specs.TagRules.{shown_of, command_work}
use Rattle.rules.specs.ReaderRules.{reply_work}
use Rattle.states.specs.Sessions.{empty_session, empty_register, session_fits}
use Rattle.states.specs.TagStates.{TagState, face_of, sound_of, reset_tag, closed_tag, begun_tag, open_tag, begun_face}
use Rattle.states.specs.ReaderStates.{ReaderState, reader_sound, closed_reader, begun_reader, begun_reader_face}
use Rattle.states.proofs.TagStates.{face-closed, face-begun, face-open}
use Rattle.states.proofs.ReaderStates.{face_asked, secrets_asked}
use Rattle.machines.specs.TagWork.{worked_of, receive_of, prove_of, proved_by, error_type_of, command_of}
use Rattle.machines.specs.TagWork as Work
use Rattle.machines.specs.ReaderWork.{answered_by}
use Rattle.machines.proofs.TagSound.{reset-sound, close-sound, begun-sound, open-sound}
use Rattle.promises.specs.Machines.{Given, TagMachine}
use Rattle.promises.specs.Ours.{given}
use Rattle.promises.specs.Order.{first_of, Worked, done, failed}
use Rattle.promises.specs.TagTable.{command_checks, command_leads}
use Rattle.promises.specs.Demand1.{Demand1Tag, Demand1Reader}
use Rattle.promises.specs.Leaky.{leaves_earlier}
use Rattle.promises.specs.WrongRules.{argument_first, comm_closes, zeros_unread, any_key_id, errors_exchanged, failed_stays, held_by, any_features, features_unheld, options_only, method_unheld, ia_bit_of_ta, ta_by_ia_bit, ta_bit_of_ma, ma_by_ta_bit}
use Rattle.promises.specs.Offered.{heard_in, response_bits, Takes}
use Rattle.promises.proofs.ReaderRows.{reply-row}
use Rattle.promises.proofs.Offered.{refuses, goes, asked_passes}
use Rattle.promises.proofs.Comparisons.{order_of}
use Rattle.promises.proofs.LeakRuns.{buffer, opening, engine, opens}
use Rattle.promises.proofs.Leaks as Leaks

-- ---- three states of a tag, and a command of no book

abbrev in_ta1 : TagState
in_ta1 = open_tag Ta 5 0 empty_session

abbrev in_ma2 : TagState
in_ma2 = open_tag Ma 5 0 empty_session

sound_ta : sound_of in_ta1 ≡ true
sound_ta = open-sound 5 0 empty_session refl refl Ta

sound_ma : sound_of in_ma2 ≡ true
sound_ma = open-sound 5 0 empty_session refl refl Ma

abbrev pub command : ℕ → List ℕ → ℕ → Command
command kind payload count = record { kind = kind; payload = payload; count = count; features = 31; book = []; number = 0 }

-- the first check that refuses says the answer
pub says : (m : TagMachine) (d : Demand1Tag m) (s : m.State) (c : Command) (b : List ℕ) (n : ℕ) → first_of (command_checks (m.sound s) (m.face s) c (length b)) ≡ suc n
    → (m.command s c b).answer ≡ suc n
says m d s c b n e = ((d.answers.command s c b).refused (λ z. omega (arith, e, z))).answer ∙ e

-- what a machine answers there is another number
clash : (m : TagMachine) (d : Demand1Tag m) (s : m.State) (c : Command) (b : List ℕ) (n k : ℕ) → first_of (command_checks (m.sound s) (m.face s) c (length b)) ≡ suc n
    → (m.command s c b).answer ≡ k → eqb k (suc n) ≡ false → ⊥
clash m d s c b n k e h z = eqb-false k (suc n) z (sym h ∙ says m d s c b n e)

-- work that compares answers 0 or 10
pub compared-number : {S : Type 0} (same : Bool) (next closed : S) (reply : List Bool) (n : ℕ) → eqb n 0 ≡ false → eqb n 10 ≡ false
    → number_of (compared_by same next reply closed).answer ≡ n → ⊥
unfolding compared_by
compared-number true next closed reply n z t h = never _ z (ap (λ (x : ℕ). eqb x 0) (sym h))
compared-number false next closed reply n z t h = never _ t (ap (λ (x : ℕ). eqb x 10) (sym h))

-- ---- the order

pub argument_first_lem : Demand1Tag argument_first → ⊥
unfolding first_of if_sound decided shown_of
argument_first_lem d = clash argument_first d reset_tag (command 4 [] 0) [] 1 11 (rw reset-sound refl) (rw reset-sound refl) refl

-- ---- the states' table

pub comm_closes_lem : Demand1Tag comm_closes → ⊥
unfolding first_of if_sound decided shown_of verdict_of closing_of Book.sound_of Book.ids_of Book.key_ids Book.rising
comm_closes_lem d = clash comm_closes d in_ta1 (command 1 [] 0) buffer 8 3 (rw (sound_ta, face-open) refl) (rw (sound_ta, face-open) refl) refl

-- ---- length and zero bits: a message of no data whose eight bits are ones

abbrev ones : Command
ones = command 1 (255 ∷ replicate 4 0) 40

pub zeros_unread_lem : Demand1Tag zeros_unread → ⊥
unfolding first_of if_sound decided shown_of verdict_of closing_of command_work worked_of receive_of zeros_of Book.sound_of Book.ids_of Book.key_ids Book.rising
    bits_of_bytes bits_of digit num_of padded field_of
zeros_unread_lem d =
    let e : first_of (command_checks (sound_of in_ma2) (face_of in_ma2) ones 265) ≡ 6 = rw (sound_ma, face-open) refl in
    let h = says zeros_unread d in_ma2 ones buffer 5 e in
    compared-number _ _ _ _ 6 refl refl (rw (sound_ma, face-open) at h)

-- ---- the KeyID at step 1: MA's under KeyID 6, where step 0 was under 5

abbrev in_ma1 : TagState
in_ma1 = begun_tag true 5 (engine Ma 0)

abbrev other_key : Command
other_key = command 0 (144 ∷ 6 ∷ replicate 8 0) 80

proved-number : (both same : Bool) (n : ℕ) → eqb n 0 ≡ false → eqb n 10 ≡ false → (k o : ℕ) (e : Engine) (x : Session)
    → number_of (proved_by both same k o e x).answer ≡ n → ⊥
unfolding proved_by
proved-number both false n z t k o e x h = never _ t (ap (λ (x : ℕ). eqb x 10) (sym h))
proved-number true true n z t k o e x h = never _ z (ap (λ (x : ℕ). eqb x 0) (sym h))
proved-number false true n z t k o e x h = never _ z (ap (λ (x : ℕ). eqb x 0) (sym h))

pub any_key_id_lem : Demand1Tag any_key_id → ⊥
unfolding first_of if_sound decided shown_of verdict_of closing_of command_work worked_of prove_of Book.sound_of Book.ids_of Book.key_ids Book.rising
    bits_of_bytes bits_of digit num_of padded field_of
any_key_id_lem d =
    let z = begun-sound true 5 (engine Ma 0) in
    let e : first_of (command_checks (sound_of in_ma1) (face_of in_ma1) other_key 265) ≡ 5 = rw (z, face-begun) refl in
    let h = says any_key_id d in_ma1 other_key buffer 4 e in
    proved-number _ _ 5 refl refl _ _ _ _ (rw (z, face-begun) at h)

-- ---- what is left: the error type of a closed TA.1, and the state after IA's step 1 with a wrong guess

pub errors_exchanged_lem : Demand1Tag errors_exchanged → ⊥
unfolding error_type_of error_type
errors_exchanged_lem d =
    let h = d.stands.error_type (closed_tag in_ta1) in
    let k = rw (close-sound in_ta1 sound_ta, face-closed in_ta1, face-open) at h in
    omega (arith, k)

abbrev wrong_guess : Command
wrong_guess = Leaks.guess 0 (Leaks.off 0)

abbrev in_ia1 : TagState
in_ia1 = Leaks.tag 0

pub failed_stays_lem : Demand1Tag failed_stays → ⊥
failed_stays_lem d =
    let z : first_of (command_checks (sound_of in_ia1) (face_of in_ia1) wrong_guess 265) ≡ 0
    = rw (begun-sound false 5 (engine Ia 0), face-begun) (order_of (begun_face false 5) wrong_guess 265 _ (Leaks.goes 0 (Leaks.off 0))) in
    by_work ((d.answers.command in_ia1 wrong_guess buffer).worked z)
  where
    ours : command_of in_ia1 wrong_guess 265 ≡ said (Work.failed false)
    ours = Leaks.mismatch 0 (Leaks.off 0) (Leaks.off_wrong 0)

    answers : (failed_stays.command in_ia1 wrong_guess buffer).answer ≡ 10
    answers = rw ours refl

    leaves : (failed_stays.command in_ia1 wrong_guess buffer).next ≡ closed_tag in_ia1
    leaves = rw ours refl

    by_work : {reply : List Bool} → Worked face_of sound_of (command_leads (face_of in_ia1).name (face_of in_ia1) wrong_guess) (failed_stays.command in_ia1 wrong_guess buffer) reply → ⊥
    by_work (done k) = omega (arith, answers, k.answer)
    by_work (failed k) =
        let h = ap (λ (f : Face). name_number f.name) (sym (ap face_of leaves) ∙ k.next) in
        omega (arith, rw (face-closed in_ia1, face-begun) at h)

-- ---- nothing of an earlier board: two buffers, of zeros and of ones

abbrev held : List ℕ → List ℕ
held b = take 265 (shown (take 56 (bits_of_bytes b)) b)

held_differs : held buffer ≡ held (replicate 265 255) → ⊥
unfolding shown bytes_of bits_of_bytes bits_of digit num_of padded
held_differs e = omega (arith, ap (λ (l : List ℕ). get_or l 0 0) {x = held buffer} {y = held (replicate 265 255)} e)

pub leaves_earlier_lem : Demand1Tag leaves_earlier → ⊥
unfolding layout_of
leaves_earlier_lem d =
    let h = (d.forgets.command reset_tag (opening Ia 0) buffer (replicate 265 255) refl).area in
    held_differs (rw (opens Ia 0, length-challenge) at h)

-- ---- the reader: features that it hears

-- TA, IA or MA has been begun with options 0, and a response says these features
abbrev asking : ℕ → ReaderState
asking method = begun_reader method 0 5 0 empty_register

abbrev saying : ℕ → List ℕ
saying features = features ∷ replicate 14 0

asking_sound : (method : ℕ) → method < 3 → reader_sound (asking method) ≡ true
unfolding reader_sound reader_fits session_fits
asking_sound method h = rw (face_asked, secrets_asked, lt-ltb method 3 h) refl

-- 0 and 10 are not 4
not_four : {n : ℕ} {P : Type 0} → (n ≡ 0) ⊎ (P × (n ≡ 10)) → n ≡ 4 → ⊥
not_four (inl z) h = omega (arith, z, h)
not_four (inr p) h = omega (arith, p.1, h)

-- one that holds features by `right`, where the words say the contrary
module _ (right : ReaderFace → ℕ → Bool) (d : Demand1Reader (held_by right)) (method features count : ℕ) (h : method < 3)
    (e : count ≡ response_bits method) (w : count ≤ 120) where
  takes : Takes (held_by right) (asking method) (saying features) count buffer
  takes = record { sound = asking_sound method h; stage = rw face_asked refl; within = w; room = omega arith }

  abbrev heard : ℕ
  heard = heard_in (saying features)

  abbrev work : Result ReaderState
  work =
      let l = bits_of_bytes (saying features) in
      said (answered_by (reply_work (begun_reader_face method 0 5 0) (status_in l)) (asking method) l)

  -- it goes on, or answers 4
  by_right : (x : Bool) → right (begun_reader_face method 0 5 0) heard ≡ x
      → (held_by right).replied (asking method) (saying features) count buffer ≡ cond x (given work buffer) (given (refused_by closed_reader Unsupported) buffer)
  unfolding if_sound decided verdict_of closing_of
  by_right x own = rw (asking_sound method h, face_asked, reply-row, eq-eqb count (response_bits method) e, le-ltb 120 count w, own) (at x)
    where
      at : (x : Bool)
          → given (decided (cond (not x) (close Unsupported) (Ok tt)) (asking method) closed_reader work) buffer
          ≡ cond x (given work buffer) (given (refused_by closed_reader Unsupported) buffer)
      at true = refl
      at false = refl

  -- and the words say the contrary
  apart : (x : Bool) → right (begun_reader_face method 0 5 0) heard ≡ x → (offers heard method && supports heard 0) ≡ not x → ⊥
  apart true own words =
      let l = bits_of_bytes (saying features) in
      let four = (refuses (held_by right) d (asking method) (saying features) count buffer takes (rw face_asked e) (rw face_asked words)).answer in
      let went = asked_passes (asking method) (begun_reader_face method 0 5 0) (status_in l) l buffer refl in
      true≢false (sym went ∙ rw (sym (ap (λ (y : Given ReaderState). y.answer) (by_right true own)) ∙ four) refl)
  apart false own words =
      not_four (goes (held_by right) d (asking method) (saying features) count buffer takes (rw face_asked e) (rw face_asked words))
      (ap (λ (y : Given ReaderState). y.answer) (by_right false own))

-- IA's bit alone, in IA, which needs MAC32's
pub features_unheld_lem : Demand1Reader features_unheld → ⊥
unfolding bits_of_bytes bits_of digit num_of padded field_of
features_unheld_lem d = apart any_features d 1 2 56 (omega arith) refl (omega arith) true refl refl

-- the customers' tags: every bit but TA's, in TA
pub method_unheld_lem : Demand1Reader method_unheld → ⊥
unfolding bits_of_bytes bits_of digit num_of padded field_of
method_unheld_lem d = apart options_only d 0 30 120 (omega arith) refl (omega arith) true refl refl

-- TA's bit and MAC32's, and not IA's, in TA
pub ta_by_ia_bit_lem : Demand1Reader ta_by_ia_bit → ⊥
unfolding bits_of_bytes bits_of digit num_of padded field_of
ta_by_ia_bit_lem d = apart ia_bit_of_ta d 0 5 120 (omega arith) refl (omega arith) false refl refl

-- IA's bit and MAC32's, and not TA's, in MA, which needs none
pub ma_by_ta_bit_lem : Demand1Reader ma_by_ta_bit → ⊥
unfolding bits_of_bytes bits_of digit num_of padded field_of
ma_by_ta_bit_lem d = apart ta_bit_of_ma d 2 6 56 (omega arith) refl (omega arith) false refl refl
