-- Demands 1 and 2 have force: readers that go wrong where features lack a bit, on a refusal or at reset are refuted. Assumes nothing.
use mathlib.Core.Path.{◌≡◌, refl, sym, ap, ◌∙◌}
use mathlib.Core.Bool.{Bool, false, true≢false}
use mathlib.Core.List.{List, [], ◌∷◌, ◌++◌}
use Prim.Native.Nat.{ℕ, ◌^◌, ◌<◌}
use native.Mathlib.Omega.{arith}
use lib.ListN.{length, take, get_or, length-append}
use Rattle.bits.specs.Bits.{bits_of, digit, num_of}
use Rattle.bits.specs.Bytes.{bits_of_bytes, padded, field_of}
use Rattle.bits.proofs.Area.{length-shown}
use Rattle.bits.proofs.Fields.{field-of, field_skip, field-whole}
use Rattle.bits.proofs.Numbers.{bits_of-zero, length-bits_of}
use Rattle.bits.proofs.Replies.{length_first}
use Rattle.book.specs.Book as Book
use Rattle.grain.specs.Mac.{keystream}
use Rattle.grain.proofs.Back.{word_back}
use Rattle.grain.proofs.Runs.{length-keystream}
use Rattle.payloads.specs.Payloads.{features_in}
use Rattle.payloads.proofs.Layouts.{length_proof, length-challenge, length_one}
use Rattle.payloads.proofs.Reading.{proof_features, challenge-features, one_fields}
use Rattle.faces.specs.declared.ReaderFace.{ReaderFace}
use Rattle.faces.specs.declared.Stage.TheVariants.{Step1Sent}
use Rattle.faces.specs.ReaderFaces.{reader_fits}
use Rattle.rules.specs.Answers.{verdict_of, closing_of, kept, if_sound}
use Rattle.rules.specs.Calls.{Begin}
use Rattle.rules.specs.Results.{decided}
use Rattle.rules.specs.ReaderRules.{begin_verdict, reply_verdict, reply_work}
use Rattle.states.specs.Sessions.{empty_session, session_fits}
use Rattle.states.specs.ReaderStates.{ReaderState, reader_face_of, reader_secrets_of, reader_of, reader_sound, reset_reader, closed_reader, opened_reader}
use Rattle.states.proofs.ReaderStates.{face_asked, secrets_asked}
use Rattle.machines.specs.ReaderWork.{begin_of, replied_of, answered_by}
use Rattle.promises.specs.Machines.{TagMachine}
use Rattle.promises.specs.Ours.{given, our_reader}
use Rattle.promises.specs.Settings.{Setting, Honest, Supporting}
use Rattle.promises.specs.Transcript.{begun, begun_mac, first_word, tag_proof_bits, challenge_bits, step_one_bits}
use Rattle.promises.specs.Order.{first_of}
use Rattle.promises.specs.ReaderTable.{is_idle, is_open}
use Rattle.promises.specs.Demand1.{Demand1Reader}
use Rattle.promises.specs.Demand2.{ReaderProves, Demand2}
use Rattle.promises.specs.Wrong.{any_word}
use Rattle.promises.specs.WrongReaders.{ta_with}
use Rattle.promises.specs.AuditedReaders.{blind_without_ia, key_spills, closes_begin, takes_one_bit, status_opens, reset_keeps}
use Rattle.promises.proofs.Transcripts.{first_is, first_small, key}
use Rattle.promises.proofs.Opening.{begins}
use Rattle.promises.proofs.Proving.{answers}
use Rattle.promises.proofs.ComputedIa.{ia_first}
use Rattle.promises.proofs.Sessions.{setting_under, met_under}
use Rattle.promises.proofs.Refuted.{book, book-sound, book_knows, later, buffer, slice_of, carried, another, differs, asked, answered, step}
use Rattle.promises.proofs.Comparing.{taken, matched-done}

-- ---- TA's response with another word, its features without IA's bit

abbrev ta : Setting
ta = setting_under 13 0 0 0 0 book

ta_honest : Honest ta
ta_honest = met_under 13 0 0 0 0 book book-sound book_knows (omega arith) (omega arith) (omega arith) (omega arith) (omega arith) refl

pub blind_without_ia_lem : (T : TagMachine) → Demand2 blind_without_ia T → ⊥
blind_without_ia_lem T d =
    let guess = another (first_word ta) in
    let l = tag_proof_bits ta guess in
    let p = slice_of l in
    let other = differs 64 (first_word ta) (omega arith) in
    let c = carried l (rw length_proof (omega arith)) in
    let ten = ((step blind_without_ia T d ta ta_honest).1.refuses guess buffer p other (omega arith) c).0 in
    let r = (asked blind_without_ia T ta).next in
    let heard : features_in (bits_of_bytes p) ≡ 13
    = field-of 0 8 120 (bits_of_bytes p) _ (rw length_proof at c.same) (omega arith) ∙ proof_features 13 0 guess (omega arith) in
    taken (our_reader.replied r p 120 buffer) (given (ta_with any_word r (bits_of_bytes p)) buffer) (matched-done _) (rw (length_proof, heard) at ten)

-- ---- IA's step 1 command, its features without TA's bit: "first 64 keystream bits" is not the key, whose bits are zeros

abbrev ia : Setting
ia = setting_under 30 1 0 0 0 book

ia_honest : Honest ia
ia_honest = met_under 30 1 0 0 0 book book-sound book_knows (omega arith) (omega arith) (omega arith) (omega arith) (omega arith) refl

supporting : Supporting ia 30
supporting = record { byte = omega arith; options = refl }

-- its cipher is the one of all features
same-mac : begun_mac ia ≡ begun_mac (later false)
unfolding begun_mac begun
same-mac = refl

word_not-zero : 0 ≡ first_word ia → ⊥
unfolding keystream
word_not-zero e =
    let st = (begun_mac ia).st in
    let back = sym (bits_of-zero 64) ∙ ap (bits_of 64) (e ∙ first_is ia) ∙ word_back 64 (keystream 64 st) (length-keystream 64 st) in
    true≢false (sym (ap (λ (l : List Bool). get_or l 0 false) back ∙ rw same-mac ia_first))

key-zero : (key ia ia_honest).first ≡ 0
unfolding Book.key_of Book.known_of Book.ids_of Book.key_ids Book.place_in bits_of_bytes bits_of digit num_of padded field_of
key-zero = refl

-- a reply of sixteen bits and a word, where a step 1 command with another is meant
word_said : (p : List Bool) (a b : ℕ) → length p ≡ 16 → a < 2 ^ 64 → b < 2 ^ 64
    → take (length (step_one_bits ia b)) (bits_of_bytes (slice_of (p ++ bits_of 64 a))) ≡ step_one_bits ia b → a ≡ b
word_said p a b e h k same =
    let l = p ++ bits_of 64 a in
    let eighty : length l ≡ 80 = rw (length-append p (bits_of 64 a), e, length-bits_of 64 a) refl in
    let whole = rw eighty at (carried l (rw eighty (omega arith))).same in
    sym (field-of 16 64 80 (bits_of_bytes (slice_of l)) l whole (omega arith) ∙ field_skip 16 0 64 p (bits_of 64 a) e ∙ field-whole 64 a h)
    ∙ (one_fields 1 0 5 b (bits_of_bytes (slice_of l)) (rw length_one at same) (omega arith) (omega arith) (omega arith) k).last

pub key_spills_lem : (T : TagMachine) → Demand2 key_spills T → ⊥
key_spills_lem T d =
    let proves : ReaderProves key_spills T ia (asked key_spills T ia).next (answered key_spills T ia).next = (step key_spills T d ia ia_honest).1 in
    let l = challenge_bits ia in
    let own = step_one_bits ia (first_word ia) in
    let c = carried l (rw length-challenge (omega arith)) in
    let heard : features_in (bits_of_bytes (slice_of l)) ≡ 30
    = field-of 0 8 56 (bits_of_bytes (slice_of l)) _ (rw length-challenge at c.same) (omega arith) ∙ challenge-features 30 0 (omega arith) in
    let said = (proves.takes buffer (slice_of l) supporting (omega arith) c).0.same in
    let n : length own ≡ 80 = length_one 1 0 5 (first_word ia) in
    let same = rw (
      begins ia ia_honest 265 (omega arith),
      answers ia ia_honest false refl supporting (slice_of l) 265 (omega arith) c,
      face_asked,
      secrets_asked,
      key-zero,
      heard,
      n,
    ) at said in
    let sixteen = length_first 16 (slice_of own) (rw length-shown (omega arith)) in
    word_not-zero (word_said (take 16 (bits_of_bytes (slice_of own))) 0 (first_word ia) sixteen (omega arith) (first_small ia) (rw (← n) at same))

-- ---- refusals: a begin with a KeyID that is not in the book, which is 5; step 1 sent

abbrev unknown : Begin
unknown = record { method = 0; options = 0; keyid = 5; number = 0; book = [] }

pub closes-begin : Demand1Reader closes_begin → ⊥
unfolding first_of begin_of begin_verdict if_sound decided verdict_of closing_of kept reader_sound reader_fits session_fits reader_face_of reader_secrets_of
    reader_of reset_reader closed_reader Book.sound_of Book.known_of Book.ids_of Book.key_ids Book.place_in Book.rising
closes-begin d =
    let h = ((d.answers.begin reset_reader unknown buffer).refused (λ z. omega (arith, z))).next in
    true≢false (ap (λ (r : ReaderState). is_idle (reader_face_of r).stage) (sym h))

abbrev proving : ℕ → ReaderState
proving method = reader_of (record { stage = Step1Sent; method = method; options = 0; keyid = 5; number = 0; width = 32 }) empty_session

-- MA's answer of one bit 0
pub takes_one_bit_lem : Demand1Reader takes_one_bit → ⊥
unfolding first_of replied_of reply_verdict if_sound decided verdict_of closing_of reader_sound reader_fits session_fits reader_face_of reader_secrets_of reader_of
    bits_of_bytes bits_of digit num_of padded field_of
takes_one_bit_lem d =
    let h = ((d.answers.replied (proving 2) (0 ∷ []) 1 buffer).refused (λ z. omega (arith, z))).answer in
    omega (arith, h)

-- IA's status 1
pub status_opens_lem : Demand1Reader status_opens → ⊥
unfolding first_of replied_of reply_verdict reply_work answered_by if_sound decided verdict_of closing_of reader_sound reader_fits session_fits reader_face_of
    reader_secrets_of reader_of opened_reader bits_of_bytes bits_of digit num_of padded field_of
status_opens_lem d =
    let h = ((d.answers.replied (proving 1) (128 ∷ []) 1 buffer).refused (λ z. omega (arith, z))).next in
    true≢false (ap (λ (r : ReaderState). is_open (reader_face_of r).stage) h ∙ ap (λ (f : ReaderFace). is_open f.stage) d.stands.shut.0)

-- ---- reset

pub reset_keeps_lem : Demand1Reader reset_keeps → ⊥
unfolding reader_face_of reader_of
reset_keeps_lem d =
    let h = ap (λ (f : ReaderFace). f.number) (d.stands.idle (1 ∷ [])).0 in
    omega (arith, h)
