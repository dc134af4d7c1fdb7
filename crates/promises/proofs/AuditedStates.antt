-- Demand 1 has force: tags that hold more than a state, take another for sound, leave it otherwise, or write, say, read or take more are
-- refuted. Assumes nothing.
use mathlib.Core.Path.{◌≡◌, refl, sym, ap, ◌∙◌}
use mathlib.Core.Bool.{Bool, true, false, true≢false}
use mathlib.Core.List.{List, [], ◌∷◌, ◌++◌}
use Prim.Native.Nat.{ℕ, ◌^◌}
use native.Mathlib.Omega.{arith}
use lib.ListN.{length, get_or, replicate}
use Rattle.bits.specs.Area.{shown}
use Rattle.bits.specs.Bits.{bits_of, num_of, digit}
use Rattle.bits.specs.Bytes.{bits_of_bytes, bytes_of, padded, field_of}
use Rattle.book.specs.Book as Book
use Rattle.grain.specs.declared.Session.{Session}
use Rattle.grain.specs.declared.Method.TheVariants.{Ta, Ia, Ma}
use Rattle.payloads.specs.Payloads.{zeros_of, layout_of, tag_challenge}
use Rattle.faces.specs.declared.Face.{Face}
use Rattle.faces.specs.TagFaces.{face_fits}
use Rattle.rules.specs.Answers.{verdict_of, closing_of, if_sound}
use Rattle.rules.specs.Calls.{Command}
use Rattle.rules.specs.Results.{Result, decided, said}
use Rattle.rules.specs.TagRules.{key_under, shown_of, command_verdict, command_work}
use Rattle.states.specs.Sessions.{empty_register, empty_session, session_fits}
use Rattle.states.specs.TagStates.{TagState, face_of, secrets_of, tag_of, sound_of, reset_tag, closed_tag, begun_tag, open_tag, with_session}
use Rattle.states.proofs.TagStates.{face-open}
use Rattle.machines.specs.TagWork.{challenged, command_of, carried_of, worked_of, start_of, started_by, receive_of}
use Rattle.machines.proofs.TagSound.{open-sound}
use Rattle.promises.specs.Machines.{Given}
use Rattle.promises.specs.Order.{first_of, Worked, done, failed, Answered}
use Rattle.promises.specs.TagTable.{command_checks, command_leads}
use Rattle.promises.specs.Demand1.{Demand1Tag}
use Rattle.promises.specs.Audited.{Beside, turncoat_step, turncoat_messages, master_bit, hoards, counts_refusals, overwide, needless_eight}
use Rattle.promises.specs.Audited.{ones_at_reset, ones_at_close, closes_open, keeps_key_closed, never_closes}
use Rattle.promises.specs.Audited.{masks_features, beyond_area, reads_beyond, secure_in_ia}
use Rattle.promises.proofs.LeakRuns.{buffer, called, engine}
use Rattle.promises.proofs.RefutedRules.{command, says, compared-number}

-- ---- a stored state is its face and its session: two that differ in what is held beside them are one

nothing_beside : {A : Type 0} → ((s t : Beside A) → face_of s.tag ≡ face_of t.tag → secrets_of s.tag ≡ secrets_of t.tag → s ≡ t)
    → (x y : A) → x ≡ y
nothing_beside {A} whole x y =
    ap (λ (s : Beside A). s.held) (whole (record { tag = reset_tag; held = x }) (record { tag = reset_tag; held = y }) refl refl)

pub master_bit_lem : Demand1Tag master_bit → ⊥
master_bit_lem d = true≢false (nothing_beside d.stands.whole true false)

pub hoards-payload : Demand1Tag hoards → ⊥
hoards-payload d =
    let h : ◌≡◌ {A = ℕ} 0 1 = ap (λ (l : List ℕ). length l) (nothing_beside d.stands.whole [] (0 ∷ [])) in
    omega (arith, h)

pub turncoat-step-held : Demand1Tag turncoat_step → ⊥
turncoat-step-held d = let h = nothing_beside d.stands.whole 0 1 in omega (arith, h)

pub turncoat-messages-held : Demand1Tag turncoat_messages → ⊥
turncoat-messages-held d = let h = nothing_beside d.stands.whole 0 1 in omega (arith, h)

-- a refusal that keeps keeps the whole state: 2, in no buffer
pub counts_refusals_lem : Demand1Tag counts_refusals → ⊥
unfolding first_of command_of carried_of command_verdict verdict_of if_sound decided shown_of sound_of face_fits session_fits face_of secrets_of tag_of reset_tag
counts_refusals_lem d =
    let s : Beside ℕ = record { tag = reset_tag; held = 0 } in
    let h = ap (λ (s : Beside ℕ). s.held) ((d.answers.command s (command 0 [] 0) []).refused (λ z. omega (arith, z))).next in
    omega (arith, h)

-- ---- "8 is given exactly when": "accumulator or register is 2^w or more"; registers of zeros are not among it

abbrev wide : TagState
wide = open_tag Ta 5 0 (record { engine = empty_session.engine; acc = 2 ^ 32; reg = 0 })

pub over_wide : Demand1Tag overwide → ⊥
unfolding sound_of face_fits session_fits face_of secrets_of tag_of open_tag with_session
over_wide d = true≢false (d.stands.sound wide)

pub needless_eight_lem : Demand1Tag needless_eight → ⊥
unfolding sound_of face_fits session_fits face_of secrets_of tag_of begun_tag
needless_eight_lem d = true≢false (sym (d.stands.sound (begun_tag false 5 empty_session.engine)))

-- ---- what reset and closing leave

abbrev first_word : Session → ℕ
first_word x = x.engine.b.first

pub ones_at_reset_lem : Demand1Tag ones_at_reset → ⊥
unfolding secrets_of tag_of with_session
ones_at_reset_lem d = let h = ap first_word (d.stands.fresh []).1 in omega (arith, h)

pub ones_at_close_lem : Demand1Tag ones_at_close → ⊥
unfolding secrets_of tag_of with_session
ones_at_close_lem d = let h = ap first_word (d.stands.close reset_tag).1 in omega (arith, h)

pub closes-open : Demand1Tag closes_open → ⊥
unfolding face_of tag_of reset_tag
closes-open d = true≢false (sym (ap (λ (f : Face). f.error) (d.stands.close reset_tag).0))

-- a tag in IA.1 with a key
abbrev keyed : TagState
keyed = begun_tag false 5 (record { b = record { first = 1; last = 0 }; s = empty_register })

pub keeps_key-closed : Demand1Tag keeps_key_closed → ⊥
unfolding secrets_of tag_of with_session begun_tag
keeps_key-closed d = let h = ap first_word (d.stands.close keyed).1 in omega (arith, h)

-- a comm command in CS-Reset is 3, "closed"
pub never_closes_lem : Demand1Tag never_closes → ⊥
unfolding first_of command_of carried_of command_verdict verdict_of closing_of if_sound decided shown_of sound_of face_fits session_fits face_of secrets_of
    tag_of reset_tag closed_tag Book.sound_of Book.ids_of Book.key_ids Book.rising
never_closes_lem d =
    let h = ((d.answers.command reset_tag (command 1 [] 0) buffer).refused (λ z. omega (arith, z))).next in
    true≢false (sym (ap (λ (t : TagState). (face_of t).error) h))

-- ---- what is written, said, read and taken

-- a buffer one byte longer than the area, and a refusal, whose reply has no bits
abbrev longer : List ℕ
longer = replicate 266 255

pub beyond-area : Demand1Tag beyond_area → ⊥
unfolding first_of command_of carried_of command_verdict verdict_of closing_of if_sound decided shown_of sound_of face_fits session_fits face_of secrets_of
    tag_of reset_tag Book.sound_of Book.ids_of Book.key_ids Book.rising shown bytes_of padded num_of
beyond-area d =
    let a = d.answers.command reset_tag (command 1 [] 0) longer in
    let h = a.area ∙ ap (λ (l : List Bool). shown l longer) (a.refused (λ z. omega (arith, z))).none in
    let n : ◌≡◌ {A = ℕ} 0 255 = ap (λ (l : List ℕ). get_or l 265 0) h in
    omega (arith, n)

-- two slices alike in their first 0 bits
pub reads_beyond_lem : Demand1Tag reads_beyond → ⊥
unfolding command_of carried_of command_verdict verdict_of if_sound decided shown_of sound_of face_fits session_fits face_of secrets_of tag_of reset_tag
    bits_of_bytes bits_of digit
reads_beyond_lem d =
    let h = d.forgets.command_bits reset_tag (command 0 (128 ∷ []) 0) (0 ∷ []) [] (record { bits = refl }) in
    let n : ◌≡◌ {A = ℕ} 11 2 = ap (λ (g : Given TagState). g.answer) h in
    omega (arith, n)

-- a secure message of no data in IA.2, whose options enable it
abbrev in_ia2 : TagState
in_ia2 = open_tag Ia 5 2 empty_session

abbrev secure : Command
secure = command 2 (replicate 5 0) 40

pub secure_in_ia_lem : Demand1Tag secure_in_ia → ⊥
unfolding first_of if_sound decided shown_of verdict_of closing_of command_work worked_of receive_of zeros_of Book.sound_of Book.ids_of Book.key_ids Book.rising
    bits_of_bytes bits_of digit num_of padded field_of
secure_in_ia_lem d =
    let sound : sound_of in_ia2 ≡ true = open-sound 5 2 empty_session refl refl Ia in
    let e : first_of (command_checks (sound_of in_ia2) (face_of in_ia2) secure 265) ≡ 3 = rw (sound, face-open) refl in
    let h = says secure_in_ia d in_ia2 secure buffer 2 e in
    compared-number _ _ _ _ 3 refl refl (rw (sound, face-open) at h)

-- ---- step 0 of MA, to a tag whose features are eight ones: the first byte that is said is they

abbrev all_features : Command
all_features = called 255 0 0 (128 ∷ 5 ∷ replicate 6 0) 64

masked : command_of reset_tag (called 31 0 0 (128 ∷ 5 ∷ replicate 6 0) 64) 265 ≡ said (challenged true 5 31 0 (engine Ma 0))
unfolding command_of if_sound carried_of decided command_verdict command_work worked_of start_of started_by shown_of key_under verdict_of closing_of
    sound_of face_fits session_fits face_of secrets_of tag_of reset_tag Book.sound_of Book.known_of Book.ids_of Book.key_ids Book.place_in Book.rising
    bits_of_bytes bits_of digit num_of padded field_of
masked = refl

goes : first_of (command_checks (sound_of reset_tag) (face_of reset_tag) all_features 265) ≡ 0
unfolding first_of sound_of face_fits session_fits face_of secrets_of tag_of reset_tag Book.sound_of Book.known_of Book.ids_of Book.key_ids Book.place_in
    Book.rising bits_of_bytes bits_of digit num_of padded field_of
goes = refl

first_masked : get_or (shown (bits_of 8 31 ++ bits_of 48 0) buffer) 0 0 ≡ 31
unfolding shown bytes_of bits_of digit num_of padded
first_masked = refl

first_whole : (l : List Bool) → get_or (shown ((bits_of 8 255 ++ bits_of 48 0) ++ l) buffer) 0 0 ≡ 255
unfolding shown bytes_of bits_of digit num_of padded
first_whole l = refl

pub masks_features_lem : Demand1Tag masks_features → ⊥
unfolding face_of tag_of reset_tag layout_of tag_challenge
masks_features_lem d = by_work (a.worked goes)
  where
    a : Answered face_of sound_of (command_checks (sound_of reset_tag) (face_of reset_tag) all_features 265)
        (command_leads (face_of reset_tag).name (face_of reset_tag) all_features) reset_tag (closed_tag reset_tag) buffer
        (masks_features.command reset_tag all_features buffer)
    a = d.answers.command reset_tag all_features buffer

    by_work : Worked face_of sound_of (command_leads (face_of reset_tag).name (face_of reset_tag) all_features)
        (masks_features.command reset_tag all_features buffer) a.reply → ⊥
    by_work (done k) =
        let says = ap (λ (r : Result TagState). shown r.reply buffer) masked in
        let h = sym says ∙ (a.area ∙ ap (λ (l : List Bool). shown l buffer) k.said) in
        let n = sym first_masked ∙ ap (λ (l : List ℕ). get_or l 0 0) h ∙ first_whole _ in
        omega (arith, n)
    by_work (failed k) = true≢false (sym k.compared)
